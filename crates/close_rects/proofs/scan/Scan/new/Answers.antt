use Rattle.std.proofs.Common.{SFits, w64}
use Rattle.std.proofs.lemmas.Int.{to_z-of_z}
use Rattle.close_rects.proofs.Fits.{fit_moved}
use Rattle.close_rects.proofs.Once.{AreClosePairs-rows}
use Rattle.close_rects.proofs.Rows.{rows_from-all}
use Rattle.close_rects.proofs.Sets.{entries_moved}
use Rattle.close_rects.proofs.scan.Scan.new.Goals as goal

pub invariant_of-result-2 : goal.invariant_of-result-2
invariant_of-result-2 c =
    let moved = rw (← c.in_ok-of.ensures, c.in_ok-numbered.ensures.numbered) at c.ordered-items.ensures in
    fit_moved c.args.rects.now _ c.in_ok-numbered.ensures.inside c.requires.wide moved

pub returns : goal.returns
returns c =
    let moved = rw (← c.in_ok-of.ensures, c.in_ok-numbered.ensures.numbered) at c.ordered-items.ensures in
    let fits : SFits w64 c.args.reach = c.ranges.reach in
    rw (to_z-of_z, rows_from-all) (AreClosePairs-rows c.args.reach c.args.rects.now _ (entries_moved _ _ moved))
