use Rattle.std.proofs.Common.{◌+◌, ◌-◌, ◌/◌, SFits, rules, arith, w64}
use Rattle.region_cut.specs.Grids.{line}
use Rattle.region_cut.proofs.ReachLaws.{parted-over, parted-under}
use Rattle.region_cut.proofs.marks.line_from.Goals as goal

pub loop-low-preserved-then-across-middle : goal.loop-low-preserved-then-across-middle
loop-low-preserved-then-across-middle c =
    let fits : SFits w64 (line c.args.across.now (c.loop-low.low + (c.loop-low.high - c.loop-low.low) / 2)) = search rules in
    parted-under c.args.across.now _ c.loop-low.low c.loop-low.high _ c.requires c.loop-low.invariant (omega arith) fits c.if-across-middle.true

pub loop-low-preserved : goal.loop-low-preserved
loop-low-preserved c =
    let fits : SFits w64 (line c.args.across.now (c.loop-low.low + (c.loop-low.high - c.loop-low.low) / 2)) = search rules in
    parted-over c.args.across.now _ c.loop-low.low c.loop-low.high _ c.requires c.loop-low.invariant (omega arith) (omega arith) fits c.if-across-middle.false
