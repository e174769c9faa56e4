use Rattle.std.proofs.Common.{◌<◌, length, arith}
use Rattle.std.proofs.lemmas.Option.{slice_get_within}
use Rattle.close_rects.proofs.Indexes.{Covers-more}
use Rattle.close_rects.proofs.blocks.own_bounds.Goals as goal

pub loop-at-preserved : goal.loop-at-preserved
loop-at-preserved c =
    Covers-more _ _ _ c.at.result c.loop-at.bounds _ c.at.ensures.is c.loop-at.invariant c.with_item-bounds.ensures.kept c.with_item-bounds.ensures.added

pub returns : goal.returns
returns c = λ k item on below is left.
    let within : k < length c.args.items.now = slice_get_within _ k item is in
    c.loop-at.invariant k item on (omega arith) is left
