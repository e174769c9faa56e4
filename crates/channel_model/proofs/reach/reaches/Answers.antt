use Rattle.std.proofs.Common.{sym, ◌∙◌, rules}
use Rattle.channel_model.proofs.ReachLaws.{reaches-skip, reaches-set}
use Rattle.channel_model.proofs.reach.reaches.Goals as goal

pub loop-column-preserved-then-net-eq0 : goal.loop-column-preserved-then-net-eq0
loop-column-preserved-then-net-eq0 c =
    c.loop-column.invariant ∙ sym (reaches-skip c.args.side.now c.args.nets.now c.loop-column.column c.requires.positive (search rules))

pub loop-column-preserved : goal.loop-column-preserved
loop-column-preserved c =
    rw (c.reach_to.ensures, c.loop-column.invariant)
    (sym (reaches-set c.args.side.now c.args.nets.now c.loop-column.column c.place_of-place.result c.index.result.now c.requires.ascending
    c.place_of-place.ensures.within c.place_of-place.ensures.there (rw c.loop-column.invariant at c.index.ensures)))
