use Rattle.std.proofs.Common.{sym, ◌∙◌}
use Rattle.left_edge.proofs.CountLaws.{over_skip}
use Rattle.left_edge.proofs.spans.nets_over.Goals as goal

pub loop-place-preserved-then-not-is_over : goal.loop-place-preserved-then-not-is_over
loop-place-preserved-then-not-is_over c =
    c.loop-place.invariant
    ∙ over_skip c.args.spanned.now.channel.now c.args.spanned.now.nets.now c.args.spanned.now.spans.now c.loop-place.place c.args.column c.args.spanned.now.spanned c.loop-place-test.true _
    (sym c.is_over.ensures ∙ c.if-not-is_over.true)
