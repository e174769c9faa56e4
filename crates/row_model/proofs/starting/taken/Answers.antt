use Rattle.std.proofs.Common.{◌-◌, ℕ, ap, ◌∙◌, arith}
use Rattle.row_model.specs.Start.{taken}
use Rattle.row_model.proofs.StartLaws.{taken-more}
use Rattle.row_model.proofs.starting.taken.Goals as goal

pub loop-n-preserved : goal.loop-n-preserved
loop-n-preserved c =
    taken-more c.args.design.now c.loop-n.wanted c.saturating_sub-wanted.result c.args.first c.loop-n.n c.args.count (taken c.args.design.now c.args.target c.args.first c.args.count)
    (omega (arith, c.if-wanted-eq0.false)) c.loop-n-test.true (c.saturating_sub-wanted.ensures ∙ ap (λ (n : ℕ). c.loop-n.wanted - n) (c.from.ensures ∙ c.columns_of.ensures.width)) c.loop-n.invariant
