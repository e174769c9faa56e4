use Rattle.std.proofs.Common.{arith, length, refl, sym, ◌∙◌}
use Rattle.std.proofs.lemmas.Result.{err_from_is_err_and}
use Rattle.yal_reader.proofs.FuelLaws.{module_names-push, modules-end, modules-fails, modules-on}
use Rattle.yal_reader.proofs.modules.modules_at.Goals as goal

pub returns-then-is_at_end : goal.returns-then-is_at_end
returns-then-is_at_end c = λ n lt.
    modules-end c.args.numbers c.loop-start.found.items _ _ _ (rw c.statement_at-start.ensures.gives at (sym c.is_at_end.ensures ∙ c.if-is_at_end.true)) (c.loop-start.invariant.0 n lt)

pub returns-in_err-module : goal.returns-in_err-module
returns-in_err-module c = λ n lt.
    let p = err_from_is_err_and c.from_residual.result c.from_residual.ensures.1 in
    rw (p.1, p.2)
    (modules-fails c.args.numbers _ c.loop-start.found.items _ (length c.statement_at-start.result.now) _ _ (rw c.statement_at-start.ensures.gives at (sym c.is_at_end.ensures ∙ c.if-is_at_end.false))
    c.statement_at-start.ensures.shorter
    (λ m more. rw (c.loop-start.invariant.2, c.statement_at-start.ensures.gives) at (c.in_err-module.ensures.gives m more)) (c.loop-start.invariant.0 n lt))

pub loop-start-preserved : goal.loop-start-preserved
loop-start-preserved c = (
  λ n lt. rw c.in_ok-push.ensures.items
      (modules-on c.args.numbers c.loop-start.found.items c.in_ok-module.module _ _ _ (length c.statement_at-start.result.now) _ _ (rw c.statement_at-start.ensures.gives at (sym c.is_at_end.ensures ∙ c.if-is_at_end.false))
      c.statement_at-start.ensures.shorter c.in_ok-module.ensures.shorter
      (λ m more. rw (c.loop-start.invariant.2, c.statement_at-start.ensures.gives) at (c.in_ok-module.ensures.gives m more)) (c.loop-start.invariant.0 n lt)),
  omega (arith, c.statement_at-start.ensures.shorter, c.in_ok-module.ensures.shorter, c.loop-start.invariant.1),
  rw c.in_ok-push.ensures.items (c.in_ok-module.ensures.grown ∙ rw c.loop-start.invariant.2 refl ∙ sym (module_names-push c.loop-start.found.items c.in_ok-module.module)),
)
