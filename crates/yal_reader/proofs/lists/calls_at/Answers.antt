use Rattle.std.proofs.Common.{arith, codes, refl, sym, ◌∙◌}
use Rattle.std.proofs.lemmas.Result.{err_from_is_err_and}
use Rattle.yal_reader.proofs.FuelLaws.{call_names-push, until-ends, until-fails, until-here, until-on}
use Rattle.yal_reader.specs.Kept.{call_names}
use Rattle.yal_reader.specs.Lists.{call_after}
use Rattle.yal_reader.proofs.lists.calls_at.Goals as goal

pub returns-in_err-first-clause-gives : goal.returns-in_err-first-clause-gives
returns-in_err-first-clause-gives c = λ n lt.
    let p = err_from_is_err_and c.from_residual.result c.from_residual.ensures.1 in
    rw (p.1, p.2)
    (until-ends (codes "ENDNETWORK") (λ calls. call_after (call_names calls)) c.loop-names.found.items _ _ _ _ (rw c.statement_at.ensures.gives at c.in_err-first.ensures.gives) (c.loop-names.invariant.0 n lt))

pub returns-then-is_word-clause-gives : goal.returns-then-is_word-clause-gives
returns-then-is_word-clause-gives c = λ n lt.
    until-here (codes "ENDNETWORK") (λ calls. call_after (call_names calls)) c.loop-names.found.items _ _ _ _ _ (rw c.statement_at.ensures.gives at c.in_ok-first.ensures.gives)
    (sym c.is_word.ensures ∙ c.if-is_word.true) (c.loop-names.invariant.0 n lt)

pub returns-in_err-call-clause-gives : goal.returns-in_err-call-clause-gives
returns-in_err-call-clause-gives c = λ n lt.
    let p = err_from_is_err_and c.from_residual-in_err-call.result c.from_residual-in_err-call.ensures.1 in
    rw (p.1, p.2)
    (until-fails _ (codes "ENDNETWORK") (λ calls. call_after (call_names calls)) c.loop-names.found.items _ _ _ _ _ (rw c.statement_at.ensures.gives at c.in_ok-first.ensures.gives)
    (sym c.is_word.ensures ∙ c.if-is_word.false) (rw c.loop-names.invariant.2 at c.in_err-call.ensures.gives) (c.loop-names.invariant.0 n lt))

pub loop-names-preserved : goal.loop-names-preserved
loop-names-preserved c = (
  λ n lt. rw c.in_ok-push.ensures.items
      (until-on (codes "ENDNETWORK") (λ calls. call_after (call_names calls)) c.loop-names.found.items _ _ _ _ _ _ _ _ (rw c.statement_at.ensures.gives at c.in_ok-first.ensures.gives)
      (sym c.is_word.ensures ∙ c.if-is_word.false) (rw c.loop-names.invariant.2 at c.in_ok-call.ensures.gives)
      (omega (arith, c.statement_at.ensures.shorter, c.in_ok-first.ensures.shorter, c.in_ok-call.ensures.shorter)) (c.loop-names.invariant.0 n lt)),
  omega (arith, c.statement_at.ensures.shorter, c.in_ok-first.ensures.shorter, c.in_ok-call.ensures.shorter, c.loop-names.invariant.1),
  rw c.in_ok-push.ensures.items (c.in_ok-call.ensures.grown ∙ rw c.loop-names.invariant.2 refl ∙ sym (call_names-push c.loop-names.found.items c.in_ok-call.call)),
)
