use Rattle.std.proofs.Common.{arith, codes, sym, ◌∙◌}
use Rattle.std.proofs.lemmas.Result.{err_from_is_err_and}
use Rattle.yal_reader.proofs.FuelLaws.{until-ends, until-fails, until-here, until-on}
use Rattle.yal_reader.specs.Lists.{line_after}
use Rattle.yal_reader.proofs.lists.lines_at.Goals as goal

pub returns-in_err-first-clause-gives : goal.returns-in_err-first-clause-gives
returns-in_err-first-clause-gives c = λ n lt.
    let p = err_from_is_err_and c.from_residual.result c.from_residual.ensures.1 in
    rw (p.1, p.2)
    (until-ends (codes "ENDIOLIST") (λ _. line_after c.args.numbers c.args.kind) c.loop-found.found.items _ _ _ _ (rw c.statement_at.ensures.gives at c.in_err-first.ensures.gives) (c.loop-found.invariant.0 n lt))

pub returns-then-is_word-clause-gives : goal.returns-then-is_word-clause-gives
returns-then-is_word-clause-gives c = λ n lt.
    until-here (codes "ENDIOLIST") (λ _. line_after c.args.numbers c.args.kind) c.loop-found.found.items _ _ _ _ _ (rw c.statement_at.ensures.gives at c.in_ok-first.ensures.gives)
    (sym c.is_word.ensures ∙ c.if-is_word.true) (c.loop-found.invariant.0 n lt)

pub returns-in_err-line-clause-gives : goal.returns-in_err-line-clause-gives
returns-in_err-line-clause-gives c = λ n lt.
    let p = err_from_is_err_and c.from_residual-in_err-line.result c.from_residual-in_err-line.ensures.1 in
    rw (p.1, p.2)
    (until-fails _ (codes "ENDIOLIST") (λ _. line_after c.args.numbers c.args.kind) c.loop-found.found.items _ _ _ _ _ (rw c.statement_at.ensures.gives at c.in_ok-first.ensures.gives)
    (sym c.is_word.ensures ∙ c.if-is_word.false) c.in_err-line.ensures.gives (c.loop-found.invariant.0 n lt))

pub loop-found-preserved : goal.loop-found-preserved
loop-found-preserved c = (
  λ n lt. rw c.in_ok-push.ensures.items
      (until-on (codes "ENDIOLIST") (λ _. line_after c.args.numbers c.args.kind) c.loop-found.found.items _ _ _ _ _ _ _ _ (rw c.statement_at.ensures.gives at c.in_ok-first.ensures.gives)
      (sym c.is_word.ensures ∙ c.if-is_word.false) c.in_ok-line.ensures.gives (omega (arith, c.statement_at.ensures.shorter, c.in_ok-first.ensures.shorter, c.in_ok-line.ensures.shorter)) (c.loop-found.invariant.0 n lt)),
  omega (arith, c.statement_at.ensures.shorter, c.in_ok-first.ensures.shorter, c.in_ok-line.ensures.shorter, c.loop-found.invariant.1),
)
