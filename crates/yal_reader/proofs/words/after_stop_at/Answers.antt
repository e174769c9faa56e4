use Rattle.std.proofs.Common.{arith, sym, ◌∙◌}
use Rattle.std.proofs.lemmas.Result.{err_from_is_err_and}
use Rattle.yal_reader.proofs.RunLaws.{stop-err, stop-fails, stop-here, stop-on}
use Rattle.yal_reader.proofs.words.after_stop_at.Goals as goal

pub returns-in_err-word-clause-gives : goal.returns-in_err-word-clause-gives
returns-in_err-word-clause-gives c =
    let p = err_from_is_err_and c.from_residual.result c.from_residual.ensures.1 in
    rw (p.1, p.2) (stop-err c.args.keyword.now _ _ _ (rw c.statement_at.ensures.gives at c.in_err-word.ensures.gives) c.loop-word.invariant.0)

pub returns-then-is_word-clause-gives : goal.returns-then-is_word-clause-gives
returns-then-is_word-clause-gives c =
    stop-here c.args.keyword.now _ _ _ _ (rw c.statement_at.ensures.gives at c.in_ok-word.ensures.gives) (sym c.is_word.ensures ∙ c.if-is_word.true) c.loop-word.invariant.0

pub returns-in_err-rest-clause-gives : goal.returns-in_err-rest-clause-gives
returns-in_err-rest-clause-gives c =
    let p = err_from_is_err_and c.from_residual-in_err-rest.result c.from_residual-in_err-rest.ensures.1 in
    rw (p.1, p.2)
    (stop-fails c.args.keyword.now _ _ _ _ _ (rw c.statement_at.ensures.gives at c.in_ok-word.ensures.gives) (sym c.is_word.ensures ∙ c.if-is_word.false) c.in_err-rest.ensures.gives c.loop-word.invariant.0)

pub loop-word-preserved : goal.loop-word-preserved
loop-word-preserved c = (
  stop-on c.args.keyword.now _ _ _ _ _ (rw c.statement_at.ensures.gives at c.in_ok-word.ensures.gives) (sym c.is_word.ensures ∙ c.if-is_word.false) c.in_ok-rest.ensures.gives c.loop-word.invariant.0,
  omega (arith, c.statement_at.ensures.shorter, c.in_ok-word.ensures.shorter, c.in_ok-rest.ensures.shorter, c.loop-word.invariant.1),
)
