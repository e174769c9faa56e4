use Rattle.std.proofs.Common.{arith}
use Rattle.std.proofs.lemmas.Result.{err_from_is_err_and}
use Rattle.yal_reader.proofs.RunLaws.{front-ends, front-fails, front-on, words-end, words-on}
use Rattle.yal_reader.proofs.words.words_at.Goals as goal

pub loop-word-preserved : goal.loop-word-preserved
loop-word-preserved c = (
  rw (c.in_ok-push.ensures.items, c.in_ok-name_of.ensures) (front-on c.loop-word.found.items _ _ _ _ (words-on _ _ _ c.in-Ok.ensures.gives) c.loop-word.invariant.0),
  omega (arith, c.in-Ok.ensures.shorter, c.loop-word.invariant.1),
)

pub returns-in_err-rest-clause-gives : goal.returns-in_err-rest-clause-gives
returns-in_err-rest-clause-gives c =
    let p = err_from_is_err_and c.from_residual-in_err-rest.result c.from_residual-in_err-rest.ensures.1 in
    rw (p.1, p.2) (front-fails c.loop-word.found.items _ _ _ _ (words-end _ _ c.in_default.ensures.gives) c.in_err-rest.ensures.gives c.loop-word.invariant.0)

pub returns-clause-gives : goal.returns-clause-gives
returns-clause-gives c = front-ends c.loop-word.found.items _ _ _ _ (words-end _ _ c.in_default.ensures.gives) c.in_ok-rest.ensures.gives c.loop-word.invariant.0
