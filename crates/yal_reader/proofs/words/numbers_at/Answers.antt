use Rattle.std.proofs.Common.{SFits, arith, rules, sym, to_z-of_z, w64, ◌∙◌}
use Rattle.std.proofs.lemmas.Result.{err_from_is_err_and}
use Rattle.yal_reader.proofs.RunLaws.{front-ends, front-fails, front-on, front-flawed, numbers-end, numbers-fails, numbers-on}
use Rattle.yal_reader.proofs.words.numbers_at.Goals as goal

pub returns-in_default-number_of-clause-gives : goal.returns-in_default-number_of-clause-gives
returns-in_default-number_of-clause-gives c =
    rw c.bad.ensures (front-flawed c.loop-word.found.items _ _ _ (numbers-fails c.args.numbers _ _ _ c.in-Ok.ensures.gives (sym c.number_of.ensures ∙ c.in_default-number_of.is)) c.loop-word.invariant.0)

pub loop-word-preserved : goal.loop-word-preserved
loop-word-preserved c = (
  let fits : SFits w64 c.in-Some.n = search rules in
      rw (c.in_ok-push.ensures.items, to_z-of_z {w = w64} {z = c.in-Some.n} fits) (front-on c.loop-word.found.items _ _ _ _ (numbers-on c.args.numbers _ _ _ _ c.in-Ok.ensures.gives (sym c.in-Some.ensures)) c.loop-word.invariant.0),
  omega (arith, c.in-Ok.ensures.shorter, c.loop-word.invariant.1),
)

pub returns-in_err-rest-clause-gives : goal.returns-in_err-rest-clause-gives
returns-in_err-rest-clause-gives c =
    let p = err_from_is_err_and c.from_residual-in_err-rest.result c.from_residual-in_err-rest.ensures.1 in
    rw (p.1, p.2) (front-fails c.loop-word.found.items _ _ _ _ (numbers-end c.args.numbers _ _ c.in_default.ensures.gives) c.in_err-rest.ensures.gives c.loop-word.invariant.0)

pub returns-clause-gives : goal.returns-clause-gives
returns-clause-gives c = front-ends c.loop-word.found.items _ _ _ _ (numbers-end c.args.numbers _ _ c.in_default.ensures.gives) c.in_ok-rest.ensures.gives c.loop-word.invariant.0
