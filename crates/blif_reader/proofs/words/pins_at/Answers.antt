use Rattle.std.proofs.Common.{arith}
use Rattle.std.proofs.lemmas.Result.{err_from_is_err_and}
use Rattle.blif_reader.proofs.RunLaws.{pins-end, pins-fail, pins-on}
use Rattle.blif_reader.proofs.words.pins_at.Goals as goal

pub returns-in_err-pin_of-clause-gives : goal.returns-in_err-pin_of-clause-gives
returns-in_err-pin_of-clause-gives c =
    let p = err_from_is_err_and c.from_residual.result c.from_residual.ensures.1 in
    rw (p.1, p.2) (pins-fail c.args.size _ c.loop-word.found.items _ _ _ _ c.in-Ok.ensures.gives c.in_err-pin_of.ensures c.loop-word.invariant.0)

pub loop-word-preserved : goal.loop-word-preserved
loop-word-preserved c = (
  rw c.in_ok-push.ensures.items (pins-on c.args.size c.loop-word.found.items _ _ _ _ _ c.in-Ok.ensures.gives c.in_ok-pin_of.ensures c.loop-word.invariant.0),
  omega (arith, c.in-Ok.ensures.shorter, c.loop-word.invariant.1),
)

pub returns-clause-gives : goal.returns-clause-gives
returns-clause-gives c = pins-end c.args.size c.loop-word.found.items _ _ _ _ c.in_default.ensures.gives c.in_ok-rest.ensures.gives c.loop-word.invariant.0
