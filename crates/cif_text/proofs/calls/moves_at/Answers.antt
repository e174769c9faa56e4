use Rattle.cif_text.proofs.calls.moves_at.Goals as goal
use Rattle.std.proofs.Common.{arith, sym, ap, ◌∙◌}
use Rattle.std.proofs.lemmas.Result.{err_from_is_err_and}
use Rattle.cif_text.proofs.Moves.{moves_from}
use Rattle.cif_text.proofs.MoveLaws.{step-left, moves-on, moves-fail, moves-end, within-more}
use Rattle.std_laws.proofs.Slices.{length-none}

pub returns-in_err-step : goal.returns-in_err-step
returns-in_err-step c =
    let p = err_from_is_err_and c.from_residual.result c.from_residual.ensures.1 in
    let fails = moves-fail c.loop-letter.whole c.in-Some.letter.now c.in-Some.after.now _ c.in_err-step.ensures in
    rw (p.1, p.2) (sym c.loop-letter.invariant.0 ∙ ap (moves_from c.loop-letter.whole) c.in-Some.ensures.cases.0 ∙ fails)

pub loop-letter-smaller : goal.loop-letter-smaller
loop-letter-smaller c =
    let few = step-left c.in-Some.letter.now c.in-Some.after.now c.in_ok-step.after.now _ c.in_ok-step.ensures in
    omega (arith, few, c.after_blanks-rest.ensures.shorter, c.in-Some.ensures.cases.1)

pub loop-letter-preserved : goal.loop-letter-preserved
loop-letter-preserved c =
    let few = step-left c.in-Some.letter.now c.in-Some.after.now c.in_ok-step.after.now _ c.in_ok-step.ensures in
    let on = moves-on c.loop-letter.whole c.in-Some.letter.now c.in-Some.after.now c.in_ok-step.after.now _ c.in_ok-step.ensures in (
      rw (c.followed-whole.ensures.is, c.after_blanks-rest.ensures.rest)
          (sym on ∙ ap (moves_from c.loop-letter.whole) (sym c.in-Some.ensures.cases.0) ∙ c.loop-letter.invariant.0),
      within-more _ _ c.followed-whole.result (omega (arith, few, c.after_blanks-rest.ensures.shorter, c.in-Some.ensures.cases.1, c.loop-letter.invariant.2))
          (c.followed-whole.ensures.within _ c.loop-letter.invariant.1),
      omega (arith, few, c.after_blanks-rest.ensures.shorter, c.in-Some.ensures.cases.1, c.loop-letter.invariant.2),
    )

pub returns : goal.returns
returns c =
    let none = length-none c.loop-letter.rest.now c.in_default.ensures.cases in
    sym c.loop-letter.invariant.0 ∙ ap (moves_from c.loop-letter.whole) none ∙ moves-end c.loop-letter.whole
