use Rattle.std.proofs.Common.{◌+◌, ℕ, get_or, sym, arith, subst, take}
use Rattle.std.proofs.lemmas.List.{get_or_default}
use Rattle.row_board.specs.Extreme.{IsExtreme}
use Rattle.row_board.specs.declared.extreme.Extreme.{Extreme}
use Rattle.row_board.proofs.ExtremeLaws.{extreme-next}
use Rattle.row_board.proofs.extreme.Extreme.of.Goals as goal

pub loop-number-preserved : goal.loop-number-preserved
loop-number-preserved c =
    let k : ℕ = c.loop-number.number-index in
    let n : ℕ = get_or c.in-Some.others.now k 0 in
    subst (λ (e : Extreme). IsExtreme c.args.side (take (k + 1 + 1) c.args.numbers.now) e) (sym c.with_number-extreme.ensures)
    (extreme-next c.args.side c.args.numbers.now c.in-Some.others.now c.in-Some.first.now k n c.loop-number.extreme c.in-Some.ensures.cases.0 (omega arith)
    (get_or_default c.in-Some.others.now k 0 n (omega arith)) c.loop-number.invariant)
