use Rattle.std.proofs.Common.{◌≡◌, ◌<◌, ap, sym, ◌∙◌, subst, arith}
use Rattle.row_board.specs.Extreme.{extreme_with, extreme_without, IsExtreme}
use Rattle.row_board.specs.declared.extreme.Extreme.{Extreme}
use Rattle.row_board.proofs.ExtremeLaws.{extreme-moved}
use Rattle.row_board.proofs.extreme.Extreme.moved.Goals as goal

pub returns : goal.returns
returns c = λ old k is at made.
    let result : c.without_number-extreme.result ≡ extreme_without (extreme_with c.args.side c.args.self c.args.now) c.args.was =
    c.without_number-extreme.ensures ∙ ap (λ (e : Extreme). extreme_without e c.args.was) c.with_number.ensures in
    let some : 0 < (extreme_without (extreme_with c.args.side c.args.self c.args.now) c.args.was).count = omega (arith, ap (λ (e : Extreme). e.count) result, c.if-extreme-eq0.false) in
    subst (λ (e : Extreme). IsExtreme c.args.side c.args.numbers.now e) (sym result)
    (subst (λ l. IsExtreme c.args.side l (extreme_without (extreme_with c.args.side c.args.self c.args.now) c.args.was)) (sym made) (extreme-moved c.args.side old c.args.self k c.args.was c.args.now is at some))
