use Rattle.std.proofs.Common.{◌≡◌, ◌∙◌, List, ℕ, ap, sym, eqb-true, length}
use Rattle.greedy_column.proofs.MoveLaws.{none_movable}
use Rattle.greedy_column.proofs.move_order.movable_lines.Goals as goal

pub returns-then-is_empty : goal.returns-then-is_empty
returns-then-is_empty c =
    let none : length c.args.free.now ≡ 0 =
    ap (λ (l : List ℕ). length l) (sym c.list.ensures.list) ∙ eqb-true (length c.list.result.now) 0 (sym c.is_empty.ensures ∙ c.if-is_empty.true) in
    c.new.ensures.items ∙ sym (none_movable c.args.spans.now c.args.free.now c.args.kept.now none)
