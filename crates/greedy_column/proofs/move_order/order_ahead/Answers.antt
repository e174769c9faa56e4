use Rattle.std.proofs.Common.{◌≡◌, ◌∙◌, List, ℕ, ap, arith, length, map}
use Rattle.std.proofs.lemmas.List.{length-map}
use Rattle.greedy_column.specs.declared.move_order.Waiting.{Waiting}
use Rattle.greedy_column.specs.Moving.{rank_on, waiting}
use Rattle.greedy_column.specs.Uses.{next_after}
use Rattle.greedy_column.proofs.WaitingLaws.{IsOrderAhead-few, IsOrderAhead-from_sort}
use Rattle.greedy_column.proofs.move_order.order_ahead.Goals as goal

pub returns-then-len-lt2 : goal.returns-then-len-lt2
returns-then-len-lt2 c =
    IsOrderAhead-few (next_after c.args.ahead.now.uses.items c.args.column) c.args.kept.now c.args.lines.items (omega (arith, c.args.lines.ok.0))

pub put_lines-requires : goal.put_lines-requires
put_lines-requires c =
    let rank = rank_on (next_after c.args.ahead.now.uses.items c.args.column) c.args.kept.now in
    let found : length c.in_ok-waiting.waiting.items ≡ length c.args.lines.items =
    ap (λ (l : List Waiting). length l) c.in_ok-waiting.ensures ∙ length-map c.deref.result.now (waiting rank) ∙ ap (λ (l : List ℕ). length l) c.deref.ensures.value in
    omega (
      arith,
      found,
      c.sort_by_rank.ensures.long,
      c.in_ok-waiting.waiting.ok.0,
      c.sort_by_rank.new.waiting.ok.0,
      c.args.lines.ok.0,
      c.args.lines.ok.1,
      ap (λ (l : List Waiting). length l) c.deref-2.ensures.value,
    )

pub returns : goal.returns
returns c =
    let next = next_after c.args.ahead.now.uses.items c.args.column in
    IsOrderAhead-from_sort next c.args.kept.now c.args.lines.items c.put_lines.new.lines.items c.in_ok-waiting.waiting.items c.sort_by_rank.new.waiting.items
    (c.in_ok-waiting.ensures ∙ ap (λ (l : List ℕ). map (waiting (rank_on next c.args.kept.now)) l) c.deref.ensures.value)
    c.in_ok-sort_by_rank.ensures.sorted c.in_ok-sort_by_rank.ensures.stable c.in_ok-sort_by_rank.ensures.same
    (c.put_lines.ensures ∙ ap (λ (l : List Waiting). map (λ (w : Waiting). w.line) l) c.deref-2.ensures.value)
