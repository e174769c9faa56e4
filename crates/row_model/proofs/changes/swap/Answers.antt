use Rattle.row_model.proofs.changes.swap.Goals as goal
use Rattle.std.proofs.Common.{◌≡◌, List, Some, ap, sym, ◌∙◌, subst, length, map}
use Rattle.std.proofs.lemmas.List.{length-map}
use Rattle.row_model.specs.Changes.{exchanged, seat_of}
use Rattle.row_model.specs.Rows.{AreRows}
use Rattle.row_model.specs.declared.rows.Seat.{Seat}
use Rattle.row_model.proofs.SwapLaws.{exchange-rows}
use Rattle.std_laws.proofs.Slices.{overwritten-same}

pub invariant_of-rows : goal.invariant_of-rows
invariant_of-rows c =
    let rows = c.rows.inside.rows in
    let one : seat_of rows c.args.a ≡ Some c.in-Some-Some.one = sym (ap (λ (l : List (List Seat)). seat_of l c.args.a) c.items.ensures) ∙ sym c.seat_of-found.ensures ∙ c.in-Some-Some.is-0 in
    let two : seat_of rows c.args.b ≡ Some c.in-Some-Some.other = sym (ap (λ (l : List (List Seat)). seat_of l c.args.b) c.items-2.ensures) ∙ sym c.seat_of-other.ensures ∙ c.in-Some-Some.is-1 in
    let made = c.exchange_all.ensures ∙ ap (map (map (exchanged c.in-Some-Some.one c.in-Some-Some.other))) c.items_mut.ensures.value in
    let new = exchange-rows rows c.args.a c.args.b c.in-Some-Some.one c.in-Some-Some.other c.rows.invariant one two in
    subst AreRows (sym (overwritten-same c.exchange_all.new.rows rows (ap length made ∙ length-map rows (map (exchanged c.in-Some-Some.one c.in-Some-Some.other))) ∙ made)) new
