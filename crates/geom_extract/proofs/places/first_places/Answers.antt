use Rattle.geom_extract.proofs.places.first_places.Goals as goal
use Rattle.std.proofs.Common.{◌≡◌, ◌+◌, ◌∙◌, ℕ, Some, map, ap, arith}
use Rattle.std.specs.List.{range_with_len}
use Rattle.std.proofs.lemmas.Option.{slice_get-get_or}
use Rattle.geom_extract.specs.CellTies.{first_place}
use Rattle.std_laws.proofs.Places.{list-by}

pub returns : goal.returns
returns c =
    let none : c.loop-place.place ≡ 0 = omega arith in
    c.new.ensures
    ∙ list-by (first_place c.args.kind.now.positions) 0 c.loop-place.table.items
    (λ i below.
    let start : i ≡ i + 0 = omega arith in
    slice_get-get_or c.loop-place.table.items i 0 below
    ∙ ap (λ (n : ℕ). Some n) (c.loop-place.invariant.each i below ∙ grind (arith, none, c.items-positions.ensures, start)))
    ∙ ap (λ (n : ℕ). map (first_place c.args.kind.now.positions) (range_with_len 0 n)) c.loop-place.invariant.long
