use Rattle.std.proofs.Common.{◌≡◌, ◌<◌, ℕ, ◌+◌, List, ◌∷◌, ◌++◌, length, map, take, drop, get_or, ap, ◌∙◌, arith}
use Rattle.std.proofs.lemmas.List.{get_or_default, length-map}
use Rattle.std.proofs.lemmas.List.Edits.{map_over_more}
use Rattle.std.proofs.lemmas.List.Folds.{find-append}
use Rattle.std.specs.List.{find, flat_map}
use Rattle.std.specs.Option.{option_or}
use Rattle.std.specs.Prelude.{nat_eq, slice_set}
use Rattle.row_model.specs.Changes.{seat_of}
use Rattle.row_model.specs.declared.rows.Seat.{Seat}
use Rattle.std_laws.proofs.Slices.{overwritten-same}

-- one more seat is written over by its image
pub seat-more : (f : Seat → Seat) (xs ys : List Seat) (i : ℕ) (d new : Seat) → i < length xs → length ys ≡ length xs → ys ≡ map f (take i xs) ++ drop i xs
    → new ≡ f (get_or ys i d) → slice_set ys i new ≡ map f (take (i + 1) xs) ++ drop (i + 1) xs
seat-more f xs ys i d new within same so_far is =
    ap (λ (s : Seat). slice_set ys i s) is
    ∙ map_over_more f xs ys i (get_or ys i d) within so_far (get_or_default ys i d (get_or ys i d) (omega arith))

-- one more row is written over by images of its seats
pub row-more : (f : Seat → Seat) (xs ys : List (List Seat)) (i : ℕ) (item new : List Seat) → i < length xs → ys ≡ map (map f) (take i xs) ++ drop i xs
    → item ≡ get_or ys i item → new ≡ map f item
    → slice_set ys i (take (length (get_or ys i item)) (new ++ drop (length new) (get_or ys i item))) ≡ map (map f) (take (i + 1) xs) ++ drop (i + 1) xs
row-more f xs ys i item new within so_far own is =
    let count : length new ≡ length (get_or ys i item) = ap length is ∙ length-map item f ∙ ap length own in
    ap (λ (l : List Seat). slice_set ys i l) (overwritten-same new (get_or ys i item) count ∙ is)
    ∙ map_over_more (map f) xs ys i item within so_far own

-- a search for a seat goes on in the next row
pub seat_of_next : (seats : List Seat) (rows : List (List Seat)) (instance : ℕ)
    → seat_of (seats ∷ rows) instance ≡ option_or (find (λ (s : Seat). nat_eq s.instance instance) seats) (seat_of rows instance)
seat_of_next seats rows instance =
    find-append (λ (s : Seat). nat_eq s.instance instance) seats (flat_map (λ (seats : List Seat). seats) rows)
