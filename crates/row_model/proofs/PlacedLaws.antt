use Rattle.std.proofs.Common.{◌≡◌, ◌<◌, ◌≤◌, ℕ, ◌+◌, List, [], ◌∷◌, length, ◌∙◌, arith, length-append}
use Rattle.std.proofs.lemmas.List.{length-map}
use Rattle.std.proofs.lemmas.List.Elements.{All-from_recursion, recursion_from_All}
use Rattle.std.proofs.lemmas.List.FromFn.{length-range_with_len}
use Rattle.std.proofs.lemmas.List.Sorted.{All-permutation, length_permutation}
use Rattle.std.proofs.lemmas.Map.Keys.{IsDistinct-IsPermutation}
use Rattle.std.specs.List.{AllByRecursion, range_with_len}
use Rattle.std.specs.Prelude.{nat_eq}
use Rattle.design_model.specs.Netlist.{IsNetlist, Netlist}
use Rattle.row_model.specs.NearStands.{AreShort}
use Rattle.row_model.specs.Rows.{all_instances, ArePlaced, AreRows, instances_in}
use Rattle.row_model.specs.declared.rows.Seat.{Seat}
use Rattle.std_laws.proofs.Tests.{nat_eq-flips}
use Rattle.std_laws.proofs.Ranges.{range-bounds, range-distinct}
use Rattle.std_laws.proofs.Every.{every-left, every-right, every-weaker}

-- no instance stands twice in placed rows
pub placed-distinct : (d : Netlist) (rows : List (List Seat)) → ArePlaced d rows → AreRows rows
placed-distinct d rows placed =
    IsDistinct-IsPermutation nat_eq nat_eq-flips (range_with_len 0 (length d.instances)) (all_instances rows) placed.once (range-distinct 0 (length d.instances))

-- each seat's instance is one of the design's
pub placed-within : (d : Netlist) (rows : List (List Seat)) → ArePlaced d rows → AllByRecursion (λ (i : ℕ). i < length d.instances) (all_instances rows)
placed-within d rows placed =
    recursion_from_All (λ (i : ℕ). i < length d.instances) (all_instances rows)
    (All-permutation (λ (i : ℕ). i < length d.instances) (range_with_len 0 (length d.instances)) (all_instances rows) placed.once
    (All-from_recursion (λ (i : ℕ). i < length d.instances) (range_with_len 0 (length d.instances))
    (every-weaker (λ (k : ℕ). (0 ≤ k) × (k < 0 + length d.instances)) (λ (i : ℕ). i < length d.instances) (λ k h. below k h.1) (range_with_len 0 (length d.instances))
    (range-bounds 0 (length d.instances)))))
  where
    below : (k : ℕ) → k < 0 + length d.instances → k < length d.instances
    below k h = omega arith

-- there are as many seats as instances
pub placed-length : (d : Netlist) (rows : List (List Seat)) → ArePlaced d rows → length (all_instances rows) ≡ length d.instances
placed-length d rows placed =
    length_permutation (range_with_len 0 (length d.instances)) (all_instances rows) placed.once ∙ length-range_with_len 0 (length d.instances)

-- the seats of a row are of instances below a number, and not more than another
abbrev pub IsWithin : ℕ → ℕ → List Seat → Type 0
IsWithin count most seats = AllByRecursion (λ (s : Seat). s.instance < count) seats × (length seats ≤ most)

seats-within : (count : ℕ) (seats : List Seat) → AllByRecursion (λ (i : ℕ). i < count) (instances_in seats) → AllByRecursion (λ (s : Seat). s.instance < count) seats
seats-within count [] h = tt
seats-within count (s ∷ seats) h = (h.0, seats-within count seats h.1)

rows-within-from : (count most : ℕ) (rows : List (List Seat)) → AllByRecursion (λ (i : ℕ). i < count) (all_instances rows) → length (all_instances rows) ≤ most
    → AllByRecursion (IsWithin count most) rows
rows-within-from count most [] h few = tt
rows-within-from count most (seats ∷ rows) h few = (
  (
    seats-within count seats (every-left (λ (i : ℕ). i < count) (instances_in seats) (all_instances rows) h),
    omega (arith, length-append (instances_in seats) (all_instances rows), length-map seats (λ (s : Seat). s.instance)),
  ),
  rows-within-from count most rows (every-right (λ (i : ℕ). i < count) (instances_in seats) (all_instances rows) h)
      (omega (arith, length-append (instances_in seats) (all_instances rows))),
)

-- the rows of placed rows hold instances of the design, and at most 20,000
pub rows-within : (d : Netlist) (rows : List (List Seat)) → IsNetlist d → ArePlaced d rows → AllByRecursion (IsWithin (length d.instances) 20000) rows
rows-within d rows good placed =
    rows-within-from (length d.instances) 20000 rows (placed-within d rows placed) (omega (arith, placed-length d rows placed, good.few_instances))

-- so they are short
pub placed-short : (d : Netlist) (rows : List (List Seat)) → IsNetlist d → ArePlaced d rows → AreShort rows
placed-short d rows good placed =
    every-weaker (IsWithin (length d.instances) 20000) (λ (seats : List Seat). length seats ≤ 20000) (λ seats h. h.1) rows (rows-within d rows good placed)
