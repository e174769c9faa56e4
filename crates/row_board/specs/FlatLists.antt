-- lists that lie one behind another
use Rattle.std.specs.Prelude.{◌<◌, ◌≤◌, ◌^◌, ℕ, List, map, slice_get, slice_range}
use Rattle.std.specs.List.{range_with_len, AllByRecursion}
use Rattle.list_facts.specs.Lists.{list_there}
use Rattle.row_board.specs.declared.flat_lists.Part.{Part}

-- the items of a list among those of all
abbrev pub part_in : {A : Type 0} → List A → Part → List A
part_in items p = slice_range items p.from p.to

-- each list lies among so many items, and four bytes tell where
pub record AreParts (parts : List Part) (all : ℕ) : Type 0 where
  pub each : AllByRecursion (λ (p : Part). (p.from ≤ p.to) × (p.to ≤ all)) parts
  pub few : all < 2 ^ 32

-- so many of the first lists of a table
abbrev pub first_lists : {A : Type 0} → List (List A) → ℕ → List (List A)
first_lists lists count = map (λ (n : ℕ). list_there (slice_get lists n)) (range_with_len 0 count)
