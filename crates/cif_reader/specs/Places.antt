-- the places of symbols in the table
use Rattle.std.specs.Prelude.{◌≡◌, ◌==◌, ℕ, List, Option, None, Some, position, if◌then◌else◌}
use Rattle.std.specs.BTreeMap.{BTreeMap, get}
use Rattle.std.specs.Ordering.{nat_cmp}
use Rattle.cif_reader.specs.declared.table.Kept.{Kept}

-- a map tells the first place of each number in a table, and that of no other number
pub record ArePlaces (places : BTreeMap ℕ ℕ) (table : List Kept) : Type 0 where
  pub each : (n : ℕ) → get nat_cmp places n ≡ position (λ (k : Kept). k.number == n) table

-- what is there, or else this
abbrev pub or_else : Option ℕ → Option ℕ → Option ℕ
or_else (Some place) other = Some place
or_else None other = other

-- the place of a number is entered, unless there is an earlier one
pub record IsEntered (before after : BTreeMap ℕ ℕ) (number place : ℕ) : Type 0 where
  pub each : (n : ℕ) → get nat_cmp after n ≡ or_else (get nat_cmp before n) (if number == n then Some place else None)
