-- lists of numbers up to a bound
use Rattle.std.specs.Prelude.{ℕ, ◌==◌, List, if◌then◌else◌, slice_set}

pub record NumberLists : Type 0 where
  pub most : ℕ
  pub lists : List (List ℕ)

-- the list at this place after a number is put at a place of some list
abbrev pub number_put : ℕ → ℕ → ℕ → ℕ → List ℕ → List ℕ
number_put list place number n numbers = if list == n then slice_set numbers place number else numbers
