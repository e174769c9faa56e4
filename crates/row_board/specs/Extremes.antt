-- the extremes of lists of numbers, which lie side by side
use Rattle.std.specs.Prelude.{◌≡◌, ℕ, ◌+◌, ◌-◌, ◌≤◌, ◌<◌, List, Some, length, take, drop, slice_get}
use Rattle.row_board.specs.Extreme.{IsExtreme}
use Rattle.row_board.specs.declared.extreme.Extreme.{Extreme}
use Rattle.row_board.specs.declared.extreme.Side.{Side}
use Rattle.row_board.specs.declared.extreme.Side.TheVariants.{Low, High}
use Rattle.row_board.specs.declared.extremes.Extremes.{Extremes}
use Rattle.limits.specs.declared.TheConstants.{MOST_PINS}

-- the list that has these extremes
abbrev pub part_of : List ℕ → Extremes → List ℕ
part_of numbers p = take p.count (drop p.start numbers)

-- each of the two, and how far they are apart
abbrev pub low_extreme : Extremes → Extreme
low_extreme p = record { at = p.least; count = p.at_least }

abbrev pub high_extreme : Extremes → Extreme
high_extreme p = record { at = p.greatest; count = p.at_greatest }

abbrev pub extreme_at : Side → Extremes → Extreme
extreme_at Low p = low_extreme p
extreme_at High p = high_extreme p

abbrev pub distance : Extremes → ℕ
distance p = p.greatest - p.least

-- extremes are those of a list
pub record AreExtremes (numbers : List ℕ) (p : Extremes) : Type 0 where
  pub low : IsExtreme Low numbers (low_extreme p)
  pub high : IsExtreme High numbers (high_extreme p)
  pub none : length numbers ≡ 0 → p.greatest ≤ p.least
  pub count : p.count ≡ length numbers

-- and the list lies among numbers
pub record AreExtremesOf (numbers : List ℕ) (p : Extremes) : Type 0 where
  pub is : AreExtremes (part_of numbers p) p
  pub within : p.start + p.count ≤ length numbers
  pub few : p.count ≤ MOST_PINS

-- no two lists share a number: each lies behind those before it
pub record AreBehind (extremes : List Extremes) : Type 0 where
  pub each : (i j : ℕ) (p q : Extremes) → slice_get extremes i ≡ Some p → slice_get extremes j ≡ Some q → i < j → p.start + p.count ≤ q.start
