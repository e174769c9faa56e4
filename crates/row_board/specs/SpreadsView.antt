-- lists of numbers side by side as contracts see them, that the extremes are theirs, and that the sum is that of how far they spread
use Rattle.std.specs.Prelude.{◌+◌, ◌≡◌, ℕ, ◌≤◌, length, map, sum}
use Rattle.std.specs.List.{AllByRecursion}
use Rattle.row_board.specs.Extremes.{part_of, distance, AreBehind, AreExtremesOf}
use Rattle.row_board.specs.Spreads.{NumberLists}
use Rattle.row_board.specs.declared.spreads.Spreads.TheInside.{Inside}
use Rattle.limits.specs.declared.TheConstants.{MOST_PINS}

abbrev pub lists_in : Inside → NumberLists
lists_in a = record { most = a.most; lists = map (part_of a.numbers.items) a.lists.items }

pub record AreSpreads (a : Inside) : Type 0 where
  pub sum : a.sum ≡ sum (map distance a.lists.items)
  pub each : AllByRecursion (AreExtremesOf a.numbers.items) a.lists.items
  pub behind : AreBehind a.lists.items
  pub small : AllByRecursion (λ (n : ℕ). n ≤ a.most) a.numbers.items
  pub few : length a.lists.items ≤ MOST_PINS + 1
  pub low : a.most ≤ 2199023255552
