-- numbers with their sum
use Rattle.std.specs.Prelude.{◌+◌, ◌≡◌, ℕ, ◌≤◌, List, length, sum}
use Rattle.std.specs.List.{AllByRecursion}
use Rattle.row_board.specs.declared.summed.Summed.TheInside.{Inside}
use Rattle.limits.specs.declared.TheConstants.{MOST_PINS}

abbrev pub numbers_in : Inside → List ℕ
numbers_in a = a.items.items

-- the sum is that of the numbers, each of which is at most 2^41, and there are at most 200,001 of them
pub record IsSummed (a : Inside) : Type 0 where
  pub is : a.sum ≡ sum (numbers_in a)
  pub small : AllByRecursion (λ (n : ℕ). n ≤ 2199023255552) (numbers_in a)
  pub few : length (numbers_in a) ≤ MOST_PINS + 1
