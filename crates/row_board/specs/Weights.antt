-- what annealing weighs
use Rattle.std.specs.Prelude.{ℕ, ◌≤◌}
use Rattle.limits.specs.declared.TheConstants.{MOST_WEIGHT}

-- what a row of distance and a column of difference from the target cost, each against a column of wire
pub record Weighing : Type 0 where
  pub row_cost : ℕ
  pub length_cost : ℕ

-- each is at most 1,000
pub record AreFew (w : Weighing) : Type 0 where
  pub row_cost : w.row_cost ≤ MOST_WEIGHT
  pub length_cost : w.length_cost ≤ MOST_WEIGHT
