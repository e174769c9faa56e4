-- how rows are annealed
use Rattle.std.specs.Prelude.{ℕ, ◌≤◌}
use Rattle.row_board.specs.Weights.{Weighing}
use Rattle.limits.specs.declared.TheConstants.{MOST_MOVES, MOST_STAGES, MOST_TEMPERATURE}

-- how rows are annealed: the temperature at first, the number of stages, the number of changes of a stage for each instance, and what the cost weighs
pub record Annealing : Type 0 where
  pub temperature : ℕ
  pub stages : ℕ
  pub moves : ℕ
  pub weights : Weighing

-- a temperature of 1 to 1,000,000,000, and at most 1,000 stages and moves
pub record IsSchedule (s : Annealing) : Type 0 where
  pub some : 1 ≤ s.temperature
  pub hot : s.temperature ≤ MOST_TEMPERATURE
  pub stages : s.stages ≤ MOST_STAGES
  pub moves : s.moves ≤ MOST_MOVES
