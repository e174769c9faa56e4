-- sizes of rows with feeds that keep the bound of a layout below 2 ^ 64
use Rattle.std.specs.Prelude.{◌≤◌, ℕ, List, length}
use Rattle.std.specs.List.{AllByRecursion}
use Rattle.limits.specs.declared.TheConstants.{MOST_PINS, MOST_PLACED_ROWS}
use Rattle.feed_cells.specs.Fed.{Fed}

-- channels of at most 200,000 nets each
abbrev pub AreFewNets : List ℕ → Type 0
AreFewNets nets = AllByRecursion (λ (n : ℕ). n ≤ MOST_PINS) nets

-- at most 514 rows of at most 3,000,000,000,000 columns, each with one height, and at most 515 channels of at most 200,000 nets each
pub record AreBounded (fed : Fed) : Type 0 where
  pub rows : length fed.rows ≤ MOST_PLACED_ROWS
  pub heights : length fed.heights ≤ MOST_PLACED_ROWS
  pub columns : fed.width ≤ 3000000000000
  pub channels : length fed.nets ≤ 515
  pub nets : AreFewNets fed.nets
