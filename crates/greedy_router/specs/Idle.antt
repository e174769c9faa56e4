-- columns without pins in which nothing happens
use Rattle.std.specs.Prelude.{◌≡◌, ◌+◌, false, ℕ, List, []}
use Rattle.channel_model.specs.Pins.{Pins}
use Rattle.choose_core.specs.declared.candidate.Candidate.{Candidate}
use Rattle.choose_core.specs.declared.plan.Manner.{Manner}
use Rattle.greedy_column.specs.declared.column.Column.{Column}
use Rattle.greedy_column.specs.declared.column.ColumnState.{ColumnState}
use Rattle.greedy_column.specs.Follows.{Follows}
use Rattle.greedy_column.specs.Replay.{top_pin, bottom_pin}

-- the record of a column in which nothing happens
abbrev pub nothing : Column
nothing = record { made = []; top = 0; bottom = 0; straight = false; joins = []; ended = []; moves = [] }

-- no pin stands in a column
pub record HasNoPins (pins : Pins) (column : ℕ) : Type 0 where
  pub top : top_pin pins column ≡ 0
  pub bottom : bottom_pin pins column ≡ 0

-- in a column without pins the steps make nothing of a state
pub record IsIdle (manner : Manner) (may : List Candidate → ℕ → Type 0) (pins : Pins) (column : ℕ) (state : ColumnState) : Type 0 where
  pub no_pins : HasNoPins pins column
  pub follows : Follows manner may pins column state.fresh state.order nothing

-- the same of the column before this one
pub record IsIdleBefore (manner : Manner) (may : List Candidate → ℕ → Type 0) (pins : Pins) (column : ℕ) (state : ColumnState) : Type 0 where
  pub before : ℕ
  pub next : before + 1 ≡ column
  pub idle : IsIdle manner may pins before state
