-- when a column's record is fair, and when all records of a sweep are
use Rattle.std.specs.Prelude.{◌⊎◌, ◌+◌, ℕ, suc, List, [], ◌∷◌, length}
use Rattle.channel_model.specs.Pins.{Pins}
use Rattle.greedy_column.specs.declared.column.Track.{Track}
use Rattle.greedy_column.specs.declared.column.Column.{Column}
use Rattle.greedy_column.specs.Replay.{entered, after}
use Rattle.greedy_column.specs.Neighbours.{Holds}
use Rattle.greedy_column.specs.Lawful.{IsLawful}
use Rattle.greedy_column.specs.Sparing.{SparesTracks}
use Rattle.greedy_column.specs.Keeping.{AreJoined, GivesUp, GoesOn}

-- A record is fair, after columns that left these tracks and this first new id.
pub record Fair (pins : Pins) (column fresh : ℕ) (before : List Track) (done : Column) : Type 0 where
  pub lawful : IsLawful pins column fresh before done
  pub spares : SparesTracks pins column before done
  pub joined : AreJoined pins column (entered pins column done before) done
  pub keeps : (net id : ℕ) → Holds (entered pins column done before) net id
      → GivesUp pins column (entered pins column done before) done net ⊎ GoesOn pins column (entered pins column done before) done net

-- records are fair, the first of which is of this column
abbrev pub AllFair : Pins → ℕ → ℕ → List Track → List Column → Type 0
AllFair pins column fresh before [] = Unit {0}
AllFair pins column fresh before (done ∷ columns) =
    Fair pins column fresh before done × AllFair pins (suc column) (fresh + length done.made) (after pins column done before) columns
