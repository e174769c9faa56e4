-- tracks of a net are joined where no other net parts them, and one of each group goes on or the net gives up all
use Rattle.std.specs.Prelude.{◌≡◌, ◌≢◌, ◌⊎◌, ℕ, List, Contains}
use Rattle.channel_model.specs.Pins.{Pins}
use Rattle.greedy_column.specs.declared.column.Track.{Track}
use Rattle.greedy_column.specs.declared.column.Column.{Column}
use Rattle.greedy_column.specs.Tracks.{ids}
use Rattle.greedy_column.specs.Ahead.{HasLaterPin}
use Rattle.greedy_column.specs.Verticals.{Vertical, joined_verticals, Shares, on}
use Rattle.greedy_column.specs.Neighbours.{Holds, AreNeighbours, Grouped}

-- After the pins and joins, two neighbouring tracks of a net that are not linked are parted by a vertical of another net.
abbrev pub AreJoined : Pins → ℕ → List Track → Column → Type 0
AreJoined pins column now done =
    (net low high : ℕ) → AreNeighbours now net low high → (Grouped now (joined_verticals pins column done now) low high → ⊥)
    → (v : Vertical) × Contains (joined_verticals pins column done now) v × (v.net ≢ net)
    × Shares (ids now) v (record { net = net; low = on low; high = on high })

-- a net that is one group and has no later pin: all its tracks end
pub record GivesUp (pins : Pins) (column : ℕ) (now : List Track) (done : Column) (net : ℕ) : Type 0 where
  pub ends : HasLaterPin pins column net → ⊥
  pub one_group : (a b : ℕ) → Holds now net a → Holds now net b → Grouped now (joined_verticals pins column done now) a b
  pub all_end : (id : ℕ) → Holds now net id → Contains done.ended id

-- a net has two tracks that are not linked
pub record IsSplit (pins : Pins) (column : ℕ) (now : List Track) (done : Column) (net : ℕ) : Type 0 where
  pub one : ℕ
  pub other : ℕ
  pub one_held : Holds now net one
  pub other_held : Holds now net other
  pub apart : Grouped now (joined_verticals pins column done now) one other → ⊥

-- a track of a net that goes on, linked to another one of the net
pub record IsKeptFor (pins : Pins) (column : ℕ) (now : List Track) (done : Column) (net id kept : ℕ) : Type 0 where
  pub held : Holds now net kept
  pub goes_on : Contains done.ended kept → ⊥
  pub linked : Grouped now (joined_verticals pins column done now) id kept

-- a net that has a later pin or is not one group: just one track of each group goes on
pub record GoesOn (pins : Pins) (column : ℕ) (now : List Track) (done : Column) (net : ℕ) : Type 0 where
  pub wanted : HasLaterPin pins column net ⊎ IsSplit pins column now done net
  pub kept : (id : ℕ) → Holds now net id → (kept : ℕ) × IsKeptFor pins column now done net id kept
  pub one_kept : (a b : ℕ) → Holds now net a → Holds now net b → (Contains done.ended a → ⊥) → (Contains done.ended b → ⊥)
      → Grouped now (joined_verticals pins column done now) a b → a ≡ b
