-- the tables of a wiring from column to column, and what they tell of the tracks
use Rattle.std.specs.Prelude.{◌≡◌, ◌<◌, ◌==◌, if◌then◌else◌, nat_le, ℕ, List, [], ◌∷◌, Contains, slice_index, slice_set}
use Rattle.channel_model.specs.Pins.{Pins}
use Rattle.greedy_column.specs.declared.column.Track.{Track}
use Rattle.greedy_column.specs.declared.column.Column.{Column}
use Rattle.greedy_column.specs.Tracks.{ids, held_by, line_of}
use Rattle.greedy_column.specs.Replay.{entered}
use Rattle.greedy_column.specs.Lawful.{IsLawful}
use Rattle.greedy_column.specs.State.{AreNumbered}
use Rattle.greedy_router.specs.declared.by_id.ById.{ById}

-- the nets of tracks once the pins of a column have entered: the bottom pin, and then the top pin
abbrev pub entered_by : Column → ℕ → ℕ → List ℕ → List ℕ
entered_by done top bottom table = slice_set (slice_set table done.bottom bottom) done.top top

-- since when tracks are held, once a net has entered one of them
abbrev pub since_entered : ℕ → List ℕ → ℕ → List ℕ → List ℕ
since_entered column nets id since = if slice_index nets id == 0 then slice_set since id column else since

-- the nets of tracks of which some end
abbrev pub freed_by : List ℕ → List ℕ → List ℕ
freed_by [] table = table
freed_by (id ∷ ended) table = freed_by ended (slice_set table id 0)

-- the nets of tracks of which some are carried to others, and since when those are held
abbrev pub moved_by : List (ℕ × ℕ) → List ℕ → List ℕ
moved_by [] table = table
moved_by (m ∷ moves) table = moved_by moves (slice_set (slice_set table m.0 0) m.1 (slice_index table m.0))

abbrev pub since_moved : ℕ → List (ℕ × ℕ) → List ℕ → List ℕ
since_moved column [] since = since
since_moved column (m ∷ moves) since = since_moved column moves (slice_set since m.1 column)

abbrev pub left_by : Column → List ℕ → List ℕ
left_by done table = moved_by done.moves (freed_by done.ended table)

-- a table tells which nets hold the tracks of an order
abbrev pub TellsNets : List ℕ → List Track → List ℕ → Type 0
TellsNets order tracks table = (id : ℕ) → Contains order id → slice_index table id ≡ held_by tracks id

-- a table tells since when those tracks are held that are
abbrev pub TellsSince : List ℕ → List Track → (ℕ → ℕ) → List ℕ → Type 0
TellsSince order tracks since table = (id : ℕ) → Contains order id → 0 < held_by tracks id → slice_index table id ≡ since id

-- tables tell of the tracks before a column
pub record IsTold (order : List ℕ) (tracks : List Track) (begins : ℕ → ℕ) (by_id : ById) : Type 0 where
  pub nets : TellsNets order tracks by_id.nets.items
  pub laters : TellsNets order tracks by_id.laters.items
  pub since : TellsSince order tracks begins by_id.since.items

-- a column of a sweep: its record is lawful, and its tracks lie in the final order as they do in the column
pub record IsTurn (order : List ℕ) (pins : Pins) (column : ℕ) (before : List Track) (done : Column) : Type 0 where
  pub fresh : ℕ
  pub numbered : AreNumbered fresh before
  pub lawful : IsLawful pins column fresh before done
  pub positive : (id : ℕ) → Contains order id → 0 < id
  pub within : (id : ℕ) → Contains (ids (entered pins column done before)) id → Contains order id
  pub alike : (a b : ℕ) → Contains (ids (entered pins column done before)) a → Contains (ids (entered pins column done before)) b
      → nat_le (line_of (ids (entered pins column done before)) a) (line_of (ids (entered pins column done before)) b)
      ≡ nat_le (line_of order a) (line_of order b)
