-- which entries, new tracks, joins, ends and moves the record of a column may have
use Rattle.std.specs.Prelude.{◌≡◌, ◌≢◌, ◌⊎◌, ◌<◌, ◌≤◌, ◌↔◌, ◌==◌, IsTrue, ℕ, suc, List, [], ◌∷◌, map, length, Contains}
use Rattle.std.specs.List.{IsDistinct}
use Rattle.channel_model.specs.Pins.{Pins}
use Rattle.greedy_column.specs.declared.column.Track.{Track}
use Rattle.greedy_column.specs.declared.column.Made.{Made}
use Rattle.greedy_column.specs.declared.column.Column.{Column}
use Rattle.greedy_column.specs.Tracks.{ids, held_by}
use Rattle.greedy_column.specs.Replay.{top_pin, bottom_pin, entered}
use Rattle.greedy_column.specs.Ahead.{HasLaterPin}
use Rattle.greedy_column.specs.Verticals.{Vertical, verticals, Shares}
use Rattle.greedy_column.specs.Neighbours.{Holds, AreNeighbours}

-- a column has two equal pins
pub record HasEqualPins (pins : Pins) (column : ℕ) : Type 0 where
  pub some : 0 < top_pin pins column
  pub equal : top_pin pins column ≡ bottom_pin pins column

-- the pins that enter a track: each that is not one of two equal pins, and of two equal ones the top pin, where their net
-- holds no track and has a later pin
pub record EntersStraight (pins : Pins) (column : ℕ) (before : List Track) : Type 0 where
  pub equal : HasEqualPins pins column
  pub holds_none : (id : ℕ) → Holds before (top_pin pins column) id → ⊥
  pub later : HasLaterPin pins column (top_pin pins column)

abbrev pub TopEnters : Pins → ℕ → List Track → Type 0
TopEnters pins column before =
    ((0 < top_pin pins column) × (top_pin pins column ≢ bottom_pin pins column)) ⊎ EntersStraight pins column before

abbrev pub BottomEnters : Pins → ℕ → Type 0
BottomEnters pins column = (0 < bottom_pin pins column) × (top_pin pins column ≢ bottom_pin pins column)

-- a track was free before the column, or one of a net's own
pub record WasFree (before : List Track) (id : ℕ) : Type 0 where
  pub there : Contains (ids before) id
  pub free : held_by before id ≡ 0

abbrev pub IsOpen : List Track → ℕ → ℕ → Type 0
IsOpen before net id = WasFree before id ⊎ Holds before net id

-- a pin's net may enter a track: it was open to the net, or is made in the column
abbrev pub MayEnter : List Track → Column → ℕ → ℕ → Type 0
MayEnter before done net id = IsOpen before net id ⊎ Contains (map (λ (m : Made). m.id) done.made) id

-- ids from this one upwards, in the order of addition, each track with at most as many below it as there are
abbrev pub AreMadeFrom : ℕ → ℕ → List Made → Type 0
AreMadeFrom fresh tracks [] = Unit {0}
AreMadeFrom fresh tracks (m ∷ made) = (m.id ≡ fresh) × (m.below ≤ tracks) × AreMadeFrom (suc fresh) (suc tracks) made

-- a move goes from a track that goes on to one that was free and that no pin enters
pub record IsMove (before now : List Track) (done : Column) (old new : ℕ) : Type 0 where
  pub held : (net : ℕ) × Holds now net old
  pub goes_on : Contains done.ended old → ⊥
  pub free : WasFree before new
  pub not_top : new ≢ done.top
  pub not_bottom : new ≢ done.bottom

-- What a record may say: its entries, additions, joins, ends and moves are of tracks of which they can be, and verticals of
-- different nets share no point.
pub record IsLawful (pins : Pins) (column fresh : ℕ) (before : List Track) (done : Column) : Type 0 where
  pub straight : IsTrue done.straight ↔ HasEqualPins pins column
  pub top_enters : TopEnters pins column before → MayEnter before done (top_pin pins column) done.top
  pub top_none : 0 < done.top → TopEnters pins column before
  pub bottom_enters : BottomEnters pins column → MayEnter before done (bottom_pin pins column) done.bottom
  pub bottom_none : 0 < done.bottom → BottomEnters pins column
  pub entered_once : 0 < done.top → done.top ≢ done.bottom
  pub made : AreMadeFrom fresh (length before) done.made
  pub made_entered : (m : Made) → Contains done.made m → (m.id ≡ done.top) ⊎ (m.id ≡ done.bottom)
  pub joins : (low high : ℕ) → Contains done.joins (low, high)
      → (net : ℕ) × AreNeighbours (entered pins column done before) net low high
  pub ended_once : IsDistinct (λ i j. i == j) done.ended
  pub ended_held : (id : ℕ) → Contains done.ended id → (net : ℕ) × Holds (entered pins column done before) net id
  pub moves : (old new : ℕ) → Contains done.moves (old, new) → IsMove before (entered pins column done before) done old new
  pub moved_once : IsDistinct (λ i j. i == j) (map (λ (m : ℕ × ℕ). m.0) done.moves)
  pub moved_apart : IsDistinct (λ i j. i == j) (map (λ (m : ℕ × ℕ). m.1) done.moves)
  pub apart : (v w : Vertical) → Contains (verticals pins column done (entered pins column done before)) v
      → Contains (verticals pins column done (entered pins column done before)) w
      → Shares (ids (entered pins column done before)) v w → v.net ≡ w.net
