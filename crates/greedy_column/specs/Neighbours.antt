-- a record is fair: lawful, sparing of tracks, joined, and with one track kept of each group
use Rattle.std.specs.Prelude.{◌≡◌, ◌<◌, ◌≤◌, ℕ, List, Contains}
use Rattle.greedy_column.specs.declared.column.Track.{Track}
use Rattle.greedy_column.specs.Tracks.{ids, held_by, line_of}
use Rattle.greedy_column.specs.Verticals.{Vertical, IsOver}

-- a net holds a track
pub record Holds (tracks : List Track) (net id : ℕ) : Type 0 where
  pub net_is : 0 < net
  pub there : Contains (ids tracks) id
  pub held : held_by tracks id ≡ net

-- two tracks of a net, with no track of the net between them, the lower one first
pub record AreNeighbours (tracks : List Track) (net low high : ℕ) : Type 0 where
  pub lower : Holds tracks net low
  pub upper : Holds tracks net high
  pub above : line_of (ids tracks) low < line_of (ids tracks) high
  pub next : (id : ℕ) → Holds tracks net id → line_of (ids tracks) low < line_of (ids tracks) id → line_of (ids tracks) high ≤ line_of (ids tracks) id

-- two tracks of one net that verticals of the net link, by way of tracks that each two neighbours of the way share a vertical
pub data Grouped (tracks : List Track) (vs : List Vertical) : ℕ → ℕ → Type 0 where
  alone : {id : ℕ} → Grouped tracks vs id id
  along : {a b c : ℕ} → (v : Vertical) → Contains vs v → Holds tracks v.net a → Holds tracks v.net b
      → IsOver (ids tracks) v (line_of (ids tracks) a) → IsOver (ids tracks) v (line_of (ids tracks) b) → Grouped tracks vs b c → Grouped tracks vs a c
