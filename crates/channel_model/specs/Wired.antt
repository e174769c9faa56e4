-- when a wiring connects the pins of each net of a channel, and no two nets
use Rattle.std.specs.Prelude.{◌≡◌, ◌<◌, ◌≤◌, ◌+◌, ℕ, length, Contains, slice_index}
use Rattle.channel_model.specs.declared.wiring.Segment.TheVariants.{Across, Along}
use Rattle.channel_model.specs.declared.wiring.Wiring.{Wiring}
use Rattle.channel_model.specs.Pins.{Pins}
use Rattle.channel_model.specs.Nets.{StandsIn}
use Rattle.channel_model.specs.Elements.{Element, segment, via, elements, net_of, Meets}

-- a chain of elements of the wiring, each of which shares a point with the next
pub data Linked (wiring : Wiring) : Element → Element → Type 0 where
  itself : {e : Element} → Linked wiring e e
  onward : {e f g : Element} → Contains (elements wiring) f → Meets e f → Linked wiring f g → Linked wiring e g

-- on the grid of these columns and tracks
abbrev pub IsOnGrid : ℕ → ℕ → Element → Type 0
IsOnGrid columns tracks (segment (Across net column low high)) = (column < columns) × (low < high) × (high ≤ tracks + 1)
IsOnGrid columns tracks (segment (Along net track from to)) = (0 < track) × (track ≤ tracks) × (from ≤ to) × (to < columns)
IsOnGrid columns tracks (via v) = (v.column < columns) × (0 < v.track) × (v.track ≤ tracks)

-- what reaches an edge is of the net that has a pin there
abbrev pub KeepsEdges : Pins → ℕ → Element → Type 0
KeepsEdges pins tracks (segment (Across net column low high)) =
    (low ≡ 0 → slice_index pins.bottom column ≡ net) × (high ≡ tracks + 1 → slice_index pins.top column ≡ net)
KeepsEdges pins tracks (segment (Along net track from to)) = Unit {0}
KeepsEdges pins tracks (via v) = Unit {0}

-- The wiring connects the pins of each net of the channel, and no two nets.
pub record Wired (pins : Pins) (wiring : Wiring) : Type 0 where
  pub columns : length pins.top ≤ wiring.columns
  pub on_grid : (e : Element) → Contains (elements wiring) e → IsOnGrid wiring.columns wiring.tracks e × StandsIn pins (net_of e)
  pub apart : (e f : Element) → Contains (elements wiring) e → Contains (elements wiring) f → Meets e f → net_of e ≡ net_of f
  pub edges : (e : Element) → Contains (elements wiring) e → KeepsEdges pins wiring.tracks e
  pub bottom_pins : (column : ℕ) → 0 < slice_index pins.bottom column
      → (high : ℕ) × Contains wiring.segments (Across (slice_index pins.bottom column) column 0 high)
  pub top_pins : (column : ℕ) → 0 < slice_index pins.top column
      → (low : ℕ) × Contains wiring.segments (Across (slice_index pins.top column) column low (wiring.tracks + 1))
  pub linked : (e f : Element) → Contains (elements wiring) e → Contains (elements wiring) f → net_of e ≡ net_of f → Linked wiring e f
