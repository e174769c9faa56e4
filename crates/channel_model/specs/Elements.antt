-- wirings, and when one connects a channel
use Rattle.std.specs.Prelude.{◌≡◌, ◌≤◌, ◌++◌, ℕ, List, map}
use Rattle.channel_model.specs.declared.wiring.Segment.{Segment}
use Rattle.channel_model.specs.declared.wiring.Segment.TheVariants.{Across, Along}
use Rattle.channel_model.specs.declared.wiring.Via.{Via}
use Rattle.channel_model.specs.declared.wiring.Wiring.{Wiring}

pub data Layer : Type 0 where
  vertical : Layer
  horizontal : Layer

-- what a wiring is made of
pub data Element : Type 0 where
  segment : Segment → Element
  via : Via → Element

abbrev pub elements : Wiring → List Element
elements wiring = map segment wiring.segments ++ map via wiring.vias

abbrev pub net_of : Element → ℕ
net_of (segment (Across net column low high)) = net
net_of (segment (Along net track from to)) = net
net_of (via v) = v.net

-- the points (column, line) of a layer that an element covers
abbrev pub Covers : Element → Layer → ℕ → ℕ → Type 0
Covers (segment (Across net column low high)) vertical x y = (x ≡ column) × (low ≤ y) × (y ≤ high)
Covers (segment (Across net column low high)) horizontal x y = ⊥
Covers (segment (Along net track from to)) vertical x y = ⊥
Covers (segment (Along net track from to)) horizontal x y = (y ≡ track) × (from ≤ x) × (x ≤ to)
Covers (via v) layer x y = (x ≡ v.column) × (y ≡ v.track)

-- two elements share a point of a layer
pub record Meets (e f : Element) : Type 0 where
  pub layer : Layer
  pub column : ℕ
  pub line : ℕ
  pub first : Covers e layer column line
  pub second : Covers f layer column line
