-- wirings with one Along for each net
use Rattle.std.specs.Prelude.{◌≡◌, ◌≤◌, ◌==◌, ℕ, Bool, false, [], ◌∷◌, filter}
use Rattle.channel_model.specs.declared.wiring.Segment.{Segment}
use Rattle.channel_model.specs.declared.wiring.Segment.TheVariants.{Across, Along}
use Rattle.channel_model.specs.declared.wiring.Wiring.{Wiring}
use Rattle.channel_model.specs.Pins.{Pins}
use Rattle.channel_model.specs.Nets.{StandsIn}
use Rattle.channel_model.specs.Wired.{Wired}
use Rattle.left_edge.specs.Spans.{span}

-- whether a segment is an Along of a net
abbrev pub is_along_of : ℕ → Segment → Bool
is_along_of net (Across other column low high) = false
is_along_of net (Along other track from to) = other == net

-- each net of the channel has just one Along, from its first to its last pin column
abbrev pub IsSingle : Pins → Wiring → Type 0
IsSingle pins wiring = (net : ℕ) → StandsIn pins net
    → (track : ℕ) × (filter (is_along_of net) wiring.segments ≡ Along net track (span pins net).first (span pins net).last ∷ [])

-- the one Along of a net reaches at least from its first to its last pin column
pub record Covers (pins : Pins) (wiring : Wiring) (net : ℕ) : Type 0 where
  pub track : ℕ
  pub from : ℕ
  pub to : ℕ
  pub alone : filter (is_along_of net) wiring.segments ≡ Along net track from to ∷ []
  pub first : from ≤ (span pins net).first
  pub last : (span pins net).last ≤ to

-- each net of the channel has just one Along, which covers its pin columns
abbrev pub AreCovered : Pins → Wiring → Type 0
AreCovered pins wiring = (net : ℕ) → StandsIn pins net → Covers pins wiring net

-- no wiring of the channel whose nets have one Along each, which covers their pin columns, has fewer tracks
abbrev pub IsLeast : Pins → ℕ → Type 0
IsLeast pins tracks = (wiring : Wiring) → Wired pins wiring → AreCovered pins wiring → tracks ≤ wiring.tracks
