-- the wiring
use Rattle.std.specs.Prelude.{◌+◌, ◌++◌, ◌==◌, ◌||◌, not, if◌then◌else◌, ℕ, zero, suc, List, [], ◌∷◌, length, map, slice_index}
use Rattle.channel_model.specs.declared.wiring.Segment.{Segment}
use Rattle.channel_model.specs.declared.wiring.Segment.TheVariants.{Across, Along}
use Rattle.channel_model.specs.declared.wiring.Via.{Via}
use Rattle.channel_model.specs.declared.wiring.Wiring.{Wiring}
use Rattle.channel_model.specs.Pins.{Pins}
use Rattle.channel_model.specs.Nets.{nets_of}
use Rattle.left_edge.specs.Spans.{span}
use Rattle.left_edge.specs.Tracks.{track_of, track_count}

-- what f makes of each of the first columns
abbrev pub by_column : {A : Type 0} → (ℕ → List A) → ℕ → List A
by_column f zero = []
by_column f (suc column) = by_column f column ++ f column

-- a bottom pin is brought up to its net's track
abbrev pub bottom_across : Pins → ℕ → List Segment
bottom_across pins column =
    if slice_index pins.bottom column == 0 then []
    else Across (slice_index pins.bottom column) column 0 (track_of pins (slice_index pins.bottom column)) ∷ []

-- a top pin is brought down to its net's track
abbrev pub top_across : Pins → ℕ → List Segment
top_across pins column =
    if slice_index pins.top column == 0 then []
    else Across (slice_index pins.top column) column (track_of pins (slice_index pins.top column)) (track_count pins + 1) ∷ []

-- the via of a net on its track
abbrev pub via_at : Pins → ℕ → ℕ → Via
via_at pins net column = record { net = net; column = column; track = track_of pins net }

abbrev pub bottom_via : Pins → ℕ → List Via
bottom_via pins column = if slice_index pins.bottom column == 0 then [] else via_at pins (slice_index pins.bottom column) column ∷ []

-- that of a top pin, where the column has no bottom pin, which is of the same net and has the via already
abbrev pub top_via : Pins → ℕ → List Via
top_via pins column =
    if slice_index pins.top column == 0 || not (slice_index pins.bottom column == 0) then []
    else via_at pins (slice_index pins.top column) column ∷ []

-- a net lies on its track from its first to its last pin
abbrev pub along : Pins → ℕ → Segment
along pins net = Along net (track_of pins net) (span pins net).first (span pins net).last

-- the wiring of a channel without constraints
abbrev pub edge_wiring : Pins → Wiring
edge_wiring pins = record {
  tracks = track_count pins;
  columns = length pins.top;
  segments = (by_column (bottom_across pins) (length pins.top) ++ by_column (top_across pins) (length pins.top))
      ++ map (along pins) (nets_of pins);
  vias = by_column (bottom_via pins) (length pins.top) ++ by_column (top_via pins) (length pins.top);
}
