-- the wiring of the plain router
use Rattle.std.specs.Prelude.{◌+◌, ◌*◌, ◌++◌, ◌==◌, if◌then◌else◌, ℕ, zero, suc, List, [], ◌∷◌, length, slice_index, Option, Some, None}
use Rattle.channel_model.specs.declared.reach.Reach.{Reach}
use Rattle.channel_model.specs.declared.wiring.Segment.{Segment}
use Rattle.channel_model.specs.declared.wiring.Segment.TheVariants.{Across, Along}
use Rattle.channel_model.specs.declared.wiring.Via.{Via}
use Rattle.channel_model.specs.declared.wiring.Wiring.{Wiring}
use Rattle.channel_model.specs.Pins.{Pins}
use Rattle.channel_model.specs.Nets.{nets_of, place_of}
use Rattle.channel_model.specs.Reach.{reach_of}
use Rattle.plain_router.specs.declared.router.Lane.{Lane}

-- what f makes of each pin in the first columns of an edge
abbrev pub for_pins : {A : Type 0} → (ℕ → ℕ → A) → List ℕ → ℕ → List A
for_pins f side zero = []
for_pins f side (suc column) =
    for_pins f side column ++ (if slice_index side column == 0 then [] else f (slice_index side column) column ∷ [])

-- what f makes of each of the first nets and its place
abbrev pub for_nets : {A : Type 0} → (ℕ → ℕ → List A) → List ℕ → ℕ → List A
for_nets f nets zero = []
for_nets f nets (suc place) = for_nets f nets place ++ f (slice_index nets place) place

-- the two tracks that the net at a place owns, and its column right of the channel
abbrev pub lane_of : ℕ → List ℕ → ℕ → ℕ → Lane
lane_of columns nets net place =
    record { net = net; lower = place + 1; upper = length nets + place + 1; column = columns + place }

-- a bottom pin is brought up to its net's lower track, a top pin down to its upper track
abbrev pub bottom_across : List ℕ → ℕ → ℕ → Segment
bottom_across nets net column = Across net column 0 (place_of nets net + 1)

abbrev pub top_across : List ℕ → ℕ → ℕ → Segment
top_across nets net column = Across net column (length nets + place_of nets net + 1) (2 * length nets + 1)

abbrev pub bottom_via : List ℕ → ℕ → ℕ → Via
bottom_via nets net column = record { net = net; column = column; track = place_of nets net + 1 }

abbrev pub top_via : List ℕ → ℕ → ℕ → Via
top_via nets net column = record { net = net; column = column; track = length nets + place_of nets net + 1 }

-- the joining Across of a net and its Alongs, from its reaches along the bottom and the top
abbrev pub lane_segments : Lane → Option Reach → Option Reach → List Segment
lane_segments lane (Some below) (Some above) =
    Across lane.net lane.column lane.lower lane.upper ∷ (Along lane.net lane.lower below.first lane.column
    ∷ (Along lane.net lane.upper above.first lane.column ∷ []))
lane_segments lane (Some below) None = Along lane.net lane.lower below.first below.last ∷ []
lane_segments lane None (Some above) = Along lane.net lane.upper above.first above.last ∷ []
lane_segments lane None None = []

-- the vias at the ends of the joining Across
abbrev pub lane_vias : Lane → Option Reach → Option Reach → List Via
lane_vias lane (Some below) (Some above) =
    record { net = lane.net; column = lane.column; track = lane.lower }
    ∷ (record { net = lane.net; column = lane.column; track = lane.upper } ∷ [])
lane_vias lane (Some below) None = []
lane_vias lane None above = []

abbrev pub net_segments : Pins → List ℕ → ℕ → ℕ → List Segment
net_segments pins nets net place =
    lane_segments (lane_of (length pins.top) nets net place) (reach_of pins.bottom net (length pins.bottom)) (reach_of pins.top net (length pins.top))

abbrev pub net_vias : Pins → List ℕ → ℕ → ℕ → List Via
net_vias pins nets net place =
    lane_vias (lane_of (length pins.top) nets net place) (reach_of pins.bottom net (length pins.bottom)) (reach_of pins.top net (length pins.top))

-- the wiring of a channel with these nets
abbrev pub plain_with : Pins → List ℕ → Wiring
plain_with pins nets = record {
  tracks = 2 * length nets;
  columns = length pins.top + length nets;
  segments = (for_pins (bottom_across nets) pins.bottom (length pins.bottom) ++ for_pins (top_across nets) pins.top (length pins.top))
      ++ for_nets (net_segments pins nets) nets (length nets);
  vias = (for_pins (bottom_via nets) pins.bottom (length pins.bottom) ++ for_pins (top_via nets) pins.top (length pins.top))
      ++ for_nets (net_vias pins nets) nets (length nets);
}

-- the plain wiring of a channel
abbrev pub plain_of : Pins → Wiring
plain_of pins = plain_with pins (nets_of pins)
