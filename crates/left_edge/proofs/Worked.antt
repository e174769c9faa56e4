use Rattle.std.proofs.Common.{◌≡◌, ◌∷◌, [], refl}
use Rattle.channel_model.specs.declared.wiring.Segment.TheVariants.{Across, Along}
use Rattle.channel_model.specs.Pins.{Pins}
use Rattle.channel_model.specs.Nets.{nets_of}
use Rattle.left_edge.specs.Spans.{span, nets_over}
use Rattle.left_edge.specs.Tracks.{lasts, level_of, track_count}
use Rattle.left_edge.specs.EdgeWiring.{edge_wiring}

-- the channel with bottom pins 1, 2, 1, 2 and no top pins
abbrev pub alternating : Pins
alternating = record { top = 0 ∷ (0 ∷ (0 ∷ (0 ∷ []))); bottom = 1 ∷ (2 ∷ (1 ∷ (2 ∷ []))) }

-- the channel with bottom pins 1, 1, 2, 2, and one with a column of two pins of net 1
abbrev pub chained : Pins
chained = record { top = 0 ∷ (0 ∷ (0 ∷ (0 ∷ []))); bottom = 1 ∷ (1 ∷ (2 ∷ (2 ∷ []))) }

abbrev pub joined_column : Pins
joined_column = record { top = 1 ∷ []; bottom = 1 ∷ [] }

pub alternating-tracks : track_count alternating ≡ 2
unfolding lasts span
alternating-tracks = refl

pub alternating-segments : (edge_wiring alternating).segments
    ≡ Across 1 0 0 1 ∷ (Across 2 1 0 2 ∷ (Across 1 2 0 1 ∷ (Across 2 3 0 2 ∷ (Along 1 1 0 2 ∷ (Along 2 2 1 3 ∷ [])))))
unfolding lasts span level_of nets_of
alternating-segments = refl

pub alternating-over : nets_over alternating 1 ≡ 1 ∷ (2 ∷ [])
unfolding span nets_of
alternating-over = refl

pub chained-tracks : track_count chained ≡ 1
unfolding lasts span
chained-tracks = refl

pub joined_column-segments : (edge_wiring joined_column).segments ≡ Across 1 0 0 1 ∷ (Across 1 0 1 2 ∷ (Along 1 1 0 0 ∷ []))
unfolding lasts span level_of nets_of
joined_column-segments = refl

pub joined_column-vias : (edge_wiring joined_column).vias ≡ record { net = 1; column = 0; track = 1 } ∷ []
unfolding lasts span level_of
joined_column-vias = refl
