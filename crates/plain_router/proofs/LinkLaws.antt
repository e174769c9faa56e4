use Rattle.std.proofs.Common.{◌≡◌, ◌<◌, ◌≤◌, ℕ, List, Option, Some, None, refl, arith, All, Contains, get_or}
use Rattle.std.proofs.lemmas.List.Elements.{All-nil}
use Rattle.channel_model.specs.declared.reach.Reach.{Reach}
use Rattle.channel_model.specs.declared.wiring.Segment.{Segment}
use Rattle.channel_model.specs.declared.wiring.Segment.TheVariants.{Across, Along}
use Rattle.channel_model.specs.declared.wiring.Via.{Via}
use Rattle.channel_model.specs.declared.wiring.Wiring.{Wiring}
use Rattle.channel_model.specs.Elements.{vertical, horizontal, Element, segment, via, elements, net_of, Meets}
use Rattle.channel_model.specs.Wired.{Linked, itself, onward}
use Rattle.channel_model.proofs.ReachLaws.{ReachesAll}
use Rattle.plain_router.specs.declared.router.Lane.{Lane}
use Rattle.plain_router.specs.Plain.{lane_segments, lane_vias}
use Rattle.plain_router.proofs.ChainLaws.{Linked-step}
use Rattle.std_laws.proofs.Members.{All-of_one}
use Rattle.std_laws.proofs.Every.{All-of_two, All-of_three}

-- a via meets an Along of its track that covers its column
on_track : (net column track from to : ℕ) → from ≤ column → column ≤ to
    → Meets (via (record { net = net; column = column; track = track })) (segment (Along net track from to))
on_track net column track from to after before =
    record { layer = horizontal; column = column; line = track; first = (refl, refl); second = (refl, after, before) }

from_track : (net column track from to : ℕ) → from ≤ column → column ≤ to
    → Meets (segment (Along net track from to)) (via (record { net = net; column = column; track = track }))
from_track net column track from to after before =
    record { layer = horizontal; column = column; line = track; first = (refl, after, before); second = (refl, refl) }

-- a via meets an Across of its column that covers its track
on_across : (net column track low high : ℕ) → low ≤ track → track ≤ high
    → Meets (via (record { net = net; column = column; track = track })) (segment (Across net column low high))
on_across net column track low high above below =
    record { layer = vertical; column = column; line = track; first = (refl, refl); second = (refl, above, below) }

from_across : (net column track low high : ℕ) → low ≤ track → track ≤ high
    → Meets (segment (Across net column low high)) (via (record { net = net; column = column; track = track }))
from_across net column track low high above below =
    record { layer = vertical; column = column; line = track; first = (refl, above, below); second = (refl, refl) }

-- the Along to which all elements of a net are linked
abbrev pub home_of : Lane → Option Reach → Option Reach → Element
home_of lane (Some b) (Some t) = segment (Along lane.net lane.lower b.first lane.column)
home_of lane (Some b) None = segment (Along lane.net lane.lower b.first b.last)
home_of lane None (Some t) = segment (Along lane.net lane.upper t.first t.last)
home_of lane None None = segment (Along lane.net lane.lower lane.column lane.column)

-- an element is linked to the home of a net, and is of that net
abbrev pub GoesHome : Wiring → Lane → Option Reach → Option Reach → Element → Type 0
GoesHome w lane below above e = Linked w e (home_of lane below above) × (net_of e ≡ lane.net)

module _ (w : Wiring) (lane : Lane) where
  abbrev low_via : Via
  low_via = record { net = lane.net; column = lane.column; track = lane.lower }

  abbrev high_via : Via
  high_via = record { net = lane.net; column = lane.column; track = lane.upper }

  abbrev join : Segment
  join = Across lane.net lane.column lane.lower lane.upper

  -- what is made of the lane is in the wiring
  abbrev pub HasSegments : Option Reach → Option Reach → Type 0
  HasSegments below above = (s : Segment) → Contains (lane_segments lane below above) s → Contains (elements w) (segment s)

  abbrev pub HasVias : Option Reach → Option Reach → Type 0
  HasVias below above = (v : Via) → Contains (lane_vias lane below above) v → Contains (elements w) (via v)

  low_via_home : (b t : Reach) → HasSegments (Some b) (Some t) → b.first ≤ lane.column
      → Linked w (via low_via) (home_of lane (Some b) (Some t))
  low_via_home b t segments after =
      Linked-step (segments (Along lane.net lane.lower b.first lane.column) (1, omega arith, refl))
      (on_track lane.net lane.column lane.lower b.first lane.column after (omega arith))

  join_home : (b t : Reach) → HasSegments (Some b) (Some t) → HasVias (Some b) (Some t) → b.first ≤ lane.column → lane.lower ≤ lane.upper
      → Linked w (segment join) (home_of lane (Some b) (Some t))
  join_home b t segments vias after rises =
      onward (vias low_via (0, omega arith, refl)) (from_across lane.net lane.column lane.lower lane.lower lane.upper (omega arith) rises)
      (low_via_home b t segments after)

  high_via_home : (b t : Reach) → HasSegments (Some b) (Some t) → HasVias (Some b) (Some t) → b.first ≤ lane.column → lane.lower ≤ lane.upper
      → Linked w (via high_via) (home_of lane (Some b) (Some t))
  high_via_home b t segments vias after rises =
      onward (segments join (0, omega arith, refl)) (on_across lane.net lane.column lane.upper lane.lower lane.upper rises (omega arith))
      (join_home b t segments vias after rises)

  upper_home : (b t : Reach) → HasSegments (Some b) (Some t) → HasVias (Some b) (Some t) → b.first ≤ lane.column → t.first ≤ lane.column
      → lane.lower ≤ lane.upper → Linked w (segment (Along lane.net lane.upper t.first lane.column)) (home_of lane (Some b) (Some t))
  upper_home b t segments vias after above rises =
      onward (vias high_via (1, omega arith, refl)) (from_track lane.net lane.column lane.upper t.first lane.column above (omega arith))
      (high_via_home b t segments vias after rises)

  module _ (bottom top : List ℕ) (columns : ℕ) where
    -- the segments of a net go home
    pub segments_home : (below above : Option Reach) → ReachesAll bottom lane.net columns below → ReachesAll top lane.net columns above
        → HasSegments below above → HasVias below above → columns ≤ lane.column → lane.lower ≤ lane.upper
        → All (λ s. GoesHome w lane below above (segment s)) (lane_segments lane below above)
    segments_home (Some b) (Some t) low high segments vias right rises =
        let after : b.first ≤ lane.column = omega (arith, low.ordered, low.within) in
        let above : t.first ≤ lane.column = omega (arith, high.ordered, high.within) in
        All-of_three (λ s. GoesHome w lane (Some b) (Some t) (segment s)) join (Along lane.net lane.lower b.first lane.column)
        (Along lane.net lane.upper t.first lane.column)
        (join_home b t segments vias after rises, refl) (itself, refl) (upper_home b t segments vias after above rises, refl)
    segments_home (Some b) None low high segments vias right rises =
        All-of_one (λ s. GoesHome w lane (Some b) None (segment s)) (Along lane.net lane.lower b.first b.last) (itself, refl)
    segments_home None (Some t) low high segments vias right rises =
        All-of_one (λ s. GoesHome w lane None (Some t) (segment s)) (Along lane.net lane.upper t.first t.last) (itself, refl)
    segments_home None None low high segments vias right rises = All-nil (λ s. GoesHome w lane None None (segment s))

    -- and so do its vias
    pub vias_home : (below above : Option Reach) → ReachesAll bottom lane.net columns below
        → HasSegments below above → HasVias below above → columns ≤ lane.column → lane.lower ≤ lane.upper
        → All (λ v. GoesHome w lane below above (via v)) (lane_vias lane below above)
    vias_home (Some b) (Some t) low segments vias right rises =
        let after : b.first ≤ lane.column = omega (arith, low.ordered, low.within) in
        All-of_two (λ v. GoesHome w lane (Some b) (Some t) (via v)) low_via high_via
        (low_via_home b t segments after, refl) (high_via_home b t segments vias after rises, refl)
    vias_home (Some b) None low segments vias right rises = All-nil (λ v. GoesHome w lane (Some b) None (via v))
    vias_home None above low segments vias right rises = All-nil (λ v. GoesHome w lane None above (via v))

    -- a via on the lower track, at a bottom pin of the net
    pub bottom_via_home : (column : ℕ) → column < columns → get_or bottom column 0 ≡ lane.net → (below above : Option Reach)
        → ReachesAll bottom lane.net columns below → HasSegments below above → columns ≤ lane.column
        → Linked w (via (record { net = lane.net; column = column; track = lane.lower })) (home_of lane below above)
    bottom_via_home column within here None above low segments right = absurd (low column within here)
    bottom_via_home column within here (Some b) None low segments right =
        let between = low.between column within here in
        Linked-step (segments (Along lane.net lane.lower b.first b.last) (0, omega arith, refl))
        (on_track lane.net column lane.lower b.first b.last between.0 between.1)
    bottom_via_home column within here (Some b) (Some t) low segments right =
        let between = low.between column within here in
        Linked-step (segments (Along lane.net lane.lower b.first lane.column) (1, omega arith, refl))
        (on_track lane.net column lane.lower b.first lane.column between.0 (omega arith))

    -- a via on the upper track, at a top pin of the net
    pub top_via_home : (column : ℕ) → column < columns → get_or top column 0 ≡ lane.net → (below above : Option Reach)
        → ReachesAll bottom lane.net columns below → ReachesAll top lane.net columns above → HasSegments below above → HasVias below above
        → columns ≤ lane.column → lane.lower ≤ lane.upper
        → Linked w (via (record { net = lane.net; column = column; track = lane.upper })) (home_of lane below above)
    top_via_home column within here below None low high segments vias right rises = absurd (high column within here)
    top_via_home column within here None (Some t) low high segments vias right rises =
        let between = high.between column within here in
        Linked-step (segments (Along lane.net lane.upper t.first t.last) (0, omega arith, refl))
        (on_track lane.net column lane.upper t.first t.last between.0 between.1)
    top_via_home column within here (Some b) (Some t) low high segments vias right rises =
        let between = high.between column within here in
        let after : b.first ≤ lane.column = omega (arith, low.ordered, low.within) in
        let above : t.first ≤ lane.column = omega (arith, high.ordered, high.within) in
        onward (segments (Along lane.net lane.upper t.first lane.column) (2, omega arith, refl))
        (on_track lane.net column lane.upper t.first lane.column between.0 (omega arith))
        (upper_home b t segments vias after above rises)

    -- and the Acrosses from the pins to these vias
    pub bottom_across_home : (column : ℕ) → column < columns → get_or bottom column 0 ≡ lane.net → (below above : Option Reach)
        → ReachesAll bottom lane.net columns below → HasSegments below above → columns ≤ lane.column
        → Contains (elements w) (via (record { net = lane.net; column = column; track = lane.lower }))
        → Linked w (segment (Across lane.net column 0 lane.lower)) (home_of lane below above)
    bottom_across_home column within here below above low segments right there =
        onward there (from_across lane.net column lane.lower 0 lane.lower (omega arith) (omega arith))
        (bottom_via_home column within here below above low segments right)

    pub top_across_home : (column edge : ℕ) → column < columns → get_or top column 0 ≡ lane.net → (below above : Option Reach)
        → ReachesAll bottom lane.net columns below → ReachesAll top lane.net columns above → HasSegments below above → HasVias below above
        → columns ≤ lane.column → lane.lower ≤ lane.upper → lane.upper ≤ edge
        → Contains (elements w) (via (record { net = lane.net; column = column; track = lane.upper }))
        → Linked w (segment (Across lane.net column lane.upper edge)) (home_of lane below above)
    top_across_home column edge within here below above low high segments vias right rises under there =
        onward there (from_across lane.net column lane.upper lane.upper edge (omega arith) under)
        (top_via_home column within here below above low high segments vias right rises)
