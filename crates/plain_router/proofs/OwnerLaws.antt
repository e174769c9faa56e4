use Rattle.std.proofs.Common.{◌≡◌, ◌<◌, ◌≤◌, ◌+◌, ◌*◌, ◌++◌, ◌⊎◌, ℕ, List, Option, Some, None, inl, inr, refl, sym, ap, ◌∙◌, arith, All, Contains, length, get_or, map}
use Rattle.std.proofs.lemmas.List.Elements.{All-nil, All-append, All-map, Contains-get_or}
use Rattle.channel_model.specs.declared.reach.Reach.{Reach}
use Rattle.channel_model.specs.declared.wiring.Segment.TheVariants.{Across, Along}
use Rattle.channel_model.specs.declared.wiring.Via.{Via}
use Rattle.channel_model.specs.Pins.{Pins, IsChannel}
use Rattle.channel_model.specs.Nets.{AreNets, place_of}
use Rattle.channel_model.specs.Reach.{reach_of}
use Rattle.channel_model.specs.Elements.{Layer, vertical, horizontal, Element, segment, via, elements, net_of, Covers}
use Rattle.channel_model.specs.Wired.{IsOnGrid, KeepsEdges}
use Rattle.channel_model.proofs.PlaceLaws.{place_of-member, place_of-is}
use Rattle.channel_model.proofs.ReachLaws.{ReachesAll, reach_of-all}
use Rattle.plain_router.specs.Plain.{for_pins, for_nets, lane_of, bottom_across, top_across, bottom_via, top_via, lane_segments, lane_vias, net_segments, net_vias, plain_with}
use Rattle.plain_router.proofs.PinLaws.{All-for_pins, All-for_nets}
use Rattle.std_laws.proofs.Members.{All-of_one}
use Rattle.std_laws.proofs.Every.{All-of_two, All-of_three}

module _ (pins : Pins) (nets : List ℕ) where
  -- the net to which the plain router gives a point
  abbrev pub Owns : ℕ → Layer → ℕ → ℕ → Type 0
  Owns net vertical x y =
      ((x < length pins.top) × (y ≤ length nets) × (get_or pins.bottom x 0 ≡ net))
      ⊎ (((x < length pins.top) × (length nets < y) × (get_or pins.top x 0 ≡ net))
      ⊎ (x ≡ length pins.top + place_of nets net))
  Owns net horizontal x y = (y ≡ place_of nets net + 1) ⊎ (y ≡ length nets + place_of nets net + 1)

  -- an element lies on the grid, keeps the edges, and lies on points of its own net
  pub record Sound (e : Element) : Type 0 where
    pub listed : Contains nets (net_of e)
    pub grid : IsOnGrid (length pins.top + length nets) (2 * length nets) e
    pub edges : KeepsEdges pins (2 * length nets) e
    pub owned : (layer : Layer) (x y : ℕ) → Covers e layer x y → Owns (net_of e) layer x y

  same_net : (n m : ℕ) → Contains nets n → Contains nets m → place_of nets n ≡ place_of nets m → n ≡ m
  same_net n m first second same =
      sym (place_of-member nets n first).1 ∙ ap (λ p. get_or nets p 0) same ∙ (place_of-member nets m second).1

  -- a point has one owner
  pub owner_same : (n m : ℕ) → Contains nets n → Contains nets m → (layer : Layer) (x y : ℕ) → Owns n layer x y → Owns m layer x y → n ≡ m
  owner_same n m first second vertical x y (inl a) (inl b) = sym a.2 ∙ b.2
  owner_same n m first second vertical x y (inl a) (inr (inl b)) = absurd (omega arith)
  owner_same n m first second vertical x y (inl a) (inr (inr b)) = absurd (omega arith)
  owner_same n m first second vertical x y (inr (inl a)) (inl b) = absurd (omega arith)
  owner_same n m first second vertical x y (inr (inl a)) (inr (inl b)) = sym a.2 ∙ b.2
  owner_same n m first second vertical x y (inr (inl a)) (inr (inr b)) = absurd (omega arith)
  owner_same n m first second vertical x y (inr (inr a)) (inl b) = absurd (omega arith)
  owner_same n m first second vertical x y (inr (inr a)) (inr (inl b)) = absurd (omega arith)
  owner_same n m first second vertical x y (inr (inr a)) (inr (inr b)) = same_net n m first second (omega arith)
  owner_same n m first second horizontal x y (inl a) (inl b) = same_net n m first second (omega arith)
  owner_same n m first second horizontal x y (inl a) (inr b) = absurd (omega (arith, (place_of-member nets n first).0))
  owner_same n m first second horizontal x y (inr a) (inl b) = absurd (omega (arith, (place_of-member nets m second).0))
  owner_same n m first second horizontal x y (inr a) (inr b) = same_net n m first second (omega arith)

  sound_bottom : (net column : ℕ) → Contains nets net → column < length pins.top → get_or pins.bottom column 0 ≡ net
      → Sound (segment (bottom_across nets net column))
  sound_bottom net column member within here =
      let place = (place_of-member nets net member).0 in
      record {
        listed = member;
        grid = (omega arith, omega arith, omega arith);
        edges = (λ low. here, λ high. absurd (omega arith));
        owned = owned;
      }
    where
      owned : (layer : Layer) (x y : ℕ) → Covers (segment (bottom_across nets net column)) layer x y → Owns net layer x y
      owned vertical x y covers =
          inl (omega arith, omega (arith, (place_of-member nets net member).0), rw covers.0 here)
      owned horizontal x y covers = absurd covers

  sound_top : (net column : ℕ) → Contains nets net → column < length pins.top → get_or pins.top column 0 ≡ net
      → Sound (segment (top_across nets net column))
  sound_top net column member within here =
      let place = (place_of-member nets net member).0 in
      record {
        listed = member;
        grid = (omega arith, omega arith, omega arith);
        edges = (λ low. absurd (omega arith), λ high. here);
        owned = owned;
      }
    where
      owned : (layer : Layer) (x y : ℕ) → Covers (segment (top_across nets net column)) layer x y → Owns net layer x y
      owned vertical x y covers = inr (inl (omega arith, omega arith, rw covers.0 here))
      owned horizontal x y covers = absurd covers

  sound_join : (net place : ℕ) → Contains nets net → place ≡ place_of nets net
      → Sound (segment (Across net (length pins.top + place) (place + 1) (length nets + place + 1)))
  sound_join net place member is =
      let below = (place_of-member nets net member).0 in
      record {
        listed = member;
        grid = (omega arith, omega arith, omega arith);
        edges = (λ low. absurd (omega arith), λ high. absurd (omega arith));
        owned = owned;
      }
    where
      owned : (layer : Layer) (x y : ℕ) → Covers (segment (Across net (length pins.top + place) (place + 1) (length nets + place + 1))) layer x y
          → Owns net layer x y
      owned vertical x y covers = inr (inr (omega arith))
      owned horizontal x y covers = absurd covers

  sound_lower : (net track from to : ℕ) → Contains nets net → track ≡ place_of nets net + 1 → from ≤ to → to < length pins.top + length nets
      → Sound (segment (Along net track from to))
  sound_lower net track from to member is ordered within =
      let below = (place_of-member nets net member).0 in
      record { listed = member; grid = (omega arith, omega arith, ordered, within); edges = tt; owned = owned }
    where
      owned : (layer : Layer) (x y : ℕ) → Covers (segment (Along net track from to)) layer x y → Owns net layer x y
      owned vertical x y covers = absurd covers
      owned horizontal x y covers = inl (covers.0 ∙ is)

  sound_upper : (net track from to : ℕ) → Contains nets net → track ≡ length nets + place_of nets net + 1 → from ≤ to → to < length pins.top + length nets
      → Sound (segment (Along net track from to))
  sound_upper net track from to member is ordered within =
      let below = (place_of-member nets net member).0 in
      record { listed = member; grid = (omega arith, omega arith, ordered, within); edges = tt; owned = owned }
    where
      owned : (layer : Layer) (x y : ℕ) → Covers (segment (Along net track from to)) layer x y → Owns net layer x y
      owned vertical x y covers = absurd covers
      owned horizontal x y covers = inr (covers.0 ∙ is)

  -- a via on a track of its net, in a column that is its net's at that track
  sound_via : (net column track : ℕ) → Contains nets net → column < length pins.top + length nets
      → (track ≡ place_of nets net + 1) ⊎ (track ≡ length nets + place_of nets net + 1) → Owns net vertical column track
      → Sound (via (record { net = net; column = column; track = track }))
  sound_via net column track member within is own =
      let below = (place_of-member nets net member).0 in
      record { listed = member; grid = grid is; edges = tt; owned = owned }
    where
      grid : (track ≡ place_of nets net + 1) ⊎ (track ≡ length nets + place_of nets net + 1)
          → (column < length pins.top + length nets) × (0 < track) × (track ≤ 2 * length nets)
      grid (inl low) = (within, omega arith, omega (arith, (place_of-member nets net member).0))
      grid (inr high) = (within, omega arith, omega (arith, (place_of-member nets net member).0))

      owned : (layer : Layer) (x y : ℕ) → Covers (via (record { net = net; column = column; track = track })) layer x y → Owns net layer x y
      owned vertical x y covers = rw (covers.0, covers.1) own
      owned horizontal x y covers = rw covers.1 is

  -- the segments and vias of one net
  sound_lane_segments : (net place : ℕ) → Contains nets net → place ≡ place_of nets net → length pins.bottom ≡ length pins.top
      → (below above : Option Reach) → ReachesAll pins.bottom net (length pins.bottom) below → ReachesAll pins.top net (length pins.top) above
      → All (λ s. Sound (segment s)) (lane_segments (lane_of (length pins.top) nets net place) below above)
  sound_lane_segments net place member is matched (Some b) (Some t) low high =
      let lane = lane_of (length pins.top) nets net place in
      let inside = (place_of-member nets net member).0 in
      All-of_three (λ s. Sound (segment s)) (Across net lane.column lane.lower lane.upper) (Along net lane.lower b.first lane.column)
      (Along net lane.upper t.first lane.column)
      (sound_join net place member is)
      (sound_lower net lane.lower b.first lane.column member (omega arith) (omega (arith, low.ordered, low.within)) (omega arith))
      (sound_upper net lane.upper t.first lane.column member (omega arith) (omega (arith, high.ordered, high.within)) (omega arith))
  sound_lane_segments net place member is matched (Some b) None low high =
      let lane = lane_of (length pins.top) nets net place in
      All-of_one (λ s. Sound (segment s)) (Along net lane.lower b.first b.last)
      (sound_lower net lane.lower b.first b.last member (omega arith) low.ordered (omega (arith, low.within)))
  sound_lane_segments net place member is matched None (Some t) low high =
      let lane = lane_of (length pins.top) nets net place in
      All-of_one (λ s. Sound (segment s)) (Along net lane.upper t.first t.last)
      (sound_upper net lane.upper t.first t.last member (omega arith) high.ordered (omega (arith, high.within)))
  sound_lane_segments net place member is matched None None low high = All-nil (λ s. Sound (segment s))

  sound_lane_vias : (net place : ℕ) → Contains nets net → place ≡ place_of nets net → (below above : Option Reach)
      → All (λ v. Sound (via v)) (lane_vias (lane_of (length pins.top) nets net place) below above)
  sound_lane_vias net place member is (Some b) (Some t) =
      let lane = lane_of (length pins.top) nets net place in
      let inside = (place_of-member nets net member).0 in
      let low : Via = record { net = net; column = lane.column; track = lane.lower } in
      let high : Via = record { net = net; column = lane.column; track = lane.upper } in
      All-of_two (λ v. Sound (via v)) low high
      (sound_via net lane.column lane.lower member (omega arith) (inl (omega arith)) (inr (inr (omega arith))))
      (sound_via net lane.column lane.upper member (omega arith) (inr (omega arith)) (inr (inr (omega arith))))
  sound_lane_vias net place member is (Some b) None = All-nil (λ v. Sound (via v))
  sound_lane_vias net place member is None above = All-nil (λ v. Sound (via v))

  module _ (channel : IsChannel pins) (are : AreNets pins nets) where
    listed_bottom : (column : ℕ) → 0 < get_or pins.bottom column 0 → Contains nets (get_or pins.bottom column 0)
    listed_bottom column some = are.listed (get_or pins.bottom column 0) (some, (column, inr refl))

    listed_top : (column : ℕ) → 0 < get_or pins.top column 0 → Contains nets (get_or pins.top column 0)
    listed_top column some = are.listed (get_or pins.top column 0) (some, (column, inl refl))

    sound_segments : All (λ s. Sound (segment s)) (plain_with pins nets).segments
    sound_segments =
        All-append (λ s. Sound (segment s))
        (for_pins (bottom_across nets) pins.bottom (length pins.bottom) ++ for_pins (top_across nets) pins.top (length pins.top))
        (for_nets (net_segments pins nets) nets (length nets))
        (All-append (λ s. Sound (segment s)) (for_pins (bottom_across nets) pins.bottom (length pins.bottom))
        (for_pins (top_across nets) pins.top (length pins.top))
        (All-for_pins (λ s. Sound (segment s)) (bottom_across nets) pins.bottom (length pins.bottom)
        (λ column below some. sound_bottom (get_or pins.bottom column 0) column (listed_bottom column some) (omega (arith, channel.matched)) refl))
        (All-for_pins (λ s. Sound (segment s)) (top_across nets) pins.top (length pins.top)
        (λ column below some. sound_top (get_or pins.top column 0) column (listed_top column some) below refl)))
        (All-for_nets (λ s. Sound (segment s)) (net_segments pins nets) nets (length nets)
        (λ place below.
        let net = get_or nets place 0 in
        sound_lane_segments net place (Contains-get_or nets place 0 below) (place_of-is nets place net are.ascending below refl)
        (sym channel.matched) (reach_of pins.bottom net (length pins.bottom)) (reach_of pins.top net (length pins.top))
        (reach_of-all pins.bottom net (length pins.bottom)) (reach_of-all pins.top net (length pins.top))))

    sound_vias : All (λ v. Sound (via v)) (plain_with pins nets).vias
    sound_vias =
        All-append (λ v. Sound (via v))
        (for_pins (bottom_via nets) pins.bottom (length pins.bottom) ++ for_pins (top_via nets) pins.top (length pins.top))
        (for_nets (net_vias pins nets) nets (length nets))
        (All-append (λ v. Sound (via v)) (for_pins (bottom_via nets) pins.bottom (length pins.bottom))
        (for_pins (top_via nets) pins.top (length pins.top))
        (All-for_pins (λ v. Sound (via v)) (bottom_via nets) pins.bottom (length pins.bottom)
        (λ column below some.
        let net = get_or pins.bottom column 0 in
        let member = listed_bottom column some in
        let place = (place_of-member nets net member).0 in
        sound_via net column (place_of nets net + 1) member (omega (arith, channel.matched)) (inl refl)
        (inl (omega (arith, channel.matched), omega arith, refl))))
        (All-for_pins (λ v. Sound (via v)) (top_via nets) pins.top (length pins.top)
        (λ column below some.
        let net = get_or pins.top column 0 in
        let member = listed_top column some in
        sound_via net column (length nets + place_of nets net + 1) member (omega arith) (inr refl)
        (inr (inl (below, omega arith, refl))))))
        (All-for_nets (λ v. Sound (via v)) (net_vias pins nets) nets (length nets)
        (λ place below.
        let net = get_or nets place 0 in
        sound_lane_vias net place (Contains-get_or nets place 0 below) (place_of-is nets place net are.ascending below refl)
        (reach_of pins.bottom net (length pins.bottom)) (reach_of pins.top net (length pins.top))))

    -- each element of the plain wiring is sound
    pub all_sound : All Sound (elements (plain_with pins nets))
    all_sound =
        All-append Sound (map segment (plain_with pins nets).segments) (map via (plain_with pins nets).vias)
        (All-map Sound segment (plain_with pins nets).segments sound_segments)
        (All-map Sound via (plain_with pins nets).vias sound_vias)
