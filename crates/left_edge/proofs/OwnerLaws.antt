use Rattle.std.proofs.Common.{◌≡◌, ◌<◌, ◌≤◌, ◌+◌, ◌-◌, ◌++◌, ◌||◌, not, false, eqb, ℕ, List, [], refl, sym, ap, ◌∙◌, arith, All, length, get_or, map}
use Rattle.std.proofs.lemmas.Bool.{cond_both, eqb-false}
use Rattle.std.proofs.lemmas.Bool.Decides.{nat_tests}
use Rattle.std.proofs.lemmas.List.Elements.{All-nil, All-append, All-map}
use Rattle.channel_model.specs.declared.wiring.Segment.{Segment}
use Rattle.channel_model.specs.declared.wiring.Segment.TheVariants.{Across}
use Rattle.channel_model.specs.declared.wiring.Via.{Via}
use Rattle.channel_model.specs.Pins.{Pins, IsChannel}
use Rattle.channel_model.specs.Nets.{StandsIn, nets_of}
use Rattle.channel_model.specs.Elements.{Layer, vertical, horizontal, Element, segment, via, elements, net_of, Covers}
use Rattle.channel_model.specs.Wired.{IsOnGrid, KeepsEdges}
use Rattle.channel_model.proofs.NetsOf.{nets-are}
use Rattle.left_edge.specs.Columns.{IsUnconstrained, net_at}
use Rattle.left_edge.specs.Spans.{span}
use Rattle.left_edge.specs.Tracks.{lasts, level_of, track_of, track_count}
use Rattle.left_edge.specs.EdgeWiring.{by_column, bottom_across, top_across, bottom_via, top_via, via_at, along, edge_wiring}
use Rattle.left_edge.proofs.ColumnLaws.{net_at-bottom, net_at-top, net_at-within, stands_at}
use Rattle.left_edge.proofs.SpanLaws.{IsSpanOf, has_span}
use Rattle.left_edge.proofs.TrackLaws.{Stands, held, lasts-rise, same_net}
use Rattle.left_edge.proofs.ByColumnLaws.{All-by_column}
use Rattle.std_laws.proofs.Members.{All-of_one}
use Rattle.std_laws.proofs.Every.{All-from_members}

module _ (pins : Pins) where
  -- whose a point of a layer is: of the net of its column, or of the net whose span covers it on its track
  abbrev pub Owns : ℕ → Layer → ℕ → ℕ → Type 0
  Owns net vertical x y = net_at pins x ≡ net
  Owns net horizontal x y = (y ≡ track_of pins net) × ((span pins net).first ≤ x) × (x ≤ (span pins net).last)

  -- an element lies on the grid, keeps the edges, and lies on points of its own net
  pub record Sound (e : Element) : Type 0 where
    pub stands : StandsIn pins (net_of e)
    pub grid : IsOnGrid (length pins.top) (track_count pins) e
    pub edges : KeepsEdges pins (track_count pins) e
    pub owned : (layer : Layer) (x y : ℕ) → Covers e layer x y → Owns (net_of e) layer x y

  -- a net with pins in a column
  pub record HasPin (column net : ℕ) : Type 0 where
    pub some : 0 < net
    pub here : net_at pins column ≡ net

  pub pin_stands : (column net : ℕ) → HasPin column net → StandsIn pins net
  pin_stands column net pin = stands_at pins column net pin.some pin.here

module _ (pins : Pins) (channel : IsChannel pins) (free : IsUnconstrained pins) where
  pub reach_of_net : (net : ℕ) → StandsIn pins net → IsSpanOf pins net (span pins net)
  reach_of_net net stands = (has_span pins channel free net stands).1

  pub net_stands : (net : ℕ) → StandsIn pins net → Stands pins net
  net_stands net stands = record { some = stands.0; starts = (reach_of_net net stands).starts }

  -- a point has one owner
  pub owner_same : (n m : ℕ) → StandsIn pins n → StandsIn pins m → (layer : Layer) (x y : ℕ) → Owns pins n layer x y → Owns pins m layer x y → n ≡ m
  owner_same n m first second vertical x y one other = sym one ∙ other
  owner_same n m first second horizontal x y one other =
      same_net pins n m x (net_stands n first) (net_stands m second) one.1 one.2 other.1 other.2 (omega (arith, one.0, other.0))

  -- the track of a net is one of the tracks
  pub low_track : (net : ℕ) → StandsIn pins net → level_of pins net < track_count pins
  low_track net stands =
      let reach = reach_of_net net stands in
      let last = (span pins net).last in
      let there = held pins net (last + 1) (net_stands net stands) (omega (arith, reach.ordered)) (omega arith) in
      let rest : length pins.top ≡ (last + 1) + (length pins.top - (last + 1)) = omega (arith, reach.within) in
      let more = lasts-rise pins (last + 1) (length pins.top - (last + 1)) in
      let all : track_count pins ≡ length (lasts pins ((last + 1) + (length pins.top - (last + 1)))) = ap (λ c. length (lasts pins c)) rest in
      omega (arith, there.within)

  -- a pin lies within the channel and its net's span
  pub pin_within : (column net : ℕ) → HasPin pins column net → column < length pins.top
  pin_within column net pin = net_at-within pins channel column (rw pin.here pin.some)

  pub pin_covered : (column net : ℕ) → HasPin pins column net → ((span pins net).first ≤ column) × (column ≤ (span pins net).last)
  pin_covered column net pin = (reach_of_net net (pin_stands pins column net pin)).between column (pin_within column net pin) pin.here

  pub bottom_pin : (column : ℕ) → 0 < get_or pins.bottom column 0 → HasPin pins column (get_or pins.bottom column 0)
  bottom_pin column some = record { some = some; here = net_at-bottom pins column some }

  pub top_pin : (column : ℕ) → 0 < get_or pins.top column 0 → HasPin pins column (get_or pins.top column 0)
  top_pin column some = record { some = some; here = net_at-top pins free column some }

  sound_bottom : (column : ℕ) → 0 < get_or pins.bottom column 0
      → Sound pins (segment (Across (get_or pins.bottom column 0) column 0 (track_of pins (get_or pins.bottom column 0))))
  sound_bottom column some =
      let net = get_or pins.bottom column 0 in
      let pin = bottom_pin column some in
      let stands = pin_stands pins column net pin in
      let low = low_track net stands in
      record {
        stands = stands;
        grid = (pin_within column net pin, omega arith, omega arith);
        edges = (λ at. refl, λ at. absurd (omega arith));
        owned = owned;
      }
    where
      owned : (layer : Layer) (x y : ℕ) → Covers (segment (Across (get_or pins.bottom column 0) column 0 (track_of pins (get_or pins.bottom column 0)))) layer x y
          → Owns pins (get_or pins.bottom column 0) layer x y
      owned vertical x y covers = rw covers.0 (net_at-bottom pins column some)
      owned horizontal x y covers = absurd covers

  sound_top : (column : ℕ) → 0 < get_or pins.top column 0
      → Sound pins (segment (Across (get_or pins.top column 0) column (track_of pins (get_or pins.top column 0)) (track_count pins + 1)))
  sound_top column some =
      let net = get_or pins.top column 0 in
      let pin = top_pin column some in
      let stands = pin_stands pins column net pin in
      let low = low_track net stands in
      record {
        stands = stands;
        grid = (pin_within column net pin, omega arith, omega arith);
        edges = (λ at. absurd (omega arith), λ at. refl);
        owned = owned;
      }
    where
      owned : (layer : Layer) (x y : ℕ)
          → Covers (segment (Across (get_or pins.top column 0) column (track_of pins (get_or pins.top column 0)) (track_count pins + 1))) layer x y
          → Owns pins (get_or pins.top column 0) layer x y
      owned vertical x y covers = rw covers.0 (net_at-top pins free column some)
      owned horizontal x y covers = absurd covers

  sound_along : (net : ℕ) → StandsIn pins net → Sound pins (segment (along pins net))
  sound_along net stands =
      let reach = reach_of_net net stands in
      let low = low_track net stands in
      record { stands = stands; grid = (omega arith, omega arith, reach.ordered, reach.within); edges = tt; owned = owned }
    where
      owned : (layer : Layer) (x y : ℕ) → Covers (segment (along pins net)) layer x y → Owns pins net layer x y
      owned vertical x y covers = absurd covers
      owned horizontal x y covers = covers

  sound_via : (column net : ℕ) → HasPin pins column net → Sound pins (via (via_at pins net column))
  sound_via column net pin =
      let stands = pin_stands pins column net pin in
      let low = low_track net stands in
      record { stands = stands; grid = (pin_within column net pin, omega arith, omega arith); edges = tt; owned = owned }
    where
      owned : (layer : Layer) (x y : ℕ) → Covers (via (via_at pins net column)) layer x y → Owns pins net layer x y
      owned vertical x y covers = rw covers.0 pin.here
      owned horizontal x y covers = let c = pin_covered column net pin in (covers.1, rw covers.0 c.0, rw covers.0 c.1)

  -- what holds of what is made of each pin holds of all segments, and of all vias
  pub All-segments : (P : Segment → Type 0)
      → ((column : ℕ) → 0 < get_or pins.bottom column 0 → P (Across (get_or pins.bottom column 0) column 0 (track_of pins (get_or pins.bottom column 0))))
      → ((column : ℕ) → 0 < get_or pins.top column 0
      → P (Across (get_or pins.top column 0) column (track_of pins (get_or pins.top column 0)) (track_count pins + 1)))
      → ((net : ℕ) → StandsIn pins net → P (along pins net))
      → All P (edge_wiring pins).segments
  All-segments P bottom top net =
      let none : List Segment = [] in
      let w = length pins.top in
      All-append P (by_column (bottom_across pins) w ++ by_column (top_across pins) w) (map (along pins) (nets_of pins))
      (All-append P (by_column (bottom_across pins) w) (by_column (top_across pins) w)
      (All-by_column P (bottom_across pins) w (λ column below.
      cond_both (eqb (get_or pins.bottom column 0) 0) none _ (All P) (λ t. All-nil P)
      (λ pin. let some = eqb-false _ _ pin in All-of_one P _ (bottom column (omega arith)))))
      (All-by_column P (top_across pins) w (λ column below.
      cond_both (eqb (get_or pins.top column 0) 0) none _ (All P) (λ t. All-nil P)
      (λ pin. let some = eqb-false _ _ pin in All-of_one P _ (top column (omega arith))))))
      (All-map P (along pins) (nets_of pins) (All-from_members (λ n. P (along pins n)) (nets_of pins) (λ n there. net n ((nets-are pins).standing n there))))

  pub All-vias : (P : Via → Type 0) → ((column net : ℕ) → HasPin pins column net → P (via_at pins net column)) → All P (edge_wiring pins).vias
  All-vias P each =
      let none : List Via = [] in
      let w = length pins.top in
      All-append P (by_column (bottom_via pins) w) (by_column (top_via pins) w)
      (All-by_column P (bottom_via pins) w (λ column below.
      cond_both (eqb (get_or pins.bottom column 0) 0) none _ (All P) (λ t. All-nil P)
      (λ pin. let some = eqb-false _ _ pin in All-of_one P _ (each column _ (bottom_pin column (omega arith))))))
      (All-by_column P (top_via pins) w (λ column below.
      cond_both (eqb (get_or pins.top column 0) 0 || not (eqb (get_or pins.bottom column 0) 0)) none _ (All P) (λ t. All-nil P)
      (λ pin. All-of_one P _ (each column _ (top_pin column (some_top _ _ pin))))))
    where
      some_top : (top bottom : ℕ) → (eqb top 0 || not (eqb bottom 0)) ≡ false → 0 < top
      some_top top bottom is = grind (arith, nat_tests)

  -- each element of the wiring is sound
  pub all_sound : All (Sound pins) (elements (edge_wiring pins))
  all_sound =
      All-append (Sound pins) (map segment (edge_wiring pins).segments) (map via (edge_wiring pins).vias)
      (All-map (Sound pins) segment (edge_wiring pins).segments
      (All-segments (λ s. Sound pins (segment s)) sound_bottom sound_top sound_along))
      (All-map (Sound pins) via (edge_wiring pins).vias (All-vias (λ v. Sound pins (via v)) sound_via))
