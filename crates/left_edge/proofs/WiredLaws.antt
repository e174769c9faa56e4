use Rattle.std.proofs.Common.{◌≡◌, ◌<◌, ◌≤◌, ◌+◌, ◌++◌, ◌||◌, not, false, eqb, ℕ, List, [], ◌∷◌, inl, inr, refl, sym, subst, ◌∙◌, arith, All, Contains, length, get_or, map}
use Rattle.std.proofs.lemmas.Bool.{cases_eq, cond-true, cond-false, eq-eqb, ne_eqb}
use Rattle.std.proofs.lemmas.Bool.Decides.{nat_tests}
use Rattle.std.proofs.lemmas.List.Elements.{All-append, All-map, All-contains, Contains-append_left, Contains-append_right}
use Rattle.channel_model.specs.declared.wiring.Segment.{Segment}
use Rattle.channel_model.specs.declared.wiring.Segment.TheVariants.{Across}
use Rattle.channel_model.specs.declared.wiring.Via.{Via}
use Rattle.channel_model.specs.declared.wiring.Wiring.{Wiring}
use Rattle.channel_model.specs.Pins.{Pins, IsChannel}
use Rattle.channel_model.specs.Nets.{StandsIn, nets_of}
use Rattle.channel_model.specs.Elements.{vertical, horizontal, Element, segment, via, elements, net_of}
use Rattle.channel_model.specs.Wired.{Linked, itself, onward, Wired}
use Rattle.channel_model.proofs.NetsOf.{nets-are}
use Rattle.left_edge.specs.Columns.{IsUnconstrained}
use Rattle.left_edge.specs.Tracks.{track_of, track_count}
use Rattle.left_edge.specs.EdgeWiring.{by_column, bottom_across, top_across, bottom_via, top_via, via_at, along, edge_wiring}
use Rattle.left_edge.proofs.ColumnLaws.{net_at-bottom}
use Rattle.left_edge.proofs.ChainLaws.{Linked-trans, Linked-step, Linked-sym}
use Rattle.left_edge.proofs.ByColumnLaws.{Contains-by_column}
use Rattle.left_edge.proofs.OwnerLaws.{Sound, HasPin, pin_stands, owner_same, low_track, pin_within, pin_covered, bottom_pin, top_pin, All-segments, All-vias, all_sound}
use Rattle.std_laws.proofs.Members.{member-head, map-member}

module _ (pins : Pins) (channel : IsChannel pins) (free : IsUnconstrained pins) where
  abbrev wiring : Wiring
  wiring = edge_wiring pins

  -- the Along of a net, to which all its elements are linked
  abbrev home : ℕ → Element
  home net = segment (along pins net)

  -- where the parts of the wiring stand
  from_segments : (s : Segment) → Contains wiring.segments s → Contains (elements wiring) (segment s)
  from_segments s there =
      Contains-append_left (map segment wiring.segments) (map via wiring.vias) (segment s) (map-member segment wiring.segments s there)

  from_vias : (v : Via) → Contains wiring.vias v → Contains (elements wiring) (via v)
  from_vias v there =
      Contains-append_right (map segment wiring.segments) (map via wiring.vias) (via v) (map-member via wiring.vias v there)

  has_along : (net : ℕ) → StandsIn pins net → Contains (elements wiring) (home net)
  has_along net stands =
      from_segments (along pins net)
      (Contains-append_right (by_column (bottom_across pins) (length pins.top) ++ by_column (top_across pins) (length pins.top))
      (map (along pins) (nets_of pins)) (along pins net)
      (map-member (along pins) (nets_of pins) net ((nets-are pins).listed net stands)))

  has_bottom : (column : ℕ) → 0 < get_or pins.bottom column 0
      → Contains wiring.segments (Across (get_or pins.bottom column 0) column 0 (track_of pins (get_or pins.bottom column 0)))
  has_bottom column some =
      let net = get_or pins.bottom column 0 in
      let s : Segment = Across net column 0 (track_of pins net) in
      let none : List Segment = [] in
      let w = length pins.top in
      let is : bottom_across pins column ≡ s ∷ none = cond-false (eqb net 0) none (s ∷ none) (ne_eqb net 0 (λ e. omega arith)) in
      let there : Contains (bottom_across pins column) s = rw is (member-head s none) in
      Contains-append_left (by_column (bottom_across pins) w ++ by_column (top_across pins) w) (map (along pins) (nets_of pins)) s
      (Contains-append_left (by_column (bottom_across pins) w) (by_column (top_across pins) w) s
      (Contains-by_column (bottom_across pins) w column s (pin_within pins channel free column net (bottom_pin pins channel free column some)) there))

  has_top : (column : ℕ) → 0 < get_or pins.top column 0
      → Contains wiring.segments (Across (get_or pins.top column 0) column (track_of pins (get_or pins.top column 0)) (track_count pins + 1))
  has_top column some =
      let net = get_or pins.top column 0 in
      let s : Segment = Across net column (track_of pins net) (track_count pins + 1) in
      let none : List Segment = [] in
      let w = length pins.top in
      let is : top_across pins column ≡ s ∷ none = cond-false (eqb net 0) none (s ∷ none) (ne_eqb net 0 (λ e. omega arith)) in
      let there : Contains (top_across pins column) s = rw is (member-head s none) in
      Contains-append_left (by_column (bottom_across pins) w ++ by_column (top_across pins) w) (map (along pins) (nets_of pins)) s
      (Contains-append_right (by_column (bottom_across pins) w) (by_column (top_across pins) w) s
      (Contains-by_column (top_across pins) w column s (pin_within pins channel free column net (top_pin pins channel free column some)) there))

  -- a column with pins has one via
  has_via : (column net : ℕ) → HasPin pins column net → Contains (elements wiring) (via (via_at pins net column))
  has_via column net pin =
      let none : List Via = [] in
      let w = length pins.top in
      let v = via_at pins net column in
      let within = pin_within pins channel free column net pin in
      from_vias v
      (elim (cases_eq (get_or pins.bottom column 0) 0) [
        | inl lacking ↦
            let top : get_or pins.top column 0 ≡ net =
            sym (cond-true (eqb (get_or pins.bottom column 0) 0) (get_or pins.top column 0) (get_or pins.bottom column 0) (eq-eqb _ _ lacking)) ∙ pin.here in
            let is : top_via pins column ≡ via_at pins (get_or pins.top column 0) column ∷ none =
            cond-false (eqb (get_or pins.top column 0) 0 || not (eqb (get_or pins.bottom column 0) 0)) none _ (alone _ _ (rw top pin.some) lacking) in
            let there : Contains (top_via pins column) v = rw (is, top) (member-head v none) in
            Contains-append_right (by_column (bottom_via pins) w) (by_column (top_via pins) w) v
            (Contains-by_column (top_via pins) w column v within there)
        | inr closed ↦
            let bottom : get_or pins.bottom column 0 ≡ net = sym (net_at-bottom pins column (omega arith)) ∙ pin.here in
            let is : bottom_via pins column ≡ via_at pins (get_or pins.bottom column 0) column ∷ none =
            cond-false (eqb (get_or pins.bottom column 0) 0) none _ (ne_eqb _ _ closed) in
            let there : Contains (bottom_via pins column) v = rw (is, bottom) (member-head v none) in
            Contains-append_left (by_column (bottom_via pins) w) (by_column (top_via pins) w) v
            (Contains-by_column (bottom_via pins) w column v within there)
      ])
    where
      alone : (top bottom : ℕ) → 0 < top → bottom ≡ 0 → (eqb top 0 || not (eqb bottom 0)) ≡ false
      alone top bottom some lacking = grind (arith, nat_tests)

  -- each element is linked to its net's Along
  via_home : (column net : ℕ) → HasPin pins column net → Linked wiring (via (via_at pins net column)) (home net)
  via_home column net pin =
      let covered = pin_covered pins channel free column net pin in
      Linked-step (has_along net (pin_stands pins column net pin))
      (record { layer = horizontal; column = column; line = track_of pins net; first = (refl, refl); second = (refl, covered.0, covered.1) })

  across_home : (column net low high : ℕ) → HasPin pins column net → low ≤ track_of pins net → track_of pins net ≤ high
      → Linked wiring (segment (Across net column low high)) (home net)
  across_home column net low high pin above below =
      onward (has_via column net pin)
      (record { layer = vertical; column = column; line = track_of pins net; first = (refl, above, below); second = (refl, refl) })
      (via_home column net pin)

  all_linked : All (λ e. Linked wiring e (home (net_of e))) (elements wiring)
  all_linked =
      All-append (λ e. Linked wiring e (home (net_of e))) (map segment wiring.segments) (map via wiring.vias)
      (All-map (λ e. Linked wiring e (home (net_of e))) segment wiring.segments
      (All-segments pins channel free (λ s. Linked wiring (segment s) (home (net_of (segment s))))
      (λ column some.
      let net = get_or pins.bottom column 0 in
      across_home column net 0 (track_of pins net) (bottom_pin pins channel free column some) (omega arith) (omega arith))
      (λ column some.
      let net = get_or pins.top column 0 in
      let pin = top_pin pins channel free column some in
      let low = low_track pins channel free net (pin_stands pins column net pin) in
      across_home column net (track_of pins net) (track_count pins + 1) pin (omega arith) (omega arith))
      (λ net stands. itself)))
      (All-map (λ e. Linked wiring e (home (net_of e))) via wiring.vias
      (All-vias pins channel free (λ v. Linked wiring (via v) (home (net_of (via v)))) via_home))

  -- the wiring connects the channel
  pub edge_wired : Wired pins wiring
  edge_wired =
      let sound = λ (e : Element) (there : Contains (elements wiring) e).
      All-contains (Sound pins) (elements wiring) e (all_sound pins channel free) there in
      let to_home = λ (e : Element) (there : Contains (elements wiring) e).
      All-contains (λ e. Linked wiring e (home (net_of e))) (elements wiring) e all_linked there in
      record {
        columns = omega arith;
        on_grid = λ e there. ((sound e there).grid, (sound e there).stands);
        apart = λ e f first second meets.
            owner_same pins channel free (net_of e) (net_of f) (sound e first).stands (sound f second).stands meets.layer meets.column meets.line
            ((sound e first).owned meets.layer meets.column meets.line meets.first)
            ((sound f second).owned meets.layer meets.column meets.line meets.second);
        edges = λ e there. (sound e there).edges;
        bottom_pins = λ column some. (track_of pins (get_or pins.bottom column 0), has_bottom column some);
        top_pins = λ column some. (track_of pins (get_or pins.top column 0), has_top column some);
        linked = λ e f first second same.
            Linked-trans (to_home e first)
            (subst (λ n. Linked wiring (home n) f) (sym same) (Linked-sym second (to_home f second)));
      }
