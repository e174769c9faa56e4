use Rattle.std.proofs.Common.{◌≡◌, ◌<◌, ◌+◌, ◌*◌, ◌++◌, ℕ, List, Option, inl, inr, refl, sym, subst, arith, All, Contains, length, get_or, map}
use Rattle.std.proofs.lemmas.Bool.{cases_lt}
use Rattle.std.proofs.lemmas.List.{get_or_past}
use Rattle.std.proofs.lemmas.List.Elements.{All-append, All-map, All-weaker, All-contains, Contains-append_left, Contains-append_right}
use Rattle.channel_model.specs.declared.reach.Reach.{Reach}
use Rattle.channel_model.specs.declared.wiring.Segment.{Segment}
use Rattle.channel_model.specs.declared.wiring.Via.{Via}
use Rattle.channel_model.specs.declared.wiring.Wiring.{Wiring}
use Rattle.channel_model.specs.Pins.{Pins, IsChannel}
use Rattle.channel_model.specs.Nets.{AreNets, nets_of, place_of}
use Rattle.channel_model.proofs.NetsOf.{nets-are}
use Rattle.channel_model.specs.Reach.{reach_of}
use Rattle.channel_model.specs.Elements.{Element, segment, via, elements, net_of}
use Rattle.channel_model.specs.Wired.{Linked, Wired}
use Rattle.channel_model.proofs.PlaceLaws.{place_of-member, place_of-is}
use Rattle.channel_model.proofs.ReachLaws.{ReachesAll, reach_of-all}
use Rattle.plain_router.specs.declared.router.Lane.{Lane}
use Rattle.plain_router.specs.Plain.{for_pins, for_nets, lane_of, bottom_across, top_across, bottom_via, top_via, net_segments, net_vias, plain_of, plain_with}
use Rattle.plain_router.proofs.PinLaws.{All-for_pins, All-for_nets, Contains-for_pins, Contains-for_nets}
use Rattle.plain_router.proofs.ChainLaws.{Linked-trans, Linked-sym}
use Rattle.plain_router.proofs.OwnerLaws.{Sound, owner_same, all_sound}
use Rattle.plain_router.proofs.LinkLaws.{home_of, GoesHome, segments_home, vias_home, bottom_via_home, top_via_home, bottom_across_home, top_across_home}
use Rattle.std_laws.proofs.Members.{map-member}

module _ (pins : Pins) (nets : List ℕ) (channel : IsChannel pins) (are : AreNets pins nets) where
  abbrev wiring : Wiring
  wiring = plain_with pins nets

  abbrev below_of : ℕ → Option Reach
  below_of net = reach_of pins.bottom net (length pins.bottom)

  abbrev above_of : ℕ → Option Reach
  above_of net = reach_of pins.top net (length pins.top)

  abbrev lane : ℕ → ℕ → Lane
  lane net place = lane_of (length pins.top) nets net place

  -- the home of a net
  abbrev home : ℕ → Element
  home net = home_of (lane net (place_of nets net)) (below_of net) (above_of net)

  below_all : (net : ℕ) → ReachesAll pins.bottom net (length pins.top) (below_of net)
  below_all net = rw channel.matched (reach_of-all pins.bottom net (length pins.bottom))

  above_all : (net : ℕ) → ReachesAll pins.top net (length pins.top) (above_of net)
  above_all net = reach_of-all pins.top net (length pins.top)

  -- where the parts of the wiring stand
  from_segments : (s : Segment) → Contains wiring.segments s → Contains (elements wiring) (segment s)
  from_segments s there =
      Contains-append_left (map segment wiring.segments) (map via wiring.vias) (segment s) (map-member segment wiring.segments s there)

  from_vias : (v : Via) → Contains wiring.vias v → Contains (elements wiring) (via v)
  from_vias v there =
      Contains-append_right (map segment wiring.segments) (map via wiring.vias) (via v) (map-member via wiring.vias v there)

  bottom_segment : (column : ℕ) → column < length pins.bottom → 0 < get_or pins.bottom column 0
      → Contains wiring.segments (bottom_across nets (get_or pins.bottom column 0) column)
  bottom_segment column within some =
      let s = bottom_across nets (get_or pins.bottom column 0) column in
      Contains-append_left (for_pins (bottom_across nets) pins.bottom (length pins.bottom) ++ for_pins (top_across nets) pins.top (length pins.top))
      (for_nets (net_segments pins nets) nets (length nets)) s
      (Contains-append_left (for_pins (bottom_across nets) pins.bottom (length pins.bottom)) (for_pins (top_across nets) pins.top (length pins.top)) s
      (Contains-for_pins (bottom_across nets) pins.bottom (length pins.bottom) column within some))

  top_segment : (column : ℕ) → column < length pins.top → 0 < get_or pins.top column 0
      → Contains wiring.segments (top_across nets (get_or pins.top column 0) column)
  top_segment column within some =
      let s = top_across nets (get_or pins.top column 0) column in
      Contains-append_left (for_pins (bottom_across nets) pins.bottom (length pins.bottom) ++ for_pins (top_across nets) pins.top (length pins.top))
      (for_nets (net_segments pins nets) nets (length nets)) s
      (Contains-append_right (for_pins (bottom_across nets) pins.bottom (length pins.bottom)) (for_pins (top_across nets) pins.top (length pins.top)) s
      (Contains-for_pins (top_across nets) pins.top (length pins.top) column within some))

  bottom_point : (column : ℕ) → column < length pins.bottom → 0 < get_or pins.bottom column 0
      → Contains (elements wiring) (via (bottom_via nets (get_or pins.bottom column 0) column))
  bottom_point column within some =
      let v = bottom_via nets (get_or pins.bottom column 0) column in
      from_vias v
      (Contains-append_left (for_pins (bottom_via nets) pins.bottom (length pins.bottom) ++ for_pins (top_via nets) pins.top (length pins.top))
      (for_nets (net_vias pins nets) nets (length nets)) v
      (Contains-append_left (for_pins (bottom_via nets) pins.bottom (length pins.bottom)) (for_pins (top_via nets) pins.top (length pins.top)) v
      (Contains-for_pins (bottom_via nets) pins.bottom (length pins.bottom) column within some)))

  top_point : (column : ℕ) → column < length pins.top → 0 < get_or pins.top column 0
      → Contains (elements wiring) (via (top_via nets (get_or pins.top column 0) column))
  top_point column within some =
      let v = top_via nets (get_or pins.top column 0) column in
      from_vias v
      (Contains-append_left (for_pins (bottom_via nets) pins.bottom (length pins.bottom) ++ for_pins (top_via nets) pins.top (length pins.top))
      (for_nets (net_vias pins nets) nets (length nets)) v
      (Contains-append_right (for_pins (bottom_via nets) pins.bottom (length pins.bottom)) (for_pins (top_via nets) pins.top (length pins.top)) v
      (Contains-for_pins (top_via nets) pins.top (length pins.top) column within some)))

  lane_segment : (net place : ℕ) → place < length nets → get_or nets place 0 ≡ net → (s : Segment) → Contains (net_segments pins nets net place) s
      → Contains (elements wiring) (segment s)
  lane_segment net place within is s there =
      from_segments s
      (Contains-append_right (for_pins (bottom_across nets) pins.bottom (length pins.bottom) ++ for_pins (top_across nets) pins.top (length pins.top))
      (for_nets (net_segments pins nets) nets (length nets)) s
      (Contains-for_nets (net_segments pins nets) nets (length nets) place s within (rw is there)))

  lane_via : (net place : ℕ) → place < length nets → get_or nets place 0 ≡ net → (v : Via) → Contains (net_vias pins nets net place) v
      → Contains (elements wiring) (via v)
  lane_via net place within is v there =
      from_vias v
      (Contains-append_right (for_pins (bottom_via nets) pins.bottom (length pins.bottom) ++ for_pins (top_via nets) pins.top (length pins.top))
      (for_nets (net_vias pins nets) nets (length nets)) v
      (Contains-for_nets (net_vias pins nets) nets (length nets) place v within (rw is there)))

  listed_bottom : (column : ℕ) → 0 < get_or pins.bottom column 0 → Contains nets (get_or pins.bottom column 0)
  listed_bottom column some = are.listed (get_or pins.bottom column 0) (some, (column, inr refl))

  listed_top : (column : ℕ) → 0 < get_or pins.top column 0 → Contains nets (get_or pins.top column 0)
  listed_top column some = are.listed (get_or pins.top column 0) (some, (column, inl refl))

  -- an element that goes home at its net's place
  home_at : (net place : ℕ) → place ≡ place_of nets net → (e : Element)
      → GoesHome wiring (lane net place) (below_of net) (above_of net) e → Linked wiring e (home (net_of e))
  home_at net place is e goes =
      subst (λ n. Linked wiring e (home n)) (sym goes.1)
      (subst (λ p. Linked wiring e (home_of (lane net p) (below_of net) (above_of net))) is goes.0)

  segments_linked : All (λ s. Linked wiring (segment s) (home (net_of (segment s)))) wiring.segments
  segments_linked =
      All-append (λ s. Linked wiring (segment s) (home (net_of (segment s))))
      (for_pins (bottom_across nets) pins.bottom (length pins.bottom) ++ for_pins (top_across nets) pins.top (length pins.top))
      (for_nets (net_segments pins nets) nets (length nets))
      (All-append (λ s. Linked wiring (segment s) (home (net_of (segment s)))) (for_pins (bottom_across nets) pins.bottom (length pins.bottom))
      (for_pins (top_across nets) pins.top (length pins.top))
      (All-for_pins (λ s. Linked wiring (segment s) (home (net_of (segment s)))) (bottom_across nets) pins.bottom (length pins.bottom)
      (λ column below some.
      let net = get_or pins.bottom column 0 in
      let there = place_of-member nets net (listed_bottom column some) in
      let within : column < length pins.top = omega (arith, channel.matched) in
      bottom_across_home wiring (lane net (place_of nets net)) pins.bottom pins.top (length pins.top) column within refl
      (below_of net) (above_of net) (below_all net) (lane_segment net (place_of nets net) there.0 there.1) (omega arith)
      (bottom_point column below some)))
      (All-for_pins (λ s. Linked wiring (segment s) (home (net_of (segment s)))) (top_across nets) pins.top (length pins.top)
      (λ column below some.
      let net = get_or pins.top column 0 in
      let there = place_of-member nets net (listed_top column some) in
      top_across_home wiring (lane net (place_of nets net)) pins.bottom pins.top (length pins.top) column (2 * length nets + 1) below refl
      (below_of net) (above_of net) (below_all net) (above_all net) (lane_segment net (place_of nets net) there.0 there.1)
      (lane_via net (place_of nets net) there.0 there.1) (omega arith) (omega arith) (omega (arith, there.0)) (top_point column below some))))
      (All-for_nets (λ s. Linked wiring (segment s) (home (net_of (segment s)))) (net_segments pins nets) nets (length nets)
      (λ place below.
      let net = get_or nets place 0 in
      All-weaker (λ s. GoesHome wiring (lane net place) (below_of net) (above_of net) (segment s))
      (λ s. Linked wiring (segment s) (home (net_of (segment s))))
      (λ s goes. home_at net place (place_of-is nets place net are.ascending below refl) (segment s) goes) (net_segments pins nets net place)
      (segments_home wiring (lane net place) pins.bottom pins.top (length pins.top) (below_of net) (above_of net) (below_all net) (above_all net)
      (lane_segment net place below refl) (lane_via net place below refl) (omega arith) (omega arith))))

  vias_linked : All (λ v. Linked wiring (via v) (home (net_of (via v)))) wiring.vias
  vias_linked =
      All-append (λ v. Linked wiring (via v) (home (net_of (via v))))
      (for_pins (bottom_via nets) pins.bottom (length pins.bottom) ++ for_pins (top_via nets) pins.top (length pins.top))
      (for_nets (net_vias pins nets) nets (length nets))
      (All-append (λ v. Linked wiring (via v) (home (net_of (via v)))) (for_pins (bottom_via nets) pins.bottom (length pins.bottom))
      (for_pins (top_via nets) pins.top (length pins.top))
      (All-for_pins (λ v. Linked wiring (via v) (home (net_of (via v)))) (bottom_via nets) pins.bottom (length pins.bottom)
      (λ column below some.
      let net = get_or pins.bottom column 0 in
      let there = place_of-member nets net (listed_bottom column some) in
      let within : column < length pins.top = omega (arith, channel.matched) in
      bottom_via_home wiring (lane net (place_of nets net)) pins.bottom pins.top (length pins.top) column within refl
      (below_of net) (above_of net) (below_all net) (lane_segment net (place_of nets net) there.0 there.1) (omega arith)))
      (All-for_pins (λ v. Linked wiring (via v) (home (net_of (via v)))) (top_via nets) pins.top (length pins.top)
      (λ column below some.
      let net = get_or pins.top column 0 in
      let there = place_of-member nets net (listed_top column some) in
      top_via_home wiring (lane net (place_of nets net)) pins.bottom pins.top (length pins.top) column below refl
      (below_of net) (above_of net) (below_all net) (above_all net) (lane_segment net (place_of nets net) there.0 there.1)
      (lane_via net (place_of nets net) there.0 there.1) (omega arith) (omega arith))))
      (All-for_nets (λ v. Linked wiring (via v) (home (net_of (via v)))) (net_vias pins nets) nets (length nets)
      (λ place below.
      let net = get_or nets place 0 in
      All-weaker (λ v. GoesHome wiring (lane net place) (below_of net) (above_of net) (via v))
      (λ v. Linked wiring (via v) (home (net_of (via v))))
      (λ v goes. home_at net place (place_of-is nets place net are.ascending below refl) (via v) goes) (net_vias pins nets net place)
      (vias_home wiring (lane net place) pins.bottom pins.top (length pins.top) (below_of net) (above_of net) (below_all net)
      (lane_segment net place below refl) (lane_via net place below refl) (omega arith) (omega arith))))

  all_linked : All (λ e. Linked wiring e (home (net_of e))) (elements wiring)
  all_linked =
      All-append (λ e. Linked wiring e (home (net_of e))) (map segment wiring.segments) (map via wiring.vias)
      (All-map (λ e. Linked wiring e (home (net_of e))) segment wiring.segments segments_linked)
      (All-map (λ e. Linked wiring e (home (net_of e))) via wiring.vias vias_linked)

  within_side : (side : List ℕ) (column : ℕ) → 0 < get_or side column 0 → column < length side
  within_side side column some =
      elim (cases_lt column (length side)) [
        | inl within ↦ within
        | inr past ↦ let none = get_or_past side column 0 past in absurd (omega arith)
      ]

  -- the plain wiring connects the channel
  pub plain_wired : Wired pins wiring
  plain_wired =
      let sound = λ (e : Element) (there : Contains (elements wiring) e).
      All-contains (Sound pins nets) (elements wiring) e (all_sound pins nets channel are) there in
      let to_home = λ (e : Element) (there : Contains (elements wiring) e).
      All-contains (λ e. Linked wiring e (home (net_of e))) (elements wiring) e all_linked there in
      record {
        columns = omega arith;
        on_grid = λ e there. ((sound e there).grid, are.standing (net_of e) (sound e there).listed);
        apart = λ e f first second meets.
            owner_same pins nets (net_of e) (net_of f) (sound e first).listed (sound f second).listed meets.layer meets.column meets.line
            ((sound e first).owned meets.layer meets.column meets.line meets.first)
            ((sound f second).owned meets.layer meets.column meets.line meets.second);
        edges = λ e there. (sound e there).edges;
        bottom_pins = λ column some.
            (place_of nets (get_or pins.bottom column 0) + 1, bottom_segment column (within_side pins.bottom column some) some);
        top_pins = λ column some.
            (length nets + place_of nets (get_or pins.top column 0) + 1, top_segment column (within_side pins.top column some) some);
        linked = λ e f first second same.
            Linked-trans (to_home e first)
            (subst (λ n. Linked wiring (home n) f) (sym same) (Linked-sym second (to_home f second)));
      }

-- the plain wiring connects the channel
pub plain-wired : (pins : Pins) → IsChannel pins → Wired pins (plain_of pins)
plain-wired pins channel = plain_wired pins (nets_of pins) channel (nets-are pins)

pub wired_from_stated : (pins : Pins) (w : Wiring) → IsChannel pins → w ≡ plain_of pins → Wired pins w
wired_from_stated pins w channel stated = rw stated (plain-wired pins channel)
