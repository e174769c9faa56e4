use Rattle.std.proofs.Common.{◌≡◌, inl, inr, ◌<◌, ◌≤◌, ◌+◌, ℕ, List, length, refl, sym, subst, ap, arith, Contains}
use Rattle.std.proofs.lemmas.Bool.{cases_lt}
use Rattle.std.proofs.lemmas.List.{take_all, get_or_past}
use Rattle.channel_model.specs.Pins.{Pins, IsChannel}
use Rattle.channel_model.specs.declared.wiring.Segment.TheVariants.{Across}
use Rattle.channel_model.specs.declared.wiring.Wiring.{Wiring}
use Rattle.channel_model.specs.Elements.{Element, elements, net_of}
use Rattle.channel_model.specs.Wired.{IsOnGrid, KeepsEdges, Wired}
use Rattle.greedy_column.specs.declared.column.Track.{Track}
use Rattle.greedy_column.specs.declared.column.Column.{Column}
use Rattle.greedy_column.specs.Tracks.{ids}
use Rattle.greedy_column.specs.Replay.{top_pin, bottom_pin, free_tracks, replay}
use Rattle.greedy_column.specs.Verticals.{Vertical, pin_verticals, line_at}
use Rattle.greedy_column.specs.Neighbours.{Holds}
use Rattle.greedy_column.specs.Fair.{AllFair}
use Rattle.greedy_router.specs.declared.sweep.Sweep.{Sweep}
use Rattle.greedy_router.specs.Moments.{tracks_after}
use Rattle.greedy_router.specs.Sweeps.{IsDone}
use Rattle.greedy_router.specs.SweepWiring.{across, wiring_of}
use Rattle.greedy_column.proofs.HeldCountLaws.{IsHeld-from}
use Rattle.greedy_column.proofs.VerticalLaws.{bottom_met, top_met}
use Rattle.greedy_router.proofs.ViaLaws.{in_joined, in_all}
use Rattle.greedy_router.proofs.CourseLaws.{Course, course_of}
use Rattle.greedy_router.proofs.PartLaws.{IsDrawnBy, IsDrawnBy-sweep}
use Rattle.greedy_router.proofs.RunLaws.{numbered, lawful}
use Rattle.greedy_router.proofs.SoundLaws.{IsSound, sound, parts_apart}
use Rattle.greedy_router.proofs.PieceLaws.{Earlier, all_linked}

module _ (pins : Pins) (order : List ℕ) (course : Course pins order) (wiring : Wiring) (drawn : IsDrawnBy pins order course wiring)
    (ended : (net id : ℕ) → Holds (course.before course.count) net id → ⊥) (matched : length pins.top ≡ length pins.bottom) (covers : length pins.top ≤ course.count) where
  sound_in : (e : Element) → Contains (elements wiring) e → IsSound pins order course e
  sound_in e member = let at = drawn.part_of e member in sound pins order course at.0 e at.1 at.2

  pin_vertical : (n : ℕ) (v : Vertical) → n < course.count → Contains (pin_verticals pins n (course.done n)) v → Contains wiring.segments (across order n v)
  pin_vertical n v within member =
      drawn.verticals_drawn n v within
      (in_all pins n (course.fresh n) (course.before n) (course.done n) (numbered pins order course n within) (lawful pins order course n within) order (course.at n within).earlier v
      (in_joined pins n (course.fresh n) (course.before n) (course.done n) (numbered pins order course n within) (lawful pins order course n within) order (course.at n within).earlier v member))

  -- each pin's column is one of the sweep's
  bottom_within : (column : ℕ) → 0 < bottom_pin pins column → column < course.count
  bottom_within column some = elim (cases_lt column (length pins.bottom)) [
    | inl inside ↦ omega (arith, inside)
    | inr past ↦ absurd (omega (arith, some, get_or_past pins.bottom column 0 past))
  ]

  top_within : (column : ℕ) → 0 < top_pin pins column → column < course.count
  top_within column some = elim (cases_lt column (length pins.top)) [
    | inl inside ↦ omega (arith, inside)
    | inr past ↦ absurd (omega (arith, some, get_or_past pins.top column 0 past))
  ]

  bottom_pins : (column : ℕ) → 0 < bottom_pin pins column → (high : ℕ) × Contains wiring.segments (Across (bottom_pin pins column) column 0 high)
  bottom_pins column some =
      let within = bottom_within column some in
      let met = bottom_met pins column (course.before column) (course.done column) (course.fresh column) (numbered pins order course column within) (lawful pins order course column within) some in
      let v : Vertical = met.0 in (
        line_at order v.high,
        subst (λ net. Contains wiring.segments (Across net column 0 (line_at order v.high))) met.2
            (subst (λ p. Contains wiring.segments (Across v.net column (line_at order p) (line_at order v.high))) met.3 (pin_vertical column v within met.1)),
      )

  top_pins : (column : ℕ) → 0 < top_pin pins column → (low : ℕ) × Contains wiring.segments (Across (top_pin pins column) column low (length order + 1))
  top_pins column some =
      let within = top_within column some in
      let met = top_met pins column (course.before column) (course.done column) (course.fresh column) (numbered pins order course column within) (lawful pins order course column within) some in
      let v : Vertical = met.0 in (
        line_at order v.low,
        subst (λ net. Contains wiring.segments (Across net column (line_at order v.low) (length order + 1))) met.2
            (subst (λ p. Contains wiring.segments (Across v.net column (line_at order v.low) (line_at order p))) met.3 (pin_vertical column v within met.1)),
      )

  earlier_in : (net : ℕ) (e : Element) → Contains (elements wiring) e → net_of e ≡ net → Earlier pins order course wiring drawn ended course.count net e
  earlier_in net e member same = let at = drawn.part_of e member in record { column = at.0; before = at.1; part = at.2; net_is = same }

  wired_course : Wired pins wiring
  wired_course = record {
    columns = omega (arith, covers, drawn.columns);
    on_grid = λ e member.
        let is = sound_in e member in
        (subst (λ t. IsOnGrid wiring.columns t e) (sym drawn.tracks) (subst (λ c. IsOnGrid c (length order) e) (sym drawn.columns) is.grid), is.stands);
    apart = λ e f one two meets.
        let first = drawn.part_of e one in
        let second = drawn.part_of f two in
        parts_apart pins order course first.0 second.0 e f first.1 second.1 first.2 second.2 meets;
    edges = λ e member. subst (λ t. KeepsEdges pins t e) (sym drawn.tracks) (sound_in e member).edges;
    bottom_pins = bottom_pins;
    top_pins = λ column some.
        let found = top_pins column some in
        (found.0, subst (λ t. Contains wiring.segments (Across (top_pin pins column) column found.0 (t + 1))) (sym drawn.tracks) found.1);
    linked = λ e f one two same.
        all_linked pins order course wiring drawn ended (net_of f) e f (sound_in f two).stands.0 (earlier_in (net_of f) e one same) (earlier_in (net_of f) f two refl);
  }

-- The wiring of a sweep that has ended connects its channel.
pub sweep-wired : (pins : Pins) (tracks extra : ℕ) (sweep : Sweep) → IsChannel pins → AllFair pins 0 (sweep.begun + 1) (free_tracks sweep.begun) sweep.columns
    → sweep.order ≡ ids (replay sweep.begun pins sweep.columns) → IsDone pins tracks extra sweep → Wired pins (wiring_of pins sweep)
sweep-wired pins tracks extra sweep channel fair order_is done =
    let begun : ℕ = sweep.begun in
    let columns : List Column = sweep.columns in
    let whole : tracks_after begun pins columns (length columns) ≡ replay begun pins columns = ap (replay begun pins) (take_all (length columns) columns (omega arith)) in
    subst (λ order. Wired pins (wiring_of pins (record { begun = begun; columns = columns; order = order }))) (sym order_is)
    (wired_course pins (ids (replay begun pins columns)) (course_of begun pins columns fair)
    (wiring_of pins (record { begun = begun; columns = columns; order = ids (replay begun pins columns) }))
    (IsDrawnBy-sweep begun pins columns fair)
    (λ net id held. done.ended (IsHeld-from (replay begun pins columns) net id (subst (λ (l : List Track). Holds l net id) whole held)))
    channel.matched done.covers)
