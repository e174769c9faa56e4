use Rattle.std.proofs.Common.{◌≡◌, ◌≢◌, ◌⊎◌, inl, inr, ◌<◌, ◌≤◌, ◌+◌, ℕ, zero, suc, List, length, map, refl, sym, subst, arith}
use Rattle.channel_model.specs.Pins.{Pins, IsChannel}
use Rattle.greedy_column.specs.declared.column.Track.{Track}
use Rattle.greedy_column.specs.Tracks.{ids}
use Rattle.greedy_column.specs.Replay.{top_pin, bottom_pin, free_tracks, replay}
use Rattle.greedy_column.specs.Verticals.{Vertical, joined_verticals}
use Rattle.greedy_column.specs.Joining.{span_in}
use Rattle.greedy_column.specs.Neighbours.{Holds, Grouped}
use Rattle.greedy_column.specs.Keeping.{GoesOn, IsSplit}
use Rattle.greedy_column.specs.Fair.{AllFair}
use Rattle.greedy_column.proofs.IdLaws.{Apart-from}
use Rattle.greedy_column.proofs.GroupLaws.{Grouped-trans, Grouped-sym}
use Rattle.greedy_router.specs.declared.sweep.Sweep.{Sweep}
use Rattle.greedy_column.specs.Held.{held_count, IsHeld}
use Rattle.greedy_router.specs.Sweeps.{Lessens}
use Rattle.greedy_column.proofs.NoPinLaws.{no_pins}
use Rattle.greedy_column.proofs.EnteredLaws.{now-apart}
use Rattle.greedy_router.proofs.LeftLaws.{Goes, goes-on, goes-somewhere, goes-apart}
use Rattle.greedy_router.proofs.CourseLaws.{Course, course_of}
use Rattle.greedy_router.proofs.PartLaws.{now_at}
use Rattle.greedy_router.proofs.RunLaws.{numbered, lawful, held-now, held-next, came, none-first}
use Rattle.greedy_column.proofs.HeldCountLaws.{Holds-some}
use Rattle.greedy_column.proofs.EndsLaws.{fewer_held}

-- two tracks that a net holds
pub record HoldsTwo (tracks : List Track) (net : ℕ) : Type 0 where
  pub one : ℕ
  pub two : ℕ
  pub one_held : Holds tracks net one
  pub two_held : Holds tracks net two
  pub other : one ≢ two

-- a net has a pin in this column or a later one
abbrev pub HasPinFrom : Pins → ℕ → ℕ → Type 0
HasPinFrom pins n net = (column : ℕ) × (n ≤ column) × ((top_pin pins column ≡ net) ⊎ (bottom_pin pins column ≡ net))

module _ (pins : Pins) (order : List ℕ) (course : Course pins order) where
  abbrev now : ℕ → List Track
  now n = now_at pins order course n

  -- a net whose tracks are parted in a column holds two after it
  two_kept : (n net : ℕ) → n < course.count → GoesOn pins n (now n) (course.done n) net → IsSplit pins n (now n) (course.done n) net → HoldsTwo (course.before (suc n)) net
  two_kept n net within on split =
      let vs : List Vertical = joined_verticals pins n (course.done n) (now n) in
      let apart = now-apart pins n (course.fresh n) (course.before n) (course.done n) (numbered pins order course n within) (lawful pins order course n within) in
      let one = on.kept split.one split.one_held in
      let two = on.kept split.other split.other_held in
      let first = goes-somewhere pins n (course.fresh n) (course.before n) (course.done n) (numbered pins order course n within) (lawful pins order course n within) net one.0 one.1.held one.1.goes_on in
      let second = goes-somewhere pins n (course.fresh n) (course.before n) (course.done n) (numbered pins order course n within) (lawful pins order course n within) net two.0 two.1.held two.1.goes_on in
      record {
        one = first.0;
        two = second.0;
        one_held = held-next pins order course n net first.0 within
            (goes-on pins n (course.fresh n) (course.before n) (course.done n) (numbered pins order course n within) (lawful pins order course n within) net one.0 first.0 one.1.held one.1.goes_on first.1);
        two_held = held-next pins order course n net second.0 within
            (goes-on pins n (course.fresh n) (course.before n) (course.done n) (numbered pins order course n within) (lawful pins order course n within) net two.0 second.0 two.1.held two.1.goes_on second.1);
        other = λ same.
            let kept : one.0 ≡ two.0 =
            goes-apart pins n (course.fresh n) (course.before n) (course.done n) (numbered pins order course n within) (lawful pins order course n within) net net one.0 two.0 second.0 one.1.held two.1.held
            (subst (λ i. Goes (course.done n) one.0 i) same first.1) second.1 in
            split.apart
            (Grouped-trans (now n) apart vs (map (span_in (ids (now n))) vs) refl (subst (λ i. Grouped (now n) vs split.one i) kept one.1.linked)
            (Grouped-sym (now n) apart vs (map (span_in (ids (now n))) vs) refl two.1.linked));
      }

  -- a net that holds a track has a pin from here on, or holds two
  pub pin_or_two : (n net id : ℕ) → n ≤ course.count → Holds (course.before n) net id → HasPinFrom pins n net ⊎ HoldsTwo (course.before n) net
  pin_or_two zero net id within held = absurd (none-first pins order course net id held)
  pin_or_two (suc n) net id within held =
      let inside : n < course.count = omega (arith, within) in
      let from = came pins order course n net id inside held in
      elim ((course.at n inside).fair.keeps net from.old from.held) [
        | inl up ↦ absurd (from.kept (up.all_end from.old from.held))
        | inr on ↦ elim on.wanted [
          | inl (column, later, pin) ↦ inl (column, omega (arith, later), pin)
          | inr split ↦ inr (two_kept n net inside on split)
        ]
      ]

  -- past the end a column in which a net holds a track leaves fewer held
  pub fewer_after : (n : ℕ) → n < course.count → length pins.top ≡ length pins.bottom → length pins.top ≤ n → IsHeld (course.before n)
      → held_count (course.before (suc n)) < held_count (course.before n)
  fewer_after n within matched past held =
      let is = course.at n within in
      let some = Holds-some (course.before n) (Apart-from (ids (course.before n)) is.numbered.distinct) held in
      let net = some.0 in
      let none = no_pins pins n matched past in
      let fewer : HoldsTwo (course.before n) net → held_count (course.before (suc n)) < held_count (course.before n) = λ two.
      subst (λ (l : List Track). held_count l < held_count (course.before n)) (sym is.next)
      (fewer_held pins n (course.fresh n) (course.before n) (course.done n) is.numbered is.fair none.0 none.1 net two.one two.two
      (held-now pins order course n net two.one within two.one_held) (held-now pins order course n net two.two within two.two_held) two.other) in
      elim (pin_or_two n net some.1.0 (omega (arith, within)) some.1.1) [
        | inr two ↦ fewer two
        | inl (column, later, pin) ↦
            let positive = some.1.1.net_is in
            let gone = no_pins pins column matched (omega (arith, past, later)) in
            absurd (elim pin [ inl top ↦ omega (arith, top, gone.0, positive) | inr bottom ↦ omega (arith, bottom, gone.1, positive) ])
      ]

-- Each column past a channel's end, in which a net holds a track, leaves fewer tracks held.
pub sweep-lessens : (pins : Pins) (sweep : Sweep) → IsChannel pins → AllFair pins 0 (sweep.begun + 1) (free_tracks sweep.begun) sweep.columns → Lessens pins sweep
sweep-lessens pins sweep channel fair n past within held =
    fewer_after pins (ids (replay sweep.begun pins sweep.columns)) (course_of sweep.begun pins sweep.columns fair) n within channel.matched past held
