use Rattle.std.proofs.Common.{◌≡◌, inl, inr, ◌<◌, ◌≤◌, ◌+◌, ◌++◌, ℕ, List, [], ◌∷◌, Option, Some, None, length, refl, sym, subst, ap, ◌∙◌, arith, get_or, length-append}
use Rattle.std.proofs.lemmas.Bool.{cases_lt}
use Rattle.std.proofs.lemmas.List.{append-nil, length-map, take_all}
use Rattle.std.proofs.lemmas.Option.{slice_get_within, slice_get-get_or}
use Rattle.channel_model.specs.Limits.{most_extra, most_tracks}
use Rattle.channel_model.specs.Nets.{nets_of}
use Rattle.channel_model.specs.Pins.{Pins}
use Rattle.channel_model.specs.declared.wiring.Wiring.{Wiring}
use Rattle.choose_core.specs.declared.candidate.Candidate.{Candidate}
use Rattle.choose_core.specs.declared.plan.Manner.{Manner}
use Rattle.choose_core.specs.declared.plan.Plan.{Plan}
use Rattle.greedy_column.specs.declared.column.Column.{Column}
use Rattle.greedy_column.specs.declared.column.Track.{Track}
use Rattle.greedy_column.specs.Held.{IsHeld}
use Rattle.greedy_column.specs.Replay.{free_tracks, replay}
use Rattle.greedy_router.specs.Answers.{AreFewest, GoesOn, HasNoFewer, IsFinished, IsOver, IsPlanned, IsRoutedBy, IsTried}
use Rattle.greedy_router.specs.Begun.{begun_of}
use Rattle.greedy_router.specs.Moments.{tracks_after}
use Rattle.greedy_router.specs.Sweeps.{IsDone, IsPastAt}
use Rattle.greedy_router.specs.declared.sweep.By.{By}
use Rattle.greedy_router.specs.declared.sweep.By.TheVariants.{Greedy, Plain, Edge}
use Rattle.greedy_router.specs.declared.sweep.Routed.{Routed}
use Rattle.greedy_router.specs.declared.sweep.Sweep.{Sweep}
use Rattle.greedy_router.proofs.GrowLaws.{longer-grows}
use Rattle.greedy_router.proofs.RoutedLaws.{routed-within}

-- a sweep that goes on has no fewer tracks
pub goes-more : (pins : Pins) (made longer : Sweep) → made.begun ≡ longer.begun → GoesOn made longer
    → length (replay made.begun pins made.columns) ≤ length (replay longer.begun pins longer.columns)
goes-more pins made longer begun goes =
    rw (← begun, goes.columns) (longer-grows pins 0 (free_tracks made.begun) made.columns goes.rest)

-- the tracks after the columns of a sweep that goes on
made-tracks : (begun : ℕ) (pins : Pins) (columns : List Column) → tracks_after begun pins columns (length columns) ≡ replay begun pins columns
made-tracks begun pins columns = ap (λ (l : List Column). replay begun pins l) (take_all (length columns) columns (omega arith))

-- a sweep that took all columns while a net held a track has not ended, however it goes on
held-on : (pins : Pins) (most extra : ℕ) (made longer : Sweep) → made.begun ≡ longer.begun → GoesOn made longer
    → length made.columns ≡ length pins.top + extra → IsHeld (replay made.begun pins made.columns) → IsDone pins most extra longer → ⊥
held-on pins most extra made longer begun goes all held done =
    step goes.rest goes.columns where
      step : (rest : List Column) → longer.columns ≡ made.columns ++ rest → ⊥
      step [] is = done.ended (rw (← begun, is, append-nil made.columns) held)
      step (c ∷ rest) is =
          let long = ap (λ (l : List Column). length l) is in
          omega (arith, done.few_columns, all, long, length-append made.columns (c ∷ rest))

module _ (manner : Manner) (may : List Candidate → ℕ → Type 0) (pins : Pins) (share : ℕ) where
  abbrev most : ℕ
  most = most_tracks (length (nets_of pins))

  abbrev extra : ℕ
  extra = most_extra (length (nets_of pins))

  -- the tracks of a wiring by a sweep that has ended
  finished-tracks : (sweep : Sweep) (wiring : Wiring) → IsFinished manner (begun_of share pins) may pins most extra sweep wiring
      → wiring.tracks ≡ length (replay sweep.begun pins sweep.columns)
  finished-tracks sweep wiring done =
      ap (λ (w : Wiring). w.tracks) done.stated ∙ ap (λ (l : List ℕ). length l) done.sweep_of.order
      ∙ length-map (replay sweep.begun pins sweep.columns) (λ (t : Track). t.id)

  -- a sweep past its limits goes on to more tracks than these allow, or to none
  over-more : (tracks : ℕ) (made longer : Sweep) (wiring : Wiring) → IsOver manner (begun_of share pins) may pins tracks extra made
      → IsFinished manner (begun_of share pins) may pins most extra longer wiring → GoesOn made longer → tracks < wiring.tracks
  over-more tracks made longer wiring over done goes =
      let begun : made.begun ≡ longer.begun = over.sweep_of.begins ∙ sym done.sweep_of.begins in
      let last : IsPastAt made.begun pins tracks extra made.columns (length made.columns) = over.past.last in
      let now = made-tracks made.begun pins made.columns in
      elim last [
        | inl many ↦
            let all = ap (λ (l : List Track). length l) now in
            omega (arith, many, all, goes-more pins made longer begun goes, finished-tracks longer wiring done)
        | inr (all, held) ↦ absurd (held-on pins most extra made longer begun goes all (subst (λ (l : List Track). IsHeld l) now held) done.done)
      ]

  -- the tracks of a channel that is routed by a sweep that goes on from one that has ended, and from one past its limits
  by-finished : (fewest : ℕ) (made : Sweep) (wiring : Wiring) → IsFinished manner (begun_of share pins) may pins most extra made wiring
      → fewest ≤ wiring.tracks → wiring.tracks ≤ most → (by : By) (longer : Sweep) (other : Wiring)
      → IsRoutedBy by manner (begun_of share pins) may pins most extra longer other → GoesOn made longer → fewest ≤ other.tracks
  by-finished fewest made wiring done few within Greedy longer other also goes =
      let begun : made.begun ≡ longer.begun = done.sweep_of.begins ∙ sym also.sweep_of.begins in
      omega (arith, few, finished-tracks made wiring done, finished-tracks longer other also, goes-more pins made longer begun goes)
  by-finished fewest made wiring done few within Plain longer other (over, stated) goes = rw stated (omega (arith, few, within))
  by-finished fewest made wiring done few within Edge longer other none goes = absurd none

  by-over : (fewest tracks : ℕ) (made : Sweep) → IsOver manner (begun_of share pins) may pins tracks extra made → fewest ≤ tracks → tracks ≤ most
      → (by : By) (longer : Sweep) (other : Wiring) → IsRoutedBy by manner (begun_of share pins) may pins most extra longer other → GoesOn made longer
      → fewest ≤ other.tracks
  by-over fewest tracks made over few within Greedy longer other done goes = omega (arith, few, over-more tracks made longer other over done goes)
  by-over fewest tracks made over few within Plain longer other (passed, stated) goes = rw stated (omega (arith, few, within))
  by-over fewest tracks made over few within Edge longer other none goes = absurd none

  over-fewest : (fewest tracks : ℕ) (made : Sweep) → IsOver manner (begun_of share pins) may pins tracks extra made → fewest ≤ tracks → tracks ≤ most
      → HasNoFewer manner may pins fewest share
  over-fewest fewest tracks made over few within = record {
    made = made;
    is_sweep = over.sweep_of;
    no_fewer = λ other routed goes. by-over fewest tracks made over few within other.by other.sweep other.wiring routed goes;
  }

  -- what a share comes to tells that its sweep has no fewer tracks than these
  tried-fewest : (fewest : ℕ) (one : Option Routed) → IsTried manner may pins fewest share one
      → ((other : Routed) → one ≡ Some other → fewest ≤ other.wiring.tracks) → HasNoFewer manner may pins fewest share
  tried-fewest fewest None given few = over-fewest fewest given.tracks given.sweep given.over given.enough given.within
  tried-fewest fewest (Some other) routed few =
      let within = (routed-within manner (begun_of share pins) may pins most extra other refl refl routed).tracks in
      step other.by other.sweep other.wiring routed (few other refl) within where
        step : (by : By) (sweep : Sweep) (wiring : Wiring) → IsRoutedBy by manner (begun_of share pins) may pins most extra sweep wiring
            → fewest ≤ wiring.tracks → wiring.tracks ≤ most → HasNoFewer manner may pins fewest share
        step Greedy sweep wiring done least within = record {
          made = sweep;
          is_sweep = done.sweep_of;
          no_fewer = λ more also goes. by-finished fewest sweep wiring done least within more.by more.sweep more.wiring also goes;
        }
        step Plain sweep wiring (over, stated) least within = over-fewest fewest most sweep over (omega (arith, least, within)) (omega arith)
        step Edge sweep wiring none least within = absurd none

-- no sweep of a plan has fewer tracks than the best
pub planned-fewest : (plan : Plan) (may : List Candidate → ℕ → Type 0) (pins : Pins) (one : Routed) → IsPlanned plan may pins one
    → AreFewest plan may pins one.wiring.tracks
planned-fewest plan may pins one planned = record {
  each = λ k share here.
      let tried : List (Option Routed) = planned.tried in
      let inside : k < length tried = omega (arith, planned.are_tried.each, slice_get_within (plan.first ∷ plan.others) k share here) in
      let there = slice_get-get_or tried k None inside in
      tried-fewest plan.manner may pins share one.wiring.tracks (get_or tried k None) (planned.are_tried.tries k share (get_or tried k None) here there)
      (λ other is. elim (cases_lt other.wiring.tracks one.wiring.tracks) [
        | inl less ↦ absurd (planned.best.smallest k other (there ∙ ap Some is) (inl less))
        | inr more ↦ omega (arith, more)
      ]);
}
