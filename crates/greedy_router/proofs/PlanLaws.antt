use Rattle.std.proofs.Common.{◌≡◌, inl, inr, ◌<◌, ◌≤◌, ◌++◌, eqb, ltb, ℕ, zero, suc, List, [], ◌∷◌, Bool, true, false, Option, Some, None, length, refl, sym, subst, ap, ◌∙◌, arith, get_or, length-append, eqb-true, eq-eqb}
use Rattle.std.specs.Prelude.{◌&&◌, ◌||◌, slice_get}
use Rattle.std.proofs.lemmas.Bool.{and_parts, and_from, or_parts, cases_lt, ltb-true, lt-ltb, cond-true, cond-false}
use Rattle.std.proofs.lemmas.Option.{slice_get_within, slice_get-get_or}
use Rattle.channel_model.specs.Pins.{IsChannel, Pins}
use Rattle.channel_model.specs.Limits.{most_extra, most_tracks}
use Rattle.channel_model.specs.Nets.{nets_of}
use Rattle.channel_model.specs.Wired.{Wired}
use Rattle.channel_model.specs.declared.wiring.Wiring.{Wiring}
use Rattle.choose_core.specs.declared.candidate.Candidate.{Candidate}
use Rattle.choose_core.specs.declared.plan.Manner.{Manner}
use Rattle.choose_core.specs.declared.plan.Plan.{Plan}
use Rattle.greedy_router.specs.Answers.{IsBest, IsOver, IsPlanned, IsRoutedWithin, IsSmaller, IsTried, IsWithinLimits}
use Rattle.greedy_router.specs.Begun.{begun_of}
use Rattle.greedy_router.specs.Planning.{better, is_smaller, size_of}
use Rattle.greedy_router.specs.declared.sweep.Routed.{Routed}
use Rattle.greedy_router.specs.declared.sweep.Sweep.{Sweep}
use Rattle.greedy_router.proofs.RoutedLaws.{routed-wired, routed-within}
use Rattle.std_laws.proofs.Places.{each-push, get-pushed, get-before-pushed}

-- what the test of two wirings says
pub smaller-is : (one other : Wiring) → is_smaller (size_of one) (size_of other) ≡ true → IsSmaller one other
smaller-is one other is = step (ltb one.tracks other.tracks) refl is where
  step : (b : Bool) → ltb one.tracks other.tracks ≡ b → (b || (eqb one.tracks other.tracks && ltb one.columns other.columns)) ≡ true → IsSmaller one other
  step true less is = inl (ltb-true one.tracks other.tracks less)
  step false not_less is =
      let parts = and_parts (eqb one.tracks other.tracks) (ltb one.columns other.columns) is in
      inr (eqb-true one.tracks other.tracks parts.0, ltb-true one.columns other.columns parts.1)

pub smaller-not : (one other : Wiring) → is_smaller (size_of one) (size_of other) ≡ false → IsSmaller one other → ⊥
smaller-not one other not_smaller (inl less) =
    let parts = or_parts (ltb one.tracks other.tracks) (eqb one.tracks other.tracks && ltb one.columns other.columns) not_smaller in
    let is = lt-ltb one.tracks other.tracks less in cc (parts.0, is)
smaller-not one other not_smaller (inr (same, less)) =
    let parts = or_parts (ltb one.tracks other.tracks) (eqb one.tracks other.tracks && ltb one.columns other.columns) not_smaller in
    let is = and_from (eqb one.tracks other.tracks) (ltb one.columns other.columns) (eq-eqb one.tracks other.tracks same) (lt-ltb one.columns other.columns less) in
    cc (parts.1, is)

-- none is smaller than itself, and of three one is smaller in a row
pub smaller-itself : (w : Wiring) → IsSmaller w w → ⊥
smaller-itself w (inl less) = omega (arith, less)
smaller-itself w (inr (same, less)) = omega (arith, less)

smaller-tracks : (one other : Wiring) → IsSmaller one other → one.tracks ≤ other.tracks
smaller-tracks one other (inl less) = omega (arith, less)
smaller-tracks one other (inr (same, less)) = omega (arith, same)

pub smaller-trans : (a b c : Wiring) → IsSmaller a b → IsSmaller b c → IsSmaller a c
smaller-trans a b c (inl ab) (inl bc) = inl (omega (arith, ab, bc))
smaller-trans a b c (inl ab) (inr (same, bc)) = inl (omega (arith, ab, same))
smaller-trans a b c (inr (same, ab)) (inl bc) = inl (omega (arith, same, bc))
smaller-trans a b c (inr (same, ab)) (inr (also, bc)) = inr (same ∙ also, omega (arith, ab, bc))

pub smaller-than : (a b c : Wiring) → IsSmaller a b → (IsSmaller c b → ⊥) → IsSmaller a c
smaller-than a b c ab not_cb = elim (cases_lt a.tracks c.tracks) [
  | inl less ↦ inl less
  | inr more ↦ elim ab [
    | inl fewer ↦ absurd (not_cb (inl (omega (arith, more, fewer))))
    | inr (same, fewer) ↦ elim (cases_lt c.tracks a.tracks) [
      | inl under ↦ absurd (not_cb (inl (omega (arith, under, same))))
      | inr over ↦
          let equal : a.tracks ≡ c.tracks = omega (arith, more, over) in
          elim (cases_lt a.columns c.columns) [
            | inl narrow ↦ inr (equal, narrow)
            | inr wide ↦ absurd (not_cb (inr (sym equal ∙ same, omega (arith, fewer, wide))))
          ]
    ]
  ]
]

module _ (tried : List (Option Routed)) (best : Routed) (was : IsBest tried best) where
  place_within : was.place < length tried
  place_within = slice_get_within tried was.place (Some best) was.there

  -- what holds of those that were tried, and of one more, holds of all
  more : (one : Option Routed) (P : ℕ → Routed → Type 0) → ((k : ℕ) (other : Routed) → slice_get tried k ≡ Some (Some other) → P k other)
      → ((other : Routed) → one ≡ Some other → P (length tried) other)
      → (k : ℕ) (other : Routed) → slice_get (tried ++ one ∷ []) k ≡ Some (Some other) → P k other
  more one P earlier now k other there = elim (cases_lt k (length tried)) [
    | inl before ↦ earlier k other (sym (get-before-pushed tried one one k before) ∙ there)
    | inr past ↦
        let long = length-append tried (one ∷ []) in
        let within = slice_get_within (tried ++ one ∷ []) k (Some other) there in
        let last : k ≡ length tried = omega (arith, past, within, long) in
        let same : one ≡ Some other = cc (sym (get-pushed tried one) ∙ ap (slice_get (tried ++ one ∷ [])) (sym last) ∙ there) in
        subst (λ n. P n other) (sym last) (now other same)
  ]

  -- one that is smaller than the best is the best of all
  best-new : (one : Routed) → IsSmaller one.wiring best.wiring → IsBest (tried ++ Some one ∷ []) one
  best-new one smaller = record {
    place = length tried;
    there = get-pushed tried (Some one);
    smallest = more (Some one) (λ k other. IsSmaller other.wiring one.wiring → ⊥)
        (λ k other there less. was.smallest k other there (smaller-trans other.wiring one.wiring best.wiring less smaller))
        (λ other is less. let same : one ≡ other = cc is in smaller-itself one.wiring (subst (λ (r : Routed). IsSmaller r.wiring one.wiring) (sym same) less));
    first = more (Some one) (λ k other. k < length tried → IsSmaller one.wiring other.wiring)
        (λ k other there before. smaller-than one.wiring best.wiring other.wiring smaller (was.smallest k other there))
        (λ other is before. absurd (omega (arith, before)));
  }

  -- and else it stays, as where one more is given up
  best-kept : (one : Option Routed) → ((other : Routed) → one ≡ Some other → IsSmaller other.wiring best.wiring → ⊥)
      → IsBest (tried ++ one ∷ []) best
  best-kept one not_smaller = record {
    place = was.place;
    there = get-before-pushed tried one one was.place place_within ∙ was.there;
    smallest = more one (λ k other. IsSmaller other.wiring best.wiring → ⊥) was.smallest not_smaller;
    first = more one (λ k other. k < was.place → IsSmaller best.wiring other.wiring) was.first
        (λ other is before. absurd (omega (arith, before, place_within)));
  }

-- what a share comes to beside some tracks it comes to beside fewer
tried-fewer : (manner : Manner) (may : List Candidate → ℕ → Type 0) (pins : Pins) (more fewer share : ℕ) (one : Option Routed) → fewer ≤ more
    → IsTried manner may pins more share one → IsTried manner may pins fewer share one
tried-fewer manner may pins more fewer share None less given =
    record { tracks = given.tracks; sweep = given.sweep; over = given.over; enough = omega (arith, given.enough, less); within = given.within }
tried-fewer manner may pins more fewer share (Some one) less routed = routed

module _ (manner : Manner) (may : List Candidate → ℕ → Type 0) (pins : Pins) (first : ℕ) where
  -- the first sweep alone
  pub planned-first : (one : Routed) → IsRoutedWithin manner may pins first one
      → IsPlanned (record { manner = manner; first = first; others = [] }) may pins one
  planned-first one routed = record {
    tried = Some one ∷ [];
    are_tried = record {
      each = refl;
      tries = each-push (λ share r. IsTried manner may pins one.wiring.tracks share r) (first ∷ []) [] first (Some one) (λ k p q here there. cc there) refl routed;
    };
    best = record {
      place = 0;
      there = refl;
      smallest = alone (λ k r. IsSmaller r.wiring one.wiring → ⊥) (λ less. smaller-itself one.wiring less);
      first = alone (λ k r. k < 0 → IsSmaller one.wiring r.wiring) (λ before. absurd (omega (arith, before)));
    };
  } where
    alone : (P : ℕ → Routed → Type 0) → P 0 one → (k : ℕ) (other : Routed) → slice_get (Some one ∷ []) k ≡ Some (Some other) → P k other
    alone P here zero other there = let same : one ≡ other = cc there in subst (λ (r : Routed). P 0 r) same here
    alone P here (suc k) other there = cc there

  module _ (others : List ℕ) (share : ℕ) (best : Routed) (was : IsPlanned (record { manner = manner; first = first; others = others }) may pins best) where
    -- one share more, beside a best that has no more tracks than the one before
    share_more : (one : Option Routed) (next : Routed) → next.wiring.tracks ≤ best.wiring.tracks → IsTried manner may pins next.wiring.tracks share one
        → IsBest (was.tried ++ one ∷ []) next → IsPlanned (record { manner = manner; first = first; others = others ++ share ∷ [] }) may pins next
    share_more one next fewer comes is_best =
        let tried : List (Option Routed) = was.tried in
        let each : length tried ≡ suc (length others) = was.are_tried.each in
        let there : slice_get ((first ∷ others) ++ share ∷ []) (length tried) ≡ Some share =
        ap (slice_get ((first ∷ others) ++ share ∷ [])) each ∙ get-pushed (first ∷ others) share in
        record {
          tried = tried ++ one ∷ [];
          are_tried = record {
            each = omega (arith, length-append tried (one ∷ []), length-append others (share ∷ []), each);
            tries = each-push (λ p r. IsTried manner may pins next.wiring.tracks p r) ((first ∷ others) ++ share ∷ []) tried share one
                (λ k p q here also.
                let before : k < suc (length others) = omega (arith, each, slice_get_within tried k q also) in
                tried-fewer manner may pins best.wiring.tracks next.wiring.tracks p q fewer
                (was.are_tried.tries k p q (sym (get-before-pushed (first ∷ others) share share k before) ∙ here) also))
                there comes;
          };
          best = is_best;
        }

    -- a sweep that is given up, as it is past limits of as many tracks as the best has
    pub planned-given_up : (sweep : Sweep)
        → IsOver manner (begun_of share pins) may pins best.wiring.tracks (most_extra (length (nets_of pins))) sweep
        → best.wiring.tracks ≤ most_tracks (length (nets_of pins))
        → IsPlanned (record { manner = manner; first = first; others = others ++ share ∷ [] }) may pins best
    planned-given_up sweep over within =
        share_more None best (omega arith) (record { tracks = best.wiring.tracks; sweep = sweep; over = over; enough = omega arith; within = within })
        (best-kept was.tried best was.best None (λ other is less. cc is))

    -- a sweep that has ended
    pub planned-more : (one : Routed) → IsRoutedWithin manner may pins share one
        → IsPlanned (record { manner = manner; first = first; others = others ++ share ∷ [] }) may pins (better best one)
    planned-more one routed = step (is_smaller (size_of one.wiring) (size_of best.wiring)) refl where
      step : (b : Bool) → is_smaller (size_of one.wiring) (size_of best.wiring) ≡ b
          → IsPlanned (record { manner = manner; first = first; others = others ++ share ∷ [] }) may pins (better best one)
      step true is =
          let smaller = smaller-is one.wiring best.wiring is in
          subst (λ (r : Routed). IsPlanned (record { manner = manner; first = first; others = others ++ share ∷ [] }) may pins r)
          (sym (cond-true (is_smaller (size_of one.wiring) (size_of best.wiring)) one best is))
          (share_more (Some one) one (smaller-tracks one.wiring best.wiring smaller) routed (best-new was.tried best was.best one smaller))
      step false is =
          subst (λ (r : Routed). IsPlanned (record { manner = manner; first = first; others = others ++ share ∷ [] }) may pins r)
          (sym (cond-false (is_smaller (size_of one.wiring) (size_of best.wiring)) one best is))
          (share_more (Some one) best (omega arith) routed
          (best-kept was.tried best was.best (Some one)
          (λ other same less. let here : one ≡ other = cc same in
          smaller-not one.wiring best.wiring is (subst (λ (r : Routed). IsSmaller r.wiring best.wiring) (sym here) less))))

-- the best was routed by one of the sweeps
planned-routed : (plan : Plan) (may : List Candidate → ℕ → Type 0) (pins : Pins) (one : Routed) → IsPlanned plan may pins one
    → (share : ℕ) × IsRoutedWithin plan.manner may pins share one
planned-routed plan may pins one planned =
    let shares : List ℕ = plan.first ∷ plan.others in
    let place : ℕ = planned.best.place in
    let inside : place < length shares =
    omega (arith, slice_get_within planned.tried place (Some one) planned.best.there, planned.are_tried.each) in
    (get_or shares place 0, planned.are_tried.tries place (get_or shares place 0) (Some one) (slice_get-get_or shares place 0 inside) planned.best.there)

-- so its wiring connects the channel, and is within what a router may take
pub planned-wired : (plan : Plan) (may : List Candidate → ℕ → Type 0) (pins : Pins) (one : Routed) → IsChannel pins → IsPlanned plan may pins one
    → Wired pins one.wiring
planned-wired plan may pins one is planned =
    let from = planned-routed plan may pins one planned in
    routed-wired plan.manner (begun_of from.0 pins) may pins (most_tracks (length (nets_of pins))) (most_extra (length (nets_of pins))) one is from.1

pub planned-within : (plan : Plan) (may : List Candidate → ℕ → Type 0) (pins : Pins) (one : Routed) → IsPlanned plan may pins one
    → IsWithinLimits pins one.wiring
planned-within plan may pins one planned =
    let from = planned-routed plan may pins one planned in
    routed-within plan.manner (begun_of from.0 pins) may pins (most_tracks (length (nets_of pins))) (most_extra (length (nets_of pins))) one refl refl from.1
