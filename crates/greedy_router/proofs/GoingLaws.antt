use Rattle.std.proofs.Common.{◌≡◌, ◌⊎◌, inl, inr, ◌<◌, ◌≤◌, ◌+◌, ◌++◌, ℕ, List, [], ◌∷◌, true, false, length, refl, sym, subst, ap, ◌∙◌, arith, length-append}
use Rattle.std.proofs.lemmas.Bool.{cases_lt}
use Rattle.channel_model.specs.Pins.{Pins, IsChannel}
use Rattle.choose_core.specs.declared.candidate.Candidate.{Candidate}
use Rattle.choose_core.specs.declared.plan.Manner.{Manner}
use Rattle.greedy_column.specs.declared.column.Track.{Track}
use Rattle.greedy_column.specs.declared.column.Column.{Column}
use Rattle.greedy_column.specs.Tracks.{ids}
use Rattle.greedy_column.specs.Replay.{after, free_tracks, replay}
use Rattle.greedy_column.specs.Fair.{AllFair, Fair}
use Rattle.greedy_column.specs.Follows.{Follows}
use Rattle.greedy_column.specs.State.{AreNumbered}
use Rattle.greedy_column.proofs.StateLaws.{IsState-first}
use Rattle.greedy_column.specs.Held.{IsHeld}
use Rattle.greedy_router.specs.Moments.{tracks_after}
use Rattle.greedy_router.specs.Sweeps.{AllFollow, IsSweep, IsPast, IsPastAt, IsDone}
use Rattle.greedy_router.specs.Running.{is_past, is_going}
use Rattle.greedy_router.specs.declared.sweep.Sweep.{Sweep}
use Rattle.greedy_router.proofs.CountLaws.{fresh_after}
use Rattle.greedy_router.proofs.SweepLaws.{replay_from-push, AllFair-push, AllFollow-push, tracks_after-push, tracks_after-all, past-is, past-not, going-open, going-held, stopped-parts}

-- the records of a sweep of a channel in a manner, which began with so many free tracks and was not past its limits before the last of them,
-- and the tracks after it
pub record IsRun (manner : Manner) (begun : ℕ) (may : List Candidate → ℕ → Type 0) (pins : Pins) (most extra : ℕ) (columns : List Column) (fresh : ℕ)
    (tracks : List Track) : Type 0 where
  pub channel : IsChannel pins
  pub fair : AllFair pins 0 (begun + 1) (free_tracks begun) columns
  pub follows : AllFollow manner may pins 0 (begun + 1) (free_tracks begun) columns
  pub order : tracks ≡ replay begun pins columns
  pub numbered : AreNumbered fresh tracks
  pub within : (n : ℕ) → n < length columns → IsPastAt begun pins most extra columns n → ⊥
  pub needed : (n : ℕ) → length pins.top ≤ n → n < length columns → IsHeld (tracks_after begun pins columns n)
  pub few : length columns ≤ length pins.top + extra

-- past the limits at a moment, by its tracks
abbrev PastBy : Pins → ℕ → ℕ → ℕ → List Track → Type 0
PastBy pins most extra n tracks = (most < length tracks) ⊎ ((n ≡ length pins.top + extra) × IsHeld tracks)

-- before the first column
pub IsRun-first : (manner : Manner) (begun : ℕ) (may : List Candidate → ℕ → Type 0) (pins : Pins) (most extra : ℕ) → IsChannel pins → IsRun manner begun may pins most extra [] (begun + 1) (free_tracks begun)
IsRun-first manner begun may pins most extra is = record {
  channel = is;
  fair = tt;
  follows = tt;
  order = refl;
  numbered = (IsState-first begun pins).numbered;
  within = λ n less. absurd (omega (arith, less));
  needed = λ n covers less. absurd (omega (arith, less));
  few = omega arith;
}

module _ (manner : Manner) (begun : ℕ) (may : List Candidate → ℕ → Type 0) (pins : Pins) (most extra : ℕ) (columns : List Column) (fresh : ℕ) (tracks : List Track)
    (run : IsRun manner begun may pins most extra columns fresh tracks) where
  -- the tracks at the last moment
  last_tracks : tracks_after begun pins columns (length columns) ≡ tracks
  last_tracks = tracks_after-all begun pins columns (length columns) refl ∙ sym run.order

  -- what holds of the tracks before each column, and of the tracks now, holds at each moment of one record more
  pushed : (P : ℕ → List Track → Type 0) (done : Column) → ((n : ℕ) → n < length columns → P n (tracks_after begun pins columns n)) → P (length columns) tracks
      → (n : ℕ) → n < length (columns ++ done ∷ []) → P n (tracks_after begun pins (columns ++ done ∷ []) n)
  pushed P done earlier now n within =
      let long : length (columns ++ done ∷ []) ≡ length columns + 1 = length-append columns (done ∷ []) in
      let inside : n ≤ length columns = omega (arith, within, long) in
      subst (λ l. P n l) (sym (tracks_after-push begun pins columns done n inside))
      (elim (cases_lt n (length columns)) [
        | inl less ↦ earlier n less
        | inr more ↦
            let same : length columns ≡ n = omega (arith, inside, more) in
            subst (λ k. P k (tracks_after begun pins columns k)) same (subst (λ l. P (length columns) l) (sym last_tracks) now)
      ])

  pub IsRun-push : (done : Column) (later : List Track) (fresh_later : ℕ)
      → is_going tracks (length columns) (length pins.top) (length pins.top + extra) most ≡ true → fresh ≡ fresh_after (begun + 1) columns
      → Follows manner may pins (length columns) fresh tracks done → Fair pins (length columns) fresh tracks done
      → later ≡ after pins (length columns) done tracks → AreNumbered fresh_later later → IsRun manner begun may pins most extra (columns ++ done ∷ []) fresh_later later
  IsRun-push done later fresh_later going counted follows fair left numbered =
      let not_past = going-open tracks (length columns) (length pins.top) (length pins.top + extra) most going in
      let long : length (columns ++ done ∷ []) ≡ length columns + 1 = length-append columns (done ∷ []) in
      let e : length columns ≡ 0 + length columns = omega arith in
      record {
        channel = run.channel;
        fair = AllFair-push pins 0 (begun + 1) (free_tracks begun) columns done run.fair
            (subst (λ n. Fair pins n (fresh_after (begun + 1) columns) (replay begun pins columns) done) e
            (subst (λ f. Fair pins (length columns) f (replay begun pins columns) done) counted
            (subst (λ (l : List Track). Fair pins (length columns) fresh l done) run.order fair)));
        follows = AllFollow-push manner may pins 0 (begun + 1) (free_tracks begun) columns done run.follows
            (subst (λ n. Follows manner may pins n (fresh_after (begun + 1) columns) (replay begun pins columns) done) e
            (subst (λ f. Follows manner may pins (length columns) f (replay begun pins columns) done) counted
            (subst (λ (l : List Track). Follows manner may pins (length columns) fresh l done) run.order follows)));
        order = left ∙ (λ i. after pins (e i) done (run.order i)) ∙ sym (replay_from-push pins 0 (free_tracks begun) columns done);
        numbered = numbered;
        within = pushed (λ n l. PastBy pins most extra n l → ⊥) done run.within
            (λ past. past-not tracks (length columns) (length pins.top + extra) most not_past past);
        needed = λ n covers within.
            pushed (λ k l. length pins.top ≤ k → IsHeld l) done (λ k less covered. run.needed k covered less)
            (λ covered. going-held tracks (length columns) (length pins.top) (length pins.top + extra) most going covered) n within covers;
        few = elim (cases_lt (length columns) (length pins.top + extra)) [
          | inl less ↦ omega (arith, less, long)
          | inr more ↦
              let last : length columns ≡ length pins.top + extra = omega (arith, more, run.few) in
              let held = going-held tracks (length columns) (length pins.top) (length pins.top + extra) most going (omega (arith, more)) in
              absurd (past-not tracks (length columns) (length pins.top + extra) most not_past (inr (last, held)))
        ];
      }

  -- the sweep that has been made
  abbrev pub sweep_made : Sweep
  sweep_made = record { begun = begun; columns = columns; order = ids tracks }

  pub run-sweep : IsSweep manner begun may pins sweep_made
  run-sweep = record { begins = refl; fair = run.fair; follows = run.follows; order = ap ids run.order }

  pub run-past : is_past tracks (length columns) (length pins.top + extra) most ≡ true → IsPast pins most extra sweep_made
  run-past past = record {
    last = subst (λ l. PastBy pins most extra (length columns) l) (sym last_tracks) (past-is tracks (length columns) (length pins.top + extra) most past);
    first = run.within;
  }

  pub run-done : is_past tracks (length columns) (length pins.top + extra) most ≡ false
      → is_going tracks (length columns) (length pins.top) (length pins.top + extra) most ≡ false → IsDone pins most extra sweep_made
  run-done not_past stopped =
      let parts = stopped-parts tracks (length columns) (length pins.top) (length pins.top + extra) most stopped not_past in
      record {
        covers = parts.0;
        needed = run.needed;
        ended = λ held. parts.1 (subst (λ (l : List Track). IsHeld l) (sym run.order) held);
        few_columns = run.few;
        few_tracks = λ n within. elim (cases_lt most (length (tracks_after begun pins columns n))) [
          | inl many ↦ elim (cases_lt n (length columns)) [
            | inl less ↦ absurd (run.within n less (inl many))
            | inr more ↦
                let same : n ≡ length columns = omega (arith, within, more) in
                let now : most < length tracks = subst (λ (l : List Track). most < length l) (tracks_after-all begun pins columns n same ∙ sym run.order) many in
                absurd (past-not tracks (length columns) (length pins.top + extra) most not_past (inl now))
          ]
          | inr few ↦ few
        ];
      }

-- no sweep is past its limits and has ended
pub past-not_done : (pins : Pins) (most extra : ℕ) (sweep : Sweep) → IsPast pins most extra sweep → IsDone pins most extra sweep → ⊥
past-not_done pins most extra sweep past done = elim past.last [
  | inl many ↦ let few = done.few_tracks (length sweep.columns) (omega arith) in omega (arith, many, few)
  | inr last ↦ done.ended (subst (λ (l : List Track). IsHeld l) (tracks_after-all sweep.begun pins sweep.columns (length sweep.columns) refl) last.1)
]
