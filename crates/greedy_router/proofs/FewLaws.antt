use Rattle.std.proofs.Common.{◌≡◌, inl, inr, ◌<◌, ◌≤◌, ◌+◌, ◌-◌, not, eqb, ℕ, zero, suc, List, [], ◌∷◌, length, take, subst, sym, arith}
use Rattle.std.proofs.lemmas.Bool.{cases_lt}
use Rattle.std.proofs.lemmas.List.Sums.{count_by-le-length}
use Rattle.channel_model.specs.Pins.{Pins, IsChannel}
use Rattle.greedy_column.specs.declared.column.Track.{Track}
use Rattle.greedy_column.specs.declared.column.Column.{Column}
use Rattle.greedy_column.specs.Replay.{after, free_tracks, replay}
use Rattle.greedy_column.specs.Fair.{AllFair}
use Rattle.greedy_column.proofs.StateLaws.{IsState-first, AreNumbered-few}
use Rattle.greedy_column.specs.Held.{held_count, IsHeld}
use Rattle.greedy_router.specs.Moments.{tracks_after}
use Rattle.greedy_router.specs.Sweeps.{Lessens}
use Rattle.greedy_router.proofs.CountLaws.{fresh_after, fresh_after-few, AreNumbered-replay_from}

-- the first of some fair records are fair
AllFair-take : (pins : Pins) (column fresh : ℕ) (before : List Track) (columns : List Column) (n : ℕ) → AllFair pins column fresh before columns
    → AllFair pins column fresh before (take n columns)
AllFair-take pins column fresh before columns zero fair = tt
AllFair-take pins column fresh before [] (suc n) fair = tt
AllFair-take pins column fresh before (done ∷ columns) (suc n) fair =
    (fair.0, AllFair-take pins (suc column) (fresh + length done.made) (after pins column done before) columns n fair.1)

-- the first new id after fair records of a channel, and how many tracks there are
pub fresh-few : (begun : ℕ) (pins : Pins) (columns : List Column) → IsChannel pins → begun ≤ 16000000 → AllFair pins 0 (begun + 1) (free_tracks begun) columns → fresh_after (begun + 1) columns ≤ 24000001
fresh-few begun pins columns is low fair =
    let few = fresh_after-few pins 0 (begun + 1) (free_tracks begun) columns is.matched (omega arith) fair in omega (arith, few, is.within, low)

pub tracks-few : (begun : ℕ) (pins : Pins) (columns : List Column) → IsChannel pins → begun ≤ 16000000 → AllFair pins 0 (begun + 1) (free_tracks begun) columns → length (replay begun pins columns) ≤ 24000001
tracks-few begun pins columns is low fair =
    let few = AreNumbered-few (fresh_after (begun + 1) columns) (replay begun pins columns)
    (AreNumbered-replay_from pins 0 (begun + 1) (free_tracks begun) columns (IsState-first begun pins).numbered fair) in
    let ids = fresh-few begun pins columns is low fair in omega (arith, few, ids)

-- no more tracks are held than there are
held-few : (tracks : List Track) → held_count tracks ≤ length tracks
held-few tracks = count_by-le-length (λ (t : Track). not (eqb t.net 0)) tracks

module _ (begun : ℕ) (pins : Pins) (columns : List Column) (lessens : Lessens pins (record { begun = begun; columns = columns; order = [] }))
    (needed : (n : ℕ) → length pins.top ≤ n → n < length columns → IsHeld (tracks_after begun pins columns n)) where
  -- each column past the channel's end leaves fewer tracks held
  extra-few : (k : ℕ) → length pins.top + k ≤ length columns
      → k + held_count (tracks_after begun pins columns (length pins.top + k)) ≤ held_count (tracks_after begun pins columns (length pins.top))
  extra-few zero within =
      let e : length pins.top + 0 ≡ length pins.top = omega arith in
      subst (λ n. 0 + held_count (tracks_after begun pins columns n) ≤ held_count (tracks_after begun pins columns (length pins.top))) (sym e) (omega arith)
  extra-few (suc k) within =
      let e : length pins.top + suc k ≡ suc (length pins.top + k) = omega arith in
      let here : length pins.top + k < length columns = omega (arith, within) in
      let past : length pins.top ≤ length pins.top + k = omega arith in
      let less = lessens (length pins.top + k) past here (needed (length pins.top + k) past here) in
      let so_far = extra-few k (omega (arith, within)) in
      subst (λ n. suc k + held_count (tracks_after begun pins columns n) ≤ held_count (tracks_after begun pins columns (length pins.top))) (sym e) (omega (arith, less, so_far))

  -- so a sweep has not many columns
  pub columns-few : IsChannel pins → begun ≤ 16000000 → AllFair pins 0 (begun + 1) (free_tracks begun) columns → length columns ≤ 28000001
  columns-few is low fair = elim (cases_lt (length pins.top) (length columns)) [
    | inl more ↦
        let k : ℕ = length columns - length pins.top in
        let e : length pins.top + k ≡ length columns = omega (arith, more) in
        let extra = extra-few k (omega (arith, e)) in
        let held = held-few (tracks_after begun pins columns (length pins.top)) in
        let tracks = tracks-few begun pins (take (length pins.top) columns) is low (AllFair-take pins 0 (begun + 1) (free_tracks begun) columns (length pins.top) fair) in
        omega (arith, extra, held, tracks, e, is.within)
    | inr few ↦ omega (arith, few, is.within)
  ]
