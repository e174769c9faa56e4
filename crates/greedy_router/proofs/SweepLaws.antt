use Rattle.std.proofs.Common.{◌≡◌, ◌⊎◌, inl, inr, ◌<◌, ◌≤◌, ◌+◌, ◌++◌, eqb, ltb, not, ℕ, suc, List, [], ◌∷◌, Bool, true, false, length, refl, subst, ap, ◌∙◌, arith, eqb-true, eq-eqb}
use Rattle.std.specs.Prelude.{◌&&◌, ◌||◌}
use Rattle.std.proofs.lemmas.List.{take-append-le, take_all}
use Rattle.std.proofs.lemmas.Bool.{and_parts, and_from, or_parts, ltb-true, ltb-false, lt-ltb, not-true}
use Rattle.channel_model.specs.Pins.{Pins}
use Rattle.choose_core.specs.declared.candidate.Candidate.{Candidate}
use Rattle.choose_core.specs.declared.plan.Manner.{Manner}
use Rattle.greedy_column.specs.declared.column.Track.{Track}
use Rattle.greedy_column.specs.declared.column.Column.{Column}
use Rattle.greedy_column.specs.Replay.{after, replay_from, replay}
use Rattle.greedy_column.specs.Fair.{Fair, AllFair}
use Rattle.greedy_column.specs.Follows.{Follows}
use Rattle.greedy_column.specs.Held.{held_count, IsHeld}
use Rattle.greedy_router.specs.Moments.{tracks_after}
use Rattle.greedy_router.specs.Sweeps.{AllFollow}
use Rattle.greedy_router.specs.Running.{is_held, is_past, is_wanted, is_going}
use Rattle.greedy_router.proofs.CountLaws.{fresh_after}

-- one record more
pub replay_from-push : (pins : Pins) (column : ℕ) (before : List Track) (columns : List Column) (done : Column)
    → replay_from pins column before (columns ++ done ∷ []) ≡ after pins (column + length columns) done (replay_from pins column before columns)
replay_from-push pins column before [] done = let e : column ≡ column + 0 = omega arith in ap (λ n. after pins n done before) e
replay_from-push pins column before (first ∷ columns) done =
    let e : suc column + length columns ≡ column + suc (length columns) = omega arith in
    replay_from-push pins (suc column) (after pins column first before) columns done
    ∙ ap (λ n. after pins n done (replay_from pins (suc column) (after pins column first before) columns)) e

pub fresh_after-push : (fresh : ℕ) (columns : List Column) (done : Column) → fresh_after fresh (columns ++ done ∷ []) ≡ fresh_after fresh columns + length done.made
fresh_after-push fresh [] done = refl
fresh_after-push fresh (first ∷ columns) done = fresh_after-push (fresh + length first.made) columns done

pub AllFair-push : (pins : Pins) (column fresh : ℕ) (before : List Track) (columns : List Column) (done : Column) → AllFair pins column fresh before columns
    → Fair pins (column + length columns) (fresh_after fresh columns) (replay_from pins column before columns) done
    → AllFair pins column fresh before (columns ++ done ∷ [])
AllFair-push pins column fresh before [] done fair one =
    let e : column + 0 ≡ column = omega arith in (subst (λ n. Fair pins n fresh before done) e one, tt)
AllFair-push pins column fresh before (first ∷ columns) done fair one =
    let e : column + suc (length columns) ≡ suc column + length columns = omega arith in (
      fair.0,
      AllFair-push pins (suc column) (fresh + length first.made) (after pins column first before) columns done fair.1
          (subst (λ n. Fair pins n (fresh_after (fresh + length first.made) columns) (replay_from pins (suc column) (after pins column first before) columns) done) e one),
    )

pub AllFollow-push : (manner : Manner) (may : List Candidate → ℕ → Type 0) (pins : Pins) (column fresh : ℕ) (before : List Track) (columns : List Column) (done : Column)
    → AllFollow manner may pins column fresh before columns
    → Follows manner may pins (column + length columns) (fresh_after fresh columns) (replay_from pins column before columns) done
    → AllFollow manner may pins column fresh before (columns ++ done ∷ [])
AllFollow-push manner may pins column fresh before [] done follows one =
    let e : column + 0 ≡ column = omega arith in (subst (λ n. Follows manner may pins n fresh before done) e one, tt)
AllFollow-push manner may pins column fresh before (first ∷ columns) done follows one =
    let e : column + suc (length columns) ≡ suc column + length columns = omega arith in (
      follows.0,
      AllFollow-push manner may pins (suc column) (fresh + length first.made) (after pins column first before) columns done follows.1
          (subst (λ n. Follows manner may pins n (fresh_after (fresh + length first.made) columns) (replay_from pins (suc column) (after pins column first before) columns) done) e one),
    )

-- the tracks at an earlier moment stay as they were, and those at the last one are of all records
pub tracks_after-push : (begun : ℕ) (pins : Pins) (columns : List Column) (done : Column) (n : ℕ) → n ≤ length columns
    → tracks_after begun pins (columns ++ done ∷ []) n ≡ tracks_after begun pins columns n
tracks_after-push begun pins columns done n within = ap (λ (l : List Column). replay begun pins l) (take-append-le n columns (done ∷ []) within)

pub tracks_after-all : (begun : ℕ) (pins : Pins) (columns : List Column) (n : ℕ) → n ≡ length columns → tracks_after begun pins columns n ≡ replay begun pins columns
tracks_after-all begun pins columns n same = ap (λ (l : List Column). replay begun pins l) (take_all n columns (omega (arith, same)))

-- what the tests of a sweep say
pub past-is : (tracks : List Track) (taken last most : ℕ) → is_past tracks taken last most ≡ true → (most < length tracks) ⊎ ((taken ≡ last) × IsHeld tracks)
past-is tracks taken last most past = step (ltb most (length tracks)) refl past where
  step : (b : Bool) → ltb most (length tracks) ≡ b → (b || (eqb taken last && is_held tracks)) ≡ true → (most < length tracks) ⊎ ((taken ≡ last) × IsHeld tracks)
  step true many is = inl (ltb-true most (length tracks) many)
  step false few is =
      let parts = and_parts (eqb taken last) (is_held tracks) is in inr (eqb-true taken last parts.0, ltb-true 0 (held_count tracks) parts.1)

pub past-not : (tracks : List Track) (taken last most : ℕ) → is_past tracks taken last most ≡ false
    → ((most < length tracks) ⊎ ((taken ≡ last) × IsHeld tracks)) → ⊥
past-not tracks taken last most not_past (inl many) =
    let parts = or_parts (ltb most (length tracks)) (eqb taken last && is_held tracks) not_past in
    let is = lt-ltb most (length tracks) many in cc (parts.0, is)
past-not tracks taken last most not_past (inr (same, held)) =
    let parts = or_parts (ltb most (length tracks)) (eqb taken last && is_held tracks) not_past in
    let is = and_from (eqb taken last) (is_held tracks) (eq-eqb taken last same) (lt-ltb 0 (held_count tracks) held) in cc (parts.1, is)

pub going-open : (tracks : List Track) (taken width last most : ℕ) → is_going tracks taken width last most ≡ true → is_past tracks taken last most ≡ false
going-open tracks taken width last most going =
    not-true (is_past tracks taken last most) (and_parts (not (is_past tracks taken last most)) (is_wanted tracks taken width) going).0

pub going-held : (tracks : List Track) (taken width last most : ℕ) → is_going tracks taken width last most ≡ true → width ≤ taken → IsHeld tracks
going-held tracks taken width last most going past = step (ltb taken width) refl (and_parts (not (is_past tracks taken last most)) (is_wanted tracks taken width) going).1 where
  step : (b : Bool) → ltb taken width ≡ b → (b || is_held tracks) ≡ true → IsHeld tracks
  step true less is = let h = ltb-true taken width less in absurd (omega (arith, h, past))
  step false more is = ltb-true 0 (held_count tracks) is

-- where a sweep stops though it is not past its limits, it has taken the channel's columns, and no net holds a track
pub stopped-parts : (tracks : List Track) (taken width last most : ℕ) → is_going tracks taken width last most ≡ false → is_past tracks taken last most ≡ false
    → (width ≤ taken) × (IsHeld tracks → ⊥)
stopped-parts tracks taken width last most stopped not_past =
    let idle = open_idle (is_past tracks taken last most) (is_wanted tracks taken width) not_past stopped in
    let parts = or_parts (ltb taken width) (is_held tracks) idle in (
      ltb-false taken width parts.0,
      (λ held. let is = lt-ltb 0 (held_count tracks) held in cc (parts.1, is)),
    ) where
      open_idle : (p w : Bool) → p ≡ false → (not p && w) ≡ false → w ≡ false
      open_idle true w none is = cc
      open_idle false true none is = cc
      open_idle false false none is = refl
