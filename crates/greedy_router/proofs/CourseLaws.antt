use Rattle.std.proofs.Common.{◌≡◌, ◌<◌, ◌+◌, ℕ, zero, suc, List, [], ◌∷◌, Bool, true, false, cond, eqb, length, take, get_or, refl, subst, arith, Contains}
use Rattle.channel_model.specs.Pins.{Pins}
use Rattle.greedy_column.specs.declared.column.Track.{Track}
use Rattle.greedy_column.specs.declared.column.Column.{Column}
use Rattle.greedy_column.specs.Tracks.{ids, held_by}
use Rattle.greedy_column.specs.Replay.{entered, after, free_tracks, replay_from, replay}
use Rattle.greedy_column.specs.State.{AreNumbered}
use Rattle.greedy_column.specs.Fair.{Fair, AllFair}
use Rattle.greedy_column.proofs.IdLaws.{Apart, Apart-from}
use Rattle.greedy_column.proofs.StateLaws.{IsState-first, nets-free}
use Rattle.greedy_router.specs.Moments.{tracks_after}
use Rattle.greedy_router.specs.SweepWiring.{since_after}
use Rattle.greedy_router.proofs.OrderLaws.{IsEarlier, IsEarlier-entered, AreNumbered-after}
use Rattle.greedy_router.proofs.CountLaws.{fresh_after, AreNumbered-replay_from}
use Rattle.std_laws.proofs.Members.{member-head, member-tail}

-- since when each track is held, after some columns
abbrev pub since_from : Pins → ℕ → List Track → (ℕ → ℕ) → List Column → ℕ → ℕ
since_from pins column before since [] = since
since_from pins column before since (done ∷ columns) =
    since_from pins (suc column) (after pins column done before) (since_after column before since) columns

-- a record that stands for none
abbrev pub no_column : Column
no_column = record { made = []; straight = false; top = 0; bottom = 0; joins = []; ended = []; moves = [] }

-- what is known of a column of a sweep
pub record IsAt (pins : Pins) (order : List ℕ) (column fresh : ℕ) (before : List Track) (since : ℕ → ℕ) (done : Column) (later : List Track) (since_later : ℕ → ℕ) : Type 0 where
  pub numbered : AreNumbered fresh before
  pub fair : Fair pins column fresh before done
  pub next : later ≡ after pins column done before
  pub since_next : since_later ≡ since_after column before since
  pub earlier : IsEarlier (ids (entered pins column done before)) order

IsAt-from : (pins : Pins) (column fresh : ℕ) (before : List Track) (since : ℕ → ℕ) (columns : List Column) → AreNumbered fresh before
    → AllFair pins column fresh before columns → (n : ℕ) → n < length columns
    → IsAt pins (ids (replay_from pins column before columns)) (column + n) (fresh_after fresh (take n columns)) (replay_from pins column before (take n columns))
    (since_from pins column before since (take n columns)) (get_or columns n no_column) (replay_from pins column before (take (suc n) columns))
    (since_from pins column before since (take (suc n) columns))
IsAt-from pins column fresh before since [] numbered fair n within = absurd (omega (arith, within))
IsAt-from pins column fresh before since (done ∷ columns) numbered fair zero within =
    let e : column ≡ column + 0 = omega arith in
    subst (λ c. IsAt pins (ids (replay_from pins column before (done ∷ columns))) c fresh before since done (after pins column done before) (since_after column before since)) e
    (record {
      numbered = numbered;
      fair = fair.0;
      next = refl;
      since_next = refl;
      earlier = IsEarlier-entered pins column fresh before done columns numbered fair;
    })
IsAt-from pins column fresh before since (done ∷ columns) numbered fair (suc n) within =
    let e : suc column + n ≡ column + suc n = omega arith in
    subst (λ c. IsAt pins (ids (replay_from pins column before (done ∷ columns))) c (fresh_after fresh (take (suc n) (done ∷ columns)))
    (replay_from pins column before (take (suc n) (done ∷ columns))) (since_from pins column before since (take (suc n) (done ∷ columns)))
    (get_or columns n no_column) (replay_from pins column before (take (suc (suc n)) (done ∷ columns)))
    (since_from pins column before since (take (suc (suc n)) (done ∷ columns)))) e
    (IsAt-from pins (suc column) (fresh + length done.made) (after pins column done before) (since_after column before since) columns
    (AreNumbered-after pins column fresh before done numbered fair.0) fair.1 n (omega (arith, within)))

-- no net holds a track where all are free
pub held_by-none : (tracks : List Track) → ((t : Track) → Contains tracks t → t.net ≡ 0) → (id : ℕ) → held_by tracks id ≡ 0
held_by-none [] free id = refl
held_by-none (t ∷ tracks) free id = step (eqb t.id id) (free t (member-head t tracks)) (held_by-none tracks (λ u member. free u (member-tail t tracks u member)) id) where
  step : (b : Bool) → t.net ≡ 0 → held_by tracks id ≡ 0 → cond b t.net (held_by tracks id) ≡ 0
  step true none rest = none
  step false none rest = rest

-- the course of a sweep: its records by their columns, the tracks before each of them, and since when each is held
pub record Course (pins : Pins) (order : List ℕ) : Type 0 where
  pub count : ℕ
  pub done : ℕ → Column
  pub fresh : ℕ → ℕ
  pub before : ℕ → List Track
  pub since : ℕ → ℕ → ℕ
  pub first : (id : ℕ) → held_by (before 0) id ≡ 0
  pub at : (n : ℕ) → n < count → IsAt pins order n (fresh n) (before n) (since n) (done n) (before (suc n)) (since (suc n))
  pub apart : Apart order

-- what is known of each column of a sweep
pub IsAt-sweep : (begun : ℕ) (pins : Pins) (columns : List Column) → AllFair pins 0 (begun + 1) (free_tracks begun) columns → (n : ℕ) → n < length columns
    → IsAt pins (ids (replay begun pins columns)) n (fresh_after (begun + 1) (take n columns)) (tracks_after begun pins columns n) (since_from pins 0 (free_tracks begun) (λ id. 0) (take n columns))
    (get_or columns n no_column) (tracks_after begun pins columns (suc n)) (since_from pins 0 (free_tracks begun) (λ id. 0) (take (suc n) columns))
IsAt-sweep begun pins columns fair n within =
    let e : 0 + n ≡ n = omega arith in
    subst (λ c. IsAt pins (ids (replay begun pins columns)) c (fresh_after (begun + 1) (take n columns)) (tracks_after begun pins columns n)
    (since_from pins 0 (free_tracks begun) (λ id. 0) (take n columns)) (get_or columns n no_column) (tracks_after begun pins columns (suc n))
    (since_from pins 0 (free_tracks begun) (λ id. 0) (take (suc n) columns))) e
    (IsAt-from pins 0 (begun + 1) (free_tracks begun) (λ id. 0) columns (IsState-first begun pins).numbered fair n within)

pub Apart-order : (begun : ℕ) (pins : Pins) (columns : List Column) → AllFair pins 0 (begun + 1) (free_tracks begun) columns → Apart (ids (replay begun pins columns))
Apart-order begun pins columns fair = Apart-from (ids (replay begun pins columns)) (AreNumbered-replay_from pins 0 (begun + 1) (free_tracks begun) columns (IsState-first begun pins).numbered fair).distinct

abbrev pub course_of : (begun : ℕ) (pins : Pins) (columns : List Column) → AllFair pins 0 (begun + 1) (free_tracks begun) columns → Course pins (ids (replay begun pins columns))
course_of begun pins columns fair = record {
  count = length columns;
  done = λ n. get_or columns n no_column;
  fresh = λ n. fresh_after (begun + 1) (take n columns);
  before = tracks_after begun pins columns;
  since = λ n. since_from pins 0 (free_tracks begun) (λ id. 0) (take n columns);
  first = held_by-none (free_tracks begun) (nets-free begun);
  at = IsAt-sweep begun pins columns fair;
  apart = Apart-order begun pins columns fair;
}
