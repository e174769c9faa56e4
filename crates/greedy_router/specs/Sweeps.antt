-- the records that a sweep is of, and when it has ended or passes its limits
use Rattle.std.specs.Prelude.{◌≡◌, ◌⊎◌, ◌<◌, ◌≤◌, ◌+◌, ℕ, suc, List, [], ◌∷◌, length}
use Rattle.channel_model.specs.Pins.{Pins}
use Rattle.choose_core.specs.declared.candidate.Candidate.{Candidate}
use Rattle.choose_core.specs.declared.plan.Manner.{Manner}
use Rattle.greedy_column.specs.declared.column.Track.{Track}
use Rattle.greedy_column.specs.declared.column.Column.{Column}
use Rattle.greedy_column.specs.Tracks.{ids}
use Rattle.greedy_column.specs.Replay.{after, free_tracks, replay}
use Rattle.greedy_column.specs.Fair.{AllFair}
use Rattle.greedy_column.specs.Follows.{Follows}
use Rattle.greedy_router.specs.declared.sweep.Sweep.{Sweep}
use Rattle.greedy_column.specs.Held.{held_count, IsHeld}
use Rattle.greedy_router.specs.Moments.{tracks_after}

-- records follow the steps of a manner, each choice being one that may be answered, the first of which is of this column
abbrev pub AllFollow : Manner → (List Candidate → ℕ → Type 0) → Pins → ℕ → ℕ → List Track → List Column → Type 0
AllFollow manner may pins column fresh before [] = Unit {0}
AllFollow manner may pins column fresh before (done ∷ columns) =
    Follows manner may pins column fresh before done × AllFollow manner may pins (suc column) (fresh + length done.made) (after pins column done before) columns

-- A sweep of a channel in a manner: it begins with so many free tracks, its records are fair and follow the steps from these on, and its
-- order is that of the tracks after the last.
pub record IsSweep (manner : Manner) (begun : ℕ) (may : List Candidate → ℕ → Type 0) (pins : Pins) (sweep : Sweep) : Type 0 where
  pub begins : sweep.begun ≡ begun
  pub fair : AllFair pins 0 (sweep.begun + 1) (free_tracks sweep.begun) sweep.columns
  pub follows : AllFollow manner may pins 0 (sweep.begun + 1) (free_tracks sweep.begun) sweep.columns
  pub order : sweep.order ≡ ids (replay sweep.begun pins sweep.columns)

-- after so many columns a sweep is past its limits: it has too many tracks, or has taken all the columns that it may take and a net still holds a track
abbrev pub IsPastAt : ℕ → Pins → ℕ → ℕ → List Column → ℕ → Type 0
IsPastAt begun pins tracks extra columns n =
    (tracks < length (tracks_after begun pins columns n)) ⊎ ((n ≡ length pins.top + extra) × IsHeld (tracks_after begun pins columns n))

-- A sweep is past its limits: after its last column, and after no column before.
pub record IsPast (pins : Pins) (tracks extra : ℕ) (sweep : Sweep) : Type 0 where
  pub last : IsPastAt sweep.begun pins tracks extra sweep.columns (length sweep.columns)
  pub first : (n : ℕ) → n < length sweep.columns → IsPastAt sweep.begun pins tracks extra sweep.columns n → ⊥

-- A sweep has ended: it has taken the channel's columns, and further ones only while a net held a track; no net holds one after the last;
-- and it kept its limits.
pub record IsDone (pins : Pins) (tracks extra : ℕ) (sweep : Sweep) : Type 0 where
  pub covers : length pins.top ≤ length sweep.columns
  pub needed : (n : ℕ) → length pins.top ≤ n → n < length sweep.columns → IsHeld (tracks_after sweep.begun pins sweep.columns n)
  pub ended : IsHeld (replay sweep.begun pins sweep.columns) → ⊥
  pub few_columns : length sweep.columns ≤ length pins.top + extra
  pub few_tracks : (n : ℕ) → n ≤ length sweep.columns → length (tracks_after sweep.begun pins sweep.columns n) ≤ tracks

-- each column past the channel's end, in which a net holds a track, leaves fewer tracks held
abbrev pub Lessens : Pins → Sweep → Type 0
Lessens pins sweep = (n : ℕ) → length pins.top ≤ n → n < length sweep.columns → IsHeld (tracks_after sweep.begun pins sweep.columns n)
    → held_count (tracks_after sweep.begun pins sweep.columns (suc n)) < held_count (tracks_after sweep.begun pins sweep.columns n)
