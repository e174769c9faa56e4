use Rattle.std.proofs.Common.{◌≡◌, ◌≤◌, ◌+◌, ℕ, List, [], Bool, true, false, length, refl, sym, ap, arith}
use Rattle.channel_model.specs.Pins.{Pins}
use Rattle.choose_core.specs.declared.candidate.Candidate.{Candidate}
use Rattle.choose_core.specs.declared.plan.Manner.{Manner}
use Rattle.greedy_column.specs.declared.column.Track.{Track}
use Rattle.greedy_column.specs.declared.column.Column.{Column}
use Rattle.greedy_column.specs.Tracks.{ids}
use Rattle.greedy_router.specs.Answers.{IsChannelRouted, IsFinished, IsOver}
use Rattle.greedy_router.specs.Running.{is_past, is_going}
use Rattle.greedy_router.specs.Runs.{routed_of}
use Rattle.greedy_router.specs.Sweeps.{Lessens}
use Rattle.greedy_router.specs.SweepWiring.{wiring_of}
use Rattle.greedy_router.proofs.GoingLaws.{IsRun, run-sweep, run-past, run-done, past-not_done}
use Rattle.greedy_router.proofs.FewerLaws.{sweep-lessens}
use Rattle.greedy_router.proofs.FewLaws.{tracks-few, columns-few}
use Rattle.greedy_router.proofs.WiredLaws.{sweep-wired}

module _ (manner : Manner) (begun : ℕ) (may : List Candidate → ℕ → Type 0) (pins : Pins) (most extra : ℕ) (columns : List Column) (fresh : ℕ) (tracks : List Track)
    (run : IsRun manner begun may pins most extra columns fresh tracks) where
  -- each further column leaves fewer tracks held
  pub run-lessens : Lessens pins (record { begun = begun; columns = columns; order = ids tracks })
  run-lessens = sweep-lessens pins (record { begun = begun; columns = columns; order = ids tracks }) run.channel run.fair

  -- a run that stops past its limits
  run-over : is_past tracks (length columns) (length pins.top + extra) most ≡ true
      → IsOver manner begun may pins most extra (record { begun = begun; columns = columns; order = ids tracks })
  run-over past =
      let passed = run-past manner begun may pins most extra columns fresh tracks run past in
      record {
        sweep_of = run-sweep manner begun may pins most extra columns fresh tracks run;
        past = passed;
        not_done = past-not_done pins most extra (record { begun = begun; columns = columns; order = ids tracks }) passed;
      }

  -- a run that ends
  run-finished : is_past tracks (length columns) (length pins.top + extra) most ≡ false
      → is_going tracks (length columns) (length pins.top) (length pins.top + extra) most ≡ false
      → IsFinished manner begun may pins most extra (record { begun = begun; columns = columns; order = ids tracks })
      (wiring_of pins (record { begun = begun; columns = columns; order = ids tracks }))
  run-finished not_past stopped =
      let done = run-done manner begun may pins most extra columns fresh tracks run not_past stopped in
      record {
        sweep_of = run-sweep manner begun may pins most extra columns fresh tracks run;
        done = done;
        not_past = λ past. past-not_done pins most extra (record { begun = begun; columns = columns; order = ids tracks }) past done;
        stated = refl;
        wired = sweep-wired pins most extra (record { begun = begun; columns = columns; order = ids tracks }) run.channel run.fair (ap ids run.order) done;
      }

  -- the channel is routed by a run that has stopped
  pub run-routed : (over : Bool) → over ≡ is_past tracks (length columns) (length pins.top + extra) most
      → is_going tracks (length columns) (length pins.top) (length pins.top + extra) most ≡ false
      → IsChannelRouted manner begun may pins most extra
      (routed_of (record { pins = pins; over = over; sweep = record { begun = begun; columns = columns; order = ids tracks } }))
  run-routed true past stopped = (run-over (sym past), refl)
  run-routed false past stopped = run-finished (sym past) stopped

  -- how many tracks and columns a run has
  pub run-tracks : begun ≤ 16000000 → length tracks ≤ 24000001
  run-tracks low = let few = tracks-few begun pins columns run.channel low run.fair in omega (arith, few, ap (λ (l : List Track). length l) run.order)

  pub run-columns : begun ≤ 16000000 → length columns ≤ 28000001
  run-columns low =
      columns-few begun pins columns (sweep-lessens pins (record { begun = begun; columns = columns; order = [] }) run.channel run.fair) run.needed run.channel low run.fair
