-- the same as the program has it, beside its facts
use Rattle.std.specs.Prelude.{◌≡◌, ◌<◌, ◌≤◌, ◌+◌, ◌*◌, ◌^◌, ℕ, Contains, length}
use Rattle.limits.specs.declared.TheConstants.{MOST_COLUMNS}
use Rattle.greedy_column.specs.Fair.{AllFair}
use Rattle.greedy_column.specs.Replay.{free_tracks, replay}
use Rattle.greedy_column.specs.Tracks.{ids}
use Rattle.greedy_router.specs.Runs.{Ran}
use Rattle.greedy_router.specs.declared.run.Run.TheInside.{Inside}

abbrev pub ran_in : Inside → Ran
ran_in a = record {
  pins = a.surveyed.now.channel.now;
  over = a.over;
  sweep = record { begun = a.begun; columns = a.columns.items; order = ids a.state.order };
}

-- the records are fair, lead to the state, and are few enough to be wired
pub record IsRan (a : Inside) : Type 0 where
  pub low : a.begun ≤ 4 * MOST_COLUMNS
  pub fair : AllFair a.surveyed.now.channel.now 0 (a.begun + 1) (free_tracks a.begun) a.columns.items
  pub order : a.state.order ≡ replay a.begun a.surveyed.now.channel.now a.columns.items
  pub below : (id : ℕ) → Contains (ids a.state.order) id → id < a.state.fresh
  pub few_tracks : length a.state.order + 1 < 2 ^ 32
  pub few_columns : length a.columns.items < 2 ^ 32
