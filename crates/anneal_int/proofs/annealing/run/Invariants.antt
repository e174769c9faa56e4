use Rattle.std.proofs.Common.{◌≡◌, ◌*◌}
use Rattle.anneal_int.specs.Annealed.{after_changes, stage_changes}
use Rattle.anneal_int.specs.Cooling.{temperature_of}
use Rattle.anneal_int.proofs.annealing.run.Given as goal

abbrev pub invariant-loop-stage : goal.invariant-loop-stage
invariant-loop-stage g l = record {
  rows : l.spans ≡ record l.fn.spans { rows = after_changes l.design l.schedule l.seed l.fn.spans.rows (l.stage * stage_changes l.design l.schedule) };
  number : l.draws.number ≡ l.stage * stage_changes l.design l.schedule;
  seed : l.draws.seed ≡ l.seed;
  goes : g.W.Watch.goes l.fn.watch l.watch;
  temperature : l.temperature ≡ temperature_of l.schedule.temperature l.stage;
}
