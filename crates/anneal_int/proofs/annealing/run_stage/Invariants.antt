use Rattle.std.proofs.Common.{◌≡◌, ◌+◌}
use Rattle.anneal_int.specs.Stages.{after_stage}
use Rattle.anneal_int.proofs.annealing.run_stage.Given as goal

abbrev pub invariant-loop-n : goal.invariant-loop-n
invariant-loop-n l = record {
  rows : l.spans ≡ record l.fn.spans {
    rows = after_stage l.fn.spans.design l.fn.spans.weights l.fn.draws.seed l.temperature l.fn.spans.rows l.fn.draws.number l._n;
  };
  number : l.draws.number ≡ l.fn.draws.number + l._n;
  seed : l.draws.seed ≡ l.fn.draws.seed;
}
