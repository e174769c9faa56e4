use Rattle.std.proofs.Common.{◌≡◌, ◌≤◌, length, fold, max}
use Rattle.pin_assign.specs.Bounded.{AreFewNets}
use Rattle.pin_assign.proofs.bounding.most_nets.Given as goal

abbrev pub invariant-loop-n : goal.invariant-loop-n
invariant-loop-n l = record {
  few : AreFewNets l.rest;
  below : l.most ≤ 200000;
  same : fold max l.most l.rest ≡ fold max 0 l.fn.nets;
}

abbrev pub decreases-loop-n : goal.decreases-loop-n
decreases-loop-n l = length l.rest
