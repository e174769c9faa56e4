use Rattle.std.proofs.Common.{◌≡◌, ◌≤◌, ◌+◌, ◌*◌, length}
use Rattle.pin_assign.specs.Bounded.{AreFewNets}
use Rattle.pin_assign.specs.Bounds.{channels_height}
use Rattle.pin_assign.proofs.bounding.channels_height.Given as goal

abbrev pub invariant-loop-n : goal.invariant-loop-n
invariant-loop-n l = record {
  few : AreFewNets l.rest;
  low : l.height + 400001000 * length l.rest ≤ 206000515000;
  same : l.height + channels_height l.rules l.rest ≡ channels_height l.rules l.fn.nets;
}

abbrev pub decreases-loop-n : goal.decreases-loop-n
decreases-loop-n l = length l.rest
