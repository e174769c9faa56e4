use Rattle.std.proofs.Common.{◌≡◌, length}
use Rattle.std.specs.Prelude.{All}
use Rattle.close_rects.specs.Crowds.{KeepsInReach}
use Rattle.close_tests.proofs.crowd_tests.crowd.Given as goal

abbrev pub invariant-loop-k : goal.invariant-loop-k
invariant-loop-k l = record {
  len : length l.members.items ≡ l.k;
  reach : All KeepsInReach l.members.items;
}
