use Rattle.std.proofs.Common.{◌<◌, ◌≤◌, ℕ, length, slice_get}
use Rattle.list_facts.specs.Lists.{list_there}
use Rattle.row_board.proofs.nets.most_pins_of.Given as goal

abbrev pub invariant-loop-instance : goal.invariant-loop-instance
invariant-loop-instance l = record {
  all : (i : ℕ) → i < l.instance → length (list_there (slice_get l.pins i)) ≤ l.most;
  few : l.most ≤ 200000;
}
