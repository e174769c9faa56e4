use Rattle.std.proofs.Common.{◌≡◌, ◌<◌, ℕ, [], Some, length, slice_get}
use Rattle.list_facts.proofs.lists.Lists.new.Given as goal

abbrev pub invariant-loop-n : goal.invariant-loop-n
invariant-loop-n g l = record {
  long : length l.lists.items ≡ l.n;
  each : (k : ℕ) → k < l.n → slice_get l.lists.items k ≡ Some [];
}
