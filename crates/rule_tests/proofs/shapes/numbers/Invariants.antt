use Rattle.std.proofs.Common.{◌≡◌, length}
use Rattle.rule_tests.proofs.shapes.numbers.Given as goal

abbrev pub invariant-loop-k : goal.invariant-loop-k
invariant-loop-k l = length l.numbers.items ≡ l.k
