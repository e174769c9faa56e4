use Rattle.std.proofs.Common.{◌≡◌}
use Rattle.placement_tests.proofs.cost_tests.are_told.Given as goal

abbrev pub invariant-loop-change : goal.invariant-loop-change
invariant-loop-change l = l.spans.design ≡ l.design
