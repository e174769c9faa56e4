use Rattle.std.proofs.Common.{◌≡◌}
use Rattle.layout_check.specs.Groups.{pairs_in}
use Rattle.layout_check.proofs.groups.pairs_in.Given as goal

abbrev pub invariant-loop-k : goal.invariant-loop-k
invariant-loop-k l = l.pairs.items ≡ pairs_in l.k l.lists
