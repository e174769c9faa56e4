use Rattle.std.proofs.Common.{◌≡◌, ◌++◌}
use Rattle.std.specs.BTreeSet.{btree_set_len}
use Rattle.region_cut.proofs.lines.listed.Given as goal

abbrev pub invariant-loop-lowest : goal.invariant-loop-lowest
invariant-loop-lowest l = l.lines.items ++ l.found.keys ≡ l.fn.found.keys

abbrev pub decreases-loop-lowest : goal.decreases-loop-lowest
decreases-loop-lowest l = btree_set_len l.found
