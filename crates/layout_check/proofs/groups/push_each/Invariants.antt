use Rattle.std.proofs.Common.{◌≡◌, ◌++◌, ℕ, map, take}
use Rattle.layout_check.proofs.groups.push_each.Given as goal

abbrev pub invariant-loop-n : goal.invariant-loop-n
invariant-loop-n l = l.pairs.items ≡ l.initial.pairs.items ++ map (λ (n : ℕ). (l.first, n)) (take l.n-index l.later)
