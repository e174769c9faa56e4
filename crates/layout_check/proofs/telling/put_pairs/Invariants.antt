use Rattle.std.proofs.Common.{◌≡◌, ◌++◌, map, take}
use Rattle.layout_check.specs.Telling.{of_pair}
use Rattle.layout_check.proofs.telling.put_pairs.Given as goal

abbrev pub invariant-loop-pair : goal.invariant-loop-pair
invariant-loop-pair l = l.findings.items ≡ l.initial.findings.items ++ map (λ p. of_pair l.kind p) (take l.pair-index l.pairs)
