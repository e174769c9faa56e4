use Rattle.std.proofs.Common.{◌≡◌, ◌++◌, map, take}
use Rattle.layout_check.specs.Telling.{of_number}
use Rattle.layout_check.proofs.telling.put_numbers.Given as goal

abbrev pub invariant-loop-n : goal.invariant-loop-n
invariant-loop-n l = l.findings.items ≡ l.initial.findings.items ++ map (λ n. of_number l.kind n) (take l.n-index l.numbers)
