use Rattle.std.proofs.Common.{◌≡◌, ◌++◌, drop}
use Rattle.rule_check.specs.Failing.{failing, failing_from}
use Rattle.rule_check.specs.Narrow.{is_bare}
use Rattle.rule_check.proofs.shapes.bare_cuts.Given as goal

abbrev pub invariant-loop-k : goal.invariant-loop-k
invariant-loop-k l =
    l.numbers.items ++ failing_from (is_bare l.rules l.shapes) l.k (drop l.k l.shapes) ≡ failing (is_bare l.rules l.shapes) l.shapes
