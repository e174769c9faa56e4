use Rattle.std.proofs.Common.{◌≡◌, ◌<◌, ◌++◌, ℕ, drop, get_or}
use Rattle.geom_core.specs.declared.layout.Shape.{Shape}
use Rattle.close_rects.specs.Items.{HasInside}
use Rattle.rule_check.specs.Failing.{failing, failing_from}
use Rattle.rule_check.specs.Narrow.{is_narrow}
use Rattle.rule_check.proofs.shapes.narrow.Given as goal

abbrev pub invariant-loop-k : goal.invariant-loop-k
invariant-loop-k l = record {
  narrow : l.numbers.items ++ failing_from (is_narrow l.rules) l.k (drop l.k l.shapes) ≡ failing (is_narrow l.rules) l.shapes;
  inside : (i : ℕ) (d : Shape) → i < l.k → HasInside (get_or l.shapes i d).rect;
}
