use Rattle.std.proofs.Common.{◌≡◌, ◌<◌, ◌≤◌, ℕ, Some, true, length}
use Rattle.std.specs.BTreeMap.{btree_map_len}
use Rattle.std.specs.List.{slice_get, slice_index}
use Rattle.geom_core.specs.declared.layout.Shape.{Shape}
use Rattle.rule_check.specs.Rows.{AreRows, row_at}
use Rattle.rule_check.specs.Narrow.{is_on}
use Rattle.rule_check.proofs.outlines.row_numbers.Given as goal

abbrev pub invariant-loop-k : goal.invariant-loop-k
invariant-loop-k l = record {
  each : length l.numbers.items ≡ l.k;
  few : btree_map_len l.rows ≤ l.k;
  rows : AreRows l.rows;
  told : (i : ℕ) (s : Shape) → i < l.k → slice_get l.shapes i ≡ Some s → is_on l.rules.outline.layer s ≡ true
      → row_at l.rows s.rect.y0 ≡ Some (slice_index l.numbers.items i);
}
