use Rattle.std.proofs.Common.{◌≡◌, ◌*◌, ◌≤◌, map, sum}
use Rattle.std.specs.List.{range_with_len}
use Rattle.row_model.specs.Widths.{columns_of}
use Rattle.row_model.proofs.widths.all_columns.Given as goal

abbrev pub invariant-loop-instance : goal.invariant-loop-instance
invariant-loop-instance l = record {
  so_far : l.width ≡ sum (map (columns_of l.design) (range_with_len 0 l.instance));
  small : l.width ≤ 100000000 * l.instance;
}
