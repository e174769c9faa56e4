use Rattle.std.proofs.Common.{◌≡◌, ◌≤◌, ℕ, fold, map, length}
use Rattle.std.specs.List.{AllByRecursion}
use Rattle.placement_tries.specs.RowCounts.{part_of, row_list, with_new}
use Rattle.placement_tries.proofs.row_counts.row_list.Given as goal

-- the numbers so far, and those that are left put behind them, are all
abbrev pub invariant-loop-eighths : goal.invariant-loop-eighths
invariant-loop-eighths l = record {
  small : AllByRecursion (λ (e : ℕ). e ≤ 9) l.rest;
  so_far : fold with_new l.list.items (map (part_of l.square) l.rest) ≡ row_list l.square;
}

abbrev pub decreases-loop-eighths : goal.decreases-loop-eighths
decreases-loop-eighths l = length l.rest
