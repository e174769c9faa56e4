use Rattle.std.proofs.Common.{◌≡◌, ◌+◌, ◌-◌, ◌++◌, ℕ, length, replicate, slice_index}
use Rattle.greedy_column.proofs.table.reach.Given as goal

abbrev pub invariant-entries : goal.invariant-entries
invariant-entries l = record {
  longer : l.table.items ++ replicate (l.number + 1 - length l.table.items) l.value
      ≡ l.fn.table.items ++ replicate (l.number + 1 - length l.fn.table.items) l.value;
  alike : l.value ≡ 0 → (k : ℕ) → slice_index l.table.items k ≡ slice_index l.fn.table.items k;
}

abbrev pub decreases-entries : goal.decreases-entries
decreases-entries l = l.number + 1 - length l.table.items
