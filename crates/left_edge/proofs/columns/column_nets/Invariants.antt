use Rattle.std.proofs.Common.{◌≡◌, ◌<◌, ℕ, length, get_or}
use Rattle.left_edge.specs.Columns.{net_at}
use Rattle.left_edge.proofs.columns.column_nets.Given as goal

abbrev pub invariant-loop-column : goal.invariant-loop-column
invariant-loop-column l = record {
  long : length l.nets.items ≡ l.column;
  nets : (k : ℕ) → k < l.column → get_or l.nets.items k 0 ≡ net_at l.channel k;
}
