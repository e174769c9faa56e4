use Rattle.std.proofs.Common.{◌≡◌}
use Rattle.greedy_column.specs.Replay.{free_tracks}
use Rattle.greedy_column.proofs.column.ColumnState.new.Given as goal

abbrev pub invariant-loop-number : goal.invariant-loop-number
invariant-loop-number l = l.order.items ≡ free_tracks l.number
