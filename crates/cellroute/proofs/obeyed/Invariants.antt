use Rattle.std.proofs.Common.{◌≡◌, length}
use Rattle.cellroute.proofs.obeyed.Given as goal

abbrev pub invariant-loop-stock : goal.invariant-loop-stock
invariant-loop-stock l = length l.styles.items ≡ l.stock-index
