use Rattle.std.proofs.Common.{◌≡◌, ◌++◌, drop}
use Rattle.port_rows.proofs.copies.copied_kinds.Given as goal

abbrev pub invariant-loop-kind : goal.invariant-loop-kind
invariant-loop-kind l = l.copies.items ++ drop l.kind-index l.kinds ≡ l.kinds
