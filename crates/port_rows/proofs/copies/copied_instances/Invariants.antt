use Rattle.std.proofs.Common.{◌≡◌, ◌++◌, drop}
use Rattle.port_rows.proofs.copies.copied_instances.Given as goal

abbrev pub invariant-loop-instance : goal.invariant-loop-instance
invariant-loop-instance l = l.copies.items ++ drop l.instance-index l.instances ≡ l.instances
