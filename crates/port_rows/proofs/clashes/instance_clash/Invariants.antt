use Rattle.std.proofs.Common.{◌≡◌, length}
use Rattle.list_facts.specs.Texts.{texts}
use Rattle.port_rows.specs.Ported.{first_among, inst_names}
use Rattle.port_rows.proofs.clashes.instance_clash.Given as goal

abbrev pub invariant-loop-instance : goal.invariant-loop-instance
invariant-loop-instance l = first_among (texts l.names.keys) (inst_names l.rest) ≡ first_among (texts l.names.keys) (inst_names l.instances)

abbrev pub decreases-loop-instance : goal.decreases-loop-instance
decreases-loop-instance l = length l.rest
