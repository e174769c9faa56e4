use Rattle.std.proofs.Common.{◌≡◌, ◌++◌, drop, map}
use Rattle.list_facts.specs.Texts.{texts}
use Rattle.port_rows.specs.Added.{port_instance}
use Rattle.port_rows.proofs.added.add_instances.Given as goal

abbrev pub invariant-loop-port : goal.invariant-loop-port
invariant-loop-port l =
    l.instances.items ++ map (port_instance l.kind) (texts (drop l.port-index l.ports))
    ≡ l.initial.instances.items ++ map (port_instance l.kind) (texts l.ports)
