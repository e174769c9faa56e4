use Rattle.std.proofs.Common.{◌≡◌, ◌+◌, ◌++◌, drop}
use Rattle.list_facts.specs.Texts.{texts}
use Rattle.port_rows.specs.Added.{port_pins}
use Rattle.port_rows.proofs.nets.Nets.add_pins.Given as goal

abbrev pub invariant-loop-port : goal.invariant-loop-port
invariant-loop-port l = record {
  instance : l.instance ≡ l.first + l.port-index;
  pins : l.pins.items ++ port_pins l.self l.instance (texts (drop l.port-index l.ports)) ≡ l.initial.pins.items ++ port_pins l.self l.first (texts l.ports);
}
