use Rattle.std.proofs.Common.{◌≡◌, drop, fold}
use Rattle.list_facts.specs.Names.{mention, mentions}
use Rattle.list_facts.specs.Texts.{texts}
use Rattle.port_rows.specs.Ported.{inst_names}
use Rattle.port_rows.proofs.clashes.names_of.Given as goal

abbrev pub invariant-loop-instance : goal.invariant-loop-instance
invariant-loop-instance l = fold mention (texts l.names.keys) (inst_names (drop l.instance-index l.instances)) ≡ mentions (inst_names l.instances)
