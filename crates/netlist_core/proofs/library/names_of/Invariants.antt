use Rattle.std.proofs.Common.{◌≡◌, fold, drop}
use Rattle.yal_reader.specs.Kept.{module_names}
use Rattle.list_facts.specs.Names.{mention, mentions}
use Rattle.list_facts.specs.Texts.{texts}
use Rattle.netlist_core.proofs.library.names_of.Given as goal

abbrev pub invariant-loop-module : goal.invariant-loop-module
invariant-loop-module l = fold mention (texts l.names.keys) (module_names (drop l.module-index l.modules)) ≡ mentions (module_names l.modules)
