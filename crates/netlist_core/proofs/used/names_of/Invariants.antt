use Rattle.std.proofs.Common.{◌≡◌, fold, drop}
use Rattle.list_facts.specs.Names.{mention, mentions}
use Rattle.list_facts.specs.Texts.{texts}
use Rattle.netlist_core.specs.OnGrid.{used_names}
use Rattle.netlist_core.proofs.used.names_of.Given as goal

abbrev pub invariant-loop-numbered : goal.invariant-loop-numbered
invariant-loop-numbered l = fold mention (texts l.names.keys) (used_names (drop l.numbered-index l.used)) ≡ mentions (used_names l.used)
