use Rattle.std.proofs.Common.{◌≡◌, fold, drop}
use Rattle.list_facts.specs.Names.{mention, mentions}
use Rattle.list_facts.specs.Texts.{texts}
use Rattle.netlist_core.specs.OnGrid.{called_names}
use Rattle.netlist_core.proofs.calls.called_names.Given as goal

abbrev pub invariant-loop-call : goal.invariant-loop-call
invariant-loop-call l = fold mention (texts l.names.keys) (called_names (drop l.call-index l.calls)) ≡ mentions (called_names l.calls)
