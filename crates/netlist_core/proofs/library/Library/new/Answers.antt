use Rattle.std.proofs.Common.{◌∙◌, List, ap}
use Rattle.yal_reader.specs.Kept.{module_names}
use Rattle.yal_reader.specs.declared.file.Module.{Module}
use Rattle.list_facts.specs.Names.{mentions}
use Rattle.list_facts.proofs.Different.{mentions-different}
use Rattle.netlist_core.proofs.library.Library.new.Goals as goal

pub invariant_of-result : goal.invariant_of-result
invariant_of-result c = record {
  names = c.in_ok-names.ensures ∙ ap (λ (ms : List Module). mentions (module_names ms)) c.items.ensures.is ∙ mentions-different _ c.items.ensures.read.different;
  terminals = c.in_ok-terminals.ensures;
}
