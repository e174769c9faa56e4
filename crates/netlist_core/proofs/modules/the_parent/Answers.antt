use Rattle.std.proofs.Common.{◌≡◌, arith, rules}
use Rattle.std.proofs.lemmas.Grind.{common_steps}
use Rattle.std.specs.List.{filter}
use Rattle.std.specs.Prelude.{Ok}
use Rattle.netlist_core.specs.Calls.{is_parent_module, only_parent}
use Rattle.netlist_core.proofs.CheckedCalls.{parent-kept}
use Rattle.netlist_core.proofs.modules.the_parent.Goals as goal

pub invariant_of-result : goal.invariant_of-result
invariant_of-result c =
    let is : only_parent (filter is_parent_module c.args.modules.now) ≡ Ok c.in-Some.module.now = first_of (grind (arith, common_steps), search rules) in
    parent-kept c.args.modules.now c.in-Some.module.now c.items-module-items.ensures.read.kept is
