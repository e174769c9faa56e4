use Rattle.std.proofs.Common.{◌≡◌, ◌++◌, filter, drop}
use Rattle.std.specs.Option.{option_map, option_to_list}
use Rattle.netlist_core.specs.Calls.{is_parent_module, only_parent}
use Rattle.netlist_core.proofs.modules.the_parent.Given as goal

abbrev pub invariant-loop-module : goal.invariant-loop-module
invariant-loop-module l =
    only_parent (option_to_list (option_map (λ m. m.now) l.parent) ++ filter is_parent_module (drop l.module-index l.module-items))
    ≡ only_parent (filter is_parent_module l.fn.modules)
