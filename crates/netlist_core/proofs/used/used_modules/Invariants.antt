use Rattle.std.proofs.Common.{◌≡◌, ◌++◌, filter, drop}
use Rattle.std.specs.List.{enumerate_from}
use Rattle.netlist_core.specs.OnGrid.{is_used}
use Rattle.netlist_core.proofs.used.used_modules.Given as goal

abbrev pub invariant-loop-i : goal.invariant-loop-i
invariant-loop-i l =
    l.used.items ++ filter (is_used l.calls) (enumerate_from l.i (drop l.i l.modules)) ≡ filter (is_used l.calls) (enumerate_from 0 l.modules)
