use Rattle.std.proofs.Common.{◌≡◌, ◌++◌, drop}
use Rattle.netlist_core.specs.LibraryView.{all_terminals}
use Rattle.netlist_core.proofs.library.all_terminals.Given as goal

abbrev pub invariant-loop-module : goal.invariant-loop-module
invariant-loop-module l = l.all.items ++ all_terminals (drop l.module-index l.modules) ≡ all_terminals l.modules
