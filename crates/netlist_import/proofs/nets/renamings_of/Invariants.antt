use Rattle.std.proofs.Common.{◌≡◌, drop}
use Rattle.netlist_import.specs.Nets.{all_seen, renames_behind, renames_of}
use Rattle.netlist_import.proofs.nets.renamings_of.Given as goal

abbrev pub invariant-loop-join : goal.invariant-loop-join
invariant-loop-join l = renames_behind l.netlist (all_seen l.found.items) (drop l.join-index l.netlist.joins) ≡ renames_of l.netlist
