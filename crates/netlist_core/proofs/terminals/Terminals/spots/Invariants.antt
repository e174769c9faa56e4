use Rattle.std.proofs.Common.{◌≡◌, ◌++◌, drop}
use Rattle.std.specs.List.{filter_map}
use Rattle.netlist_core.specs.Cells.{power_names, spot_of, spots_of, terminal_names}
use Rattle.netlist_core.proofs.terminals.Terminals.spots.Given as goal

abbrev pub invariant-loop-line : goal.invariant-loop-line
invariant-loop-line l =
    l.spots.items ++ filter_map (spot_of (terminal_names l.self-inside.lines.now) (power_names l.self-inside.lines.now)) (drop l.line-index l.line-items)
    ≡ spots_of l.self-inside.lines.now
