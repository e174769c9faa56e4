use Rattle.std.proofs.Common.{◌≡◌, drop}
use Rattle.netlist_core.specs.Cells.{positions_of}
use Rattle.netlist_core.proofs.Fronts.{with_front}
use Rattle.netlist_core.proofs.positions.Columns.positions.Given as goal

abbrev pub invariant-loop-spot : goal.invariant-loop-spot
invariant-loop-spot l =
    with_front l.positions.items (positions_of l.self.pitch l.self.outline (drop l.spot-index l.spots))
    ≡ positions_of l.self.pitch l.self.outline l.spots
