use Rattle.std.proofs.Common.{◌≡◌, drop}
use Rattle.std.specs.List.{list_all}
use Rattle.netlist_core.specs.Cells.{is_on_layer}
use Rattle.netlist_core.proofs.positions.are_on_layer.Given as goal

abbrev pub invariant-loop-spot : goal.invariant-loop-spot
invariant-loop-spot l =
    list_all (is_on_layer l.word) (drop l.spot-index l.spots) ≡ list_all (is_on_layer l.word) l.spots
