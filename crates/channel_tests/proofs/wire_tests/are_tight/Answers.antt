use Rattle.channel_tests.proofs.Worked.{near_vias_on_grid}
use Rattle.channel_tests.proofs.wire_tests.are_tight.Goals as goal

pub are_wires-requires : goal.are_wires-requires
are_wires-requires c = rw c.in_ok-wiring.ensures near_vias_on_grid
