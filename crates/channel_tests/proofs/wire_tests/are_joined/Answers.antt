use Rattle.channel_tests.proofs.Worked.{joined_pins_on_grid}
use Rattle.channel_tests.proofs.wire_tests.are_joined.Goals as goal

pub are_wires-requires : goal.are_wires-requires
are_wires-requires c = rw c.in_ok-wiring.ensures joined_pins_on_grid
