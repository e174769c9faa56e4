use Rattle.std.proofs.Common.{◌≡◌, ◌++◌}
use Rattle.left_edge.specs.EdgeWiring.{by_column, bottom_across}
use Rattle.left_edge.proofs.wires.wire_bottom_pins.Given as goal

abbrev pub invariant-loop-column : goal.invariant-loop-column
invariant-loop-column l = l.segments.items ≡ l.fn.segments.items ++ by_column (bottom_across l.leveled.channel.now) l.column
