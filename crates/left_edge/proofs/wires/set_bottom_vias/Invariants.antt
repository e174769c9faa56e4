use Rattle.std.proofs.Common.{◌≡◌, ◌++◌}
use Rattle.left_edge.specs.EdgeWiring.{by_column, bottom_via}
use Rattle.left_edge.proofs.wires.set_bottom_vias.Given as goal

abbrev pub invariant-loop-column : goal.invariant-loop-column
invariant-loop-column l = l.vias.items ≡ l.fn.vias.items ++ by_column (bottom_via l.leveled.channel.now) l.column
