use Rattle.std.proofs.Common.{◌≡◌, ◌++◌, map, take}
use Rattle.left_edge.specs.EdgeWiring.{along}
use Rattle.left_edge.proofs.wires.lay_nets.Given as goal

abbrev pub invariant-loop-place : goal.invariant-loop-place
invariant-loop-place l = l.segments.items ≡ l.fn.segments.items ++ map (along l.leveled.channel.now) (take l.place l.leveled.nets.now)
