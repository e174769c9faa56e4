use Rattle.std.proofs.Common.{◌≡◌, ◌++◌, drop}
use Rattle.geom_extract.specs.Touching.{asks_from}
use Rattle.geom_extract.proofs.tied_shapes.TiedShapes.asks.Given as goal

abbrev pub invariant-loop-k : goal.invariant-loop-k
invariant-loop-k l = l.asks.items ++ asks_from l.rules l.k (drop l.k l.shapes) ≡ asks_from l.rules 0 l.shapes
