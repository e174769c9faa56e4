use Rattle.std.proofs.Common.{◌≡◌, ◌++◌, drop, map}
use Rattle.geom_extract.specs.Planes.{tie_at}
use Rattle.geom_extract.specs.Touching.{firsts, rect_of, seconds}
use Rattle.geom_extract.proofs.tied_shapes.TiedShapes.rects.Given as goal

abbrev pub invariant-loop-shape : goal.invariant-loop-shape
invariant-loop-shape l = l.rects.items ++ map (rect_of l.rules) (drop l.shape-index l.shapes) ≡ map (rect_of l.rules) l.shapes

abbrev pub invariant-loop-tie : goal.invariant-loop-tie
invariant-loop-tie l =
    l.rects.items ++ map tie_at (firsts (drop l.tie-index l.ties)) ≡ map (rect_of l.self.rules) l.self.shapes ++ map tie_at (firsts l.ties)

abbrev pub invariant-loop-tie-2 : goal.invariant-loop-tie-2
invariant-loop-tie-2 l =
    l.rects.items ++ map tie_at (seconds (drop l.tie-index l.ties))
    ≡ (map (rect_of l.self.rules) l.self.shapes ++ map tie_at (firsts l.ties)) ++ map tie_at (seconds l.ties)
