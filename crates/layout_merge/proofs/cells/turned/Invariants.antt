use Rattle.std.proofs.Common.{◌≡◌, map, take}
use Rattle.geom_core.specs.Moving.{moved_shape}
use Rattle.layout_merge.proofs.cells.turned.Given as goal

abbrev pub invariant-loop-n : goal.invariant-loop-n
invariant-loop-n l = l.shapes.items ≡ map (moved_shape l.turn) (take l.n l.drawing)
