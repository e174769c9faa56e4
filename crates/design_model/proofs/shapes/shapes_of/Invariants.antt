use Rattle.std.proofs.Common.{◌≡◌, ◌++◌, drop, map}
use Rattle.design_model.specs.Drawing.{drawing_of, position_shape}
use Rattle.design_model.proofs.shapes.shapes_of.Given as goal

abbrev pub invariant-loop-position : goal.invariant-loop-position
invariant-loop-position l =
    l.shapes.items ++ map (position_shape l.rules l.kind.height) (drop l.position-index l.kind.positions)
    ≡ drawing_of l.rules l.kind
