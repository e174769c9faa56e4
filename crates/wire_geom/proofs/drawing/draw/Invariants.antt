use Rattle.std.proofs.Common.{◌≡◌, take}
use Rattle.wire_geom.specs.Drawing.{drawing}
use Rattle.wire_geom.proofs.drawing.draw.Given as goal

abbrev pub invariant-loop-k : goal.invariant-loop-k
invariant-loop-k l = l.drawn.items ≡ take l.k (drawing l.rules l.base l.wiring)
