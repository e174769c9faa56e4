use Rattle.wire_geom.proofs.DrawingPlaces.{drawing-length}
use Rattle.wire_geom.proofs.drawing.shapes.Goals as goal

pub returns-clause-drawn : goal.returns-clause-drawn
returns-clause-drawn c = λ r base. rw (c.items.ensures, c.items-2.ensures) (drawing-length r base c.args.wiring.now)
