-- the turn of a cell's place in a row, and a shape under a turn
use Rattle.geom_core.specs.declared.layout.Shape.{Shape}
use Rattle.geom_core.specs.declared.turn.Place.{Place}
use Rattle.geom_core.specs.Turning.{Turning, moved}

-- the turn of a place
abbrev pub turn_at : Place → Turning
turn_at place = record { flip = place.mirror; quarters = 0; dx = place.dx; dy = place.dy }

-- a shape under a turn
abbrev pub moved_shape : Turning → Shape → Shape
moved_shape turn s = record { layer = s.layer; rect = moved turn s.rect }
