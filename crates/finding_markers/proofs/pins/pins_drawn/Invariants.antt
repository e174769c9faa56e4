use Rattle.std.proofs.Common.{◌≡◌, length}
use Rattle.std.specs.Prelude.{find}
use Rattle.std.specs.Str.{bytes_eq}
use Rattle.geom_core.specs.declared.layout.Cell.{Cell}
use Rattle.finding_markers.specs.Places.{pins_drawn, pins_of_cell}
use Rattle.finding_markers.proofs.pins.pins_drawn.Given as goal

-- the first cell of the name is among those that are left
abbrev pub invariant-loop-cell : goal.invariant-loop-cell
invariant-loop-cell l = pins_drawn l.fn.layout l.fn.name ≡ pins_of_cell l.fn.layout (find (λ (c : Cell). bytes_eq c.name l.fn.name) l.rest)

abbrev pub decreases-loop-cell : goal.decreases-loop-cell
decreases-loop-cell l = length l.rest
