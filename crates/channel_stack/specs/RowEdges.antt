-- the cells of the lowest and of the highest row of a layout
use Rattle.std.specs.Prelude.{◌≡◌, ◌≤ℤ◌, Contains}
use Rattle.geom_core.specs.declared.layout.Cell.{Cell}
use Rattle.geom_core.specs.declared.layout.Layout.{Layout}
use Rattle.geom_core.specs.declared.layout.Shape.{Shape}
use Rattle.tech_rules.specs.Rules.{RuleValues}

-- an upright cell stands in the lowest row: no outline begins lower than it does
abbrev pub IsInLowestRow : RuleValues → Layout → Cell → Type 0
IsInLowestRow r l cell = (s : Shape) → Contains l.shapes s → s.layer ≡ r.outline.layer → cell.turn.dy ≤ℤ s.rect.y0

-- and in the highest row: none begins higher
abbrev pub IsInHighestRow : RuleValues → Layout → Cell → Type 0
IsInHighestRow r l cell = (s : Shape) → Contains l.shapes s → s.layer ≡ r.outline.layer → s.rect.y0 ≤ℤ cell.turn.dy
