-- all rectangles of a wiring lie within its columns
use Rattle.std.specs.Prelude.{ℕ, ◌*◌, pos, ◌≤ℤ◌, List, Contains}
use Rattle.tech_rules.specs.Rules.{RuleValues}
use Rattle.wire_geom.specs.Grid.{scaled}
use Rattle.wire_geom.specs.declared.drawn.Drawn.{Drawn}

-- all rectangles lie in so many columns
pub record InColumns (r : RuleValues) (columns : ℕ) (drawn : List Drawn) : Type 0 where
  pub left : (d : Drawn) → Contains drawn d → pos 0 ≤ℤ d.shape.rect.x0
  pub right : (d : Drawn) → Contains drawn d → d.shape.rect.x1 ≤ℤ scaled r (2 * (columns * r.grid.column))
