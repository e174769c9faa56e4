-- shapes, ties and rules as contracts see them, with the shapes within reach and the ties among them
use Rattle.std.specs.Prelude.{◌<◌, ◌^◌, length, All}
use Rattle.geom_core.specs.Reach.{IsShapeInReach}
use Rattle.geom_extract.specs.Touching.{Tied}
use Rattle.geom_extract.specs.declared.tied_shapes.TiedShapes.TheInside.{Inside}

abbrev pub tied_in : Inside → Tied
tied_in a = record { rules = a.rules.now; shapes = a.shapes.now; ties = a.ties.now }

-- there are fewer than 2^32 shapes, which lie within reach, and the ties are among them
pub record AreTied (a : Inside) : Type 0 where
  pub few : length a.shapes.now < 2 ^ 32
  pub reach : All IsShapeInReach a.shapes.now
  pub ties : All (λ t. (t.0 < length a.shapes.now) × (t.1 < length a.shapes.now)) a.ties.now
