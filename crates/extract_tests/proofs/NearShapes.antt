use Rattle.std.proofs.Common.{◌≤◌, ℕ, ℤ, arith}
use Rattle.std.specs.Prelude.{All, nat_abs}
use Rattle.std.proofs.lemmas.Int.{ints}
use Rattle.std.proofs.lemmas.List.Elements.{All-from_recursion}
use Rattle.geom_core.specs.Reach.{IsInReach, IsShapeInReach}
use Rattle.geom_core.specs.declared.layout.Layout.{Layout}
use Rattle.geom_core.specs.declared.layout.Shape.{Shape}
use Rattle.cif_reader.specs.Within.{IsLayoutWithin, IsShapeWithin}
use Rattle.std_laws.proofs.Every.{every-weaker}

near : (z : ℤ) → nat_abs z ≤ 4000000000 → IsInReach z
near z few = record { low = omega (arith, ints); high = omega (arith, ints) }

near-shape : (s : Shape) → IsShapeWithin s → IsShapeInReach s
near-shape s is = record { x0 = near s.rect.x0 is.x0; y0 = near s.rect.y0 is.y0; x1 = near s.rect.x1 is.x1; y1 = near s.rect.y1 is.y1 }

-- a layout within the limits of the reader has few shapes, and all within reach
pub near-all : (n : ℕ) (l : Layout) → IsLayoutWithin n l → All IsShapeInReach l.shapes
near-all n l is = All-from_recursion IsShapeInReach l.shapes (every-weaker IsShapeWithin IsShapeInReach near-shape l.shapes is.shapes)
