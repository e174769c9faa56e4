use Rattle.std.proofs.Common.{◌≡◌, ◌≤ℤ◌, ◌↔◌, Bool, IsTrue, true, arith}
use Rattle.geom_core.specs.Extent.{Extent}
use Rattle.geom_core.specs.Rectangles.{Encloses, Meet}
use Rattle.std.proofs.lemmas.Int.{ints}

-- what meets a rectangle meets the bounds round it
pub Meet-enclosing : (window outer inner : Extent) → Encloses outer inner → Meet window inner → Meet window outer
Meet-enclosing window outer inner within meets = record {
  left = omega (arith, ints);
  right = omega (arith, ints);
  low = omega (arith, ints);
  high = omega (arith, ints);
}

pub Encloses-trans : (a b c : Extent) → Encloses a b → Encloses b c → Encloses a c
Encloses-trans a b c first second = record {
  left = omega (arith, ints);
  low = omega (arith, ints);
  right = omega (arith, ints);
  high = omega (arith, ints);
}

-- two bounds meet where they share a stretch of each axis
pub Meet-shared : (a b : Extent) (across up : Bool) → (IsTrue across ↔ ((a.x0 ≤ℤ b.x1) × (b.x0 ≤ℤ a.x1)))
    → (IsTrue up ↔ ((a.y0 ≤ℤ b.y1) × (b.y0 ≤ℤ a.y1))) → across ≡ true → (IsTrue up ↔ Meet a b)
Meet-shared a b across up first second held =
    let sides : (a.x0 ≤ℤ b.x1) × (b.x0 ≤ℤ a.x1) = first.0 held in (
      λ h. let heights : (a.y0 ≤ℤ b.y1) × (b.y0 ≤ℤ a.y1) = second.0 h in
          record { left = sides.0; right = sides.1; low = heights.0; high = heights.1 },
      λ met. second.1 (met.low, met.high),
    )
