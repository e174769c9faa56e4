use Rattle.std.proofs.Common.{◌≡◌, ap, ℕ, ◌+◌, ◌*◌, ◌≤◌, arith}
use Rattle.std.proofs.Math.Nat.{mul-le-mul_right, add-mul}
use Rattle.std.proofs.lemmas.Int.{ints}
use Rattle.std.specs.Prelude.{◌+ℤ◌, ◌-ℤ◌, ◌≤ℤ◌}
use Rattle.geom_core.specs.Rectangles.{Apart, left_of, right_of, under, above, Meet}
use Rattle.tech_rules.specs.Lengths.{length_in}
use Rattle.tech_rules.specs.Rules.{RuleValues}
use Rattle.wire_geom.specs.Boxes.{Box}
use Rattle.wire_geom.specs.Drawing.{extent_of}
use Rattle.wire_geom.specs.Grid.{scaled}
use Rattle.wire_geom.proofs.BoxLaws.{Clear, before, behind, under as beneath, over, Holds}

-- numbers in order
pub scaled-order : (r : RuleValues) (a b : ℕ) → a ≤ b → scaled r a ≤ℤ scaled r b
scaled-order r a b h = let product : a * r.grid.centi ≤ b * r.grid.centi = mul-le-mul_right r.grid.centi h in omega (arith, ints)

-- numbers with a gap of so many units
pub scaled-gap : (r : RuleValues) (a d b : ℕ) → a + 2 * d ≤ b → (scaled r a +ℤ length_in r d) ≤ℤ scaled r b
scaled-gap r a d b h =
    let product : (a + 2 * d) * r.grid.centi ≤ b * r.grid.centi = mul-le-mul_right r.grid.centi h in
    let parted : (a + 2 * d) * r.grid.centi ≡ a * r.grid.centi + 2 * d * r.grid.centi = add-mul a (2 * d) r.grid.centi in
    omega (arith, ints)

pub scaled-before : (r : RuleValues) (a d b : ℕ) → a + 2 * d ≤ b → scaled r a ≤ℤ (scaled r b -ℤ length_in r d)
scaled-before r a d b h =
    let product : (a + 2 * d) * r.grid.centi ≤ b * r.grid.centi = mul-le-mul_right r.grid.centi h in
    let parted : (a + 2 * d) * r.grid.centi ≡ a * r.grid.centi + 2 * d * r.grid.centi = add-mul a (2 * d) r.grid.centi in
    omega (arith, ints)

-- numbers that differ by so many units
pub scaled-sum : (r : RuleValues) (a d b : ℕ) → a + 2 * d ≡ b → scaled r a +ℤ length_in r d ≡ scaled r b
scaled-sum r a d b h =
    let parted : (a + 2 * d) * r.grid.centi ≡ a * r.grid.centi + 2 * d * r.grid.centi = add-mul a (2 * d) r.grid.centi in
    let product : (a + 2 * d) * r.grid.centi ≡ b * r.grid.centi = ap (λ (n : ℕ). n * r.grid.centi) h in
    omega (arith, ints)

-- boxes that lie apart
pub scaled-clear : (r : RuleValues) (d : ℕ) (a b : Box) → Clear (2 * d) a b → Apart (length_in r d) (extent_of r a) (extent_of r b)
scaled-clear r d a b (before h) = left_of (scaled-gap r a.x1 d b.x0 h)
scaled-clear r d a b (behind h) = right_of (scaled-gap r b.x1 d a.x0 h)
scaled-clear r d a b (beneath h) = under (scaled-gap r a.y1 d b.y0 h)
scaled-clear r d a b (over h) = above (scaled-gap r b.y1 d a.y0 h)

-- boxes that have a common point
pub scaled-meet : (r : RuleValues) (a b : Box) (x y : ℕ) → Holds a x y → Holds b x y → Meet (extent_of r a) (extent_of r b)
scaled-meet r a b x y in_a in_b = record {
  left = scaled-order r a.x0 b.x1 (omega (arith, in_a.left, in_b.right));
  right = scaled-order r b.x0 a.x1 (omega (arith, in_b.left, in_a.right));
  low = scaled-order r a.y0 b.y1 (omega (arith, in_a.low, in_b.high));
  high = scaled-order r b.y0 a.y1 (omega (arith, in_b.low, in_a.high));
}
