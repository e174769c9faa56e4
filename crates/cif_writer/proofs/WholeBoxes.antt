use Rattle.std.proofs.Common.{◌≡◌, ap, sym, subst, ◌∙◌, ℕ, ◌+◌, ◌-◌, ◌*◌, ◌/◌, ◌%◌, ◌<◌, ◌≤◌, ℤ, pos, arith}
use Rattle.std.proofs.lemmas.Int.{ints}
use Rattle.std.proofs.Math.Nat.{mul-le-mul, mul-le-mul_right, mul_assoc, mul_left_comm, add-mul}
use Rattle.std.specs.Prelude.{◌+ℤ◌, ◌-ℤ◌}
use Rattle.geom_core.specs.Extent.{Extent}
use Rattle.design_model.specs.Drawing.{extent_of}
use Rattle.cif_text.specs.Printable.{IsCifNumber, IsSize}
use Rattle.cif_text.specs.Scales.{doubled}
use Rattle.cif_text.proofs.WrittenLayout.{IsBox}

-- the lower and the upper of two sides, which are multiples of four half centimicrons and apart
record Sides (low high : ℕ) : Type 0 where
  pub quarter : ℕ
  pub size : ℕ
  pub low_is : low ≡ 4 * quarter
  pub high_is : high ≡ 4 * quarter + 4 * size
  pub some : 1 ≤ size

-- sides in half units, where a unit has four times q centimicrons
sides-from : (centi q a b w : ℕ) → centi ≡ 4 * q → b ≡ a + w → 1 ≤ q → 1 ≤ w → Sides (a * centi) (b * centi)
sides-from centi q a b w fourfold longer fine some =
    let first : a * centi ≡ 4 * (a * q) = ap (λ (n : ℕ). a * n) fourfold ∙ mul_left_comm a 4 q in
    let second : b * centi ≡ 4 * (b * q) = ap (λ (n : ℕ). b * n) fourfold ∙ mul_left_comm b 4 q in
    let third : b * q ≡ a * q + w * q = ap (λ (n : ℕ). n * q) longer ∙ add-mul a w q in
    let above : 1 * 1 ≤ w * q = mul-le-mul some fine in
    record { quarter = a * q; size = w * q; low_is = first; high_is = omega arith; some = omega arith }

-- and where it has a multiple of four
sides-of : (centi a b : ℕ) → centi % 4 ≡ 0 → 4 ≤ centi → a < b → Sides (a * centi) (b * centi)
sides-of centi a b whole fine less = sides-from centi (centi / 4) a b (b - a) (omega arith) (omega arith) (omega arith) (omega arith)

-- the two sides around a centre
low-side : (m n : ℕ) → doubled (pos (2 * m + n)) -ℤ pos (2 * n) ≡ pos (4 * m)
low-side m n = omega (arith, ints)

high-side : (m n : ℕ) → doubled (pos (2 * m + n)) +ℤ pos (2 * n) ≡ pos (4 * m + 4 * n)
high-side m n = omega (arith, ints)

-- the two sides that a box draws
low-drawn : (low high : ℕ) (s : Sides low high) → doubled (pos (2 * s.quarter + s.size)) -ℤ pos (2 * s.size) ≡ pos low
low-drawn low high s = low-side s.quarter s.size ∙ ap pos (sym s.low_is)

high-drawn : (low high : ℕ) (s : Sides low high) → doubled (pos (2 * s.quarter + s.size)) +ℤ pos (2 * s.size) ≡ pos high
high-drawn low high s = high-side s.quarter s.size ∙ ap pos (sym s.high_is)

abbrev made : ℤ → ℤ → ℤ → ℤ → Extent
made a b c d = record { x0 = a; y0 = b; x1 = c; y1 = d }

-- rectangles of the same sides
same-extent : (a b c d e f g h : ℤ) → a ≡ e → b ≡ f → c ≡ g → d ≡ h → made a b c d ≡ made e f g h
same-extent a b c d e f g h first second third fourth = λ i. made (first i) (second i) (third i) (fourth i)

-- a number of up to 10^12 can be read
pub near-of : (n : ℕ) → n ≤ 1000000000000 → IsCifNumber (pos n)
near-of n small = record { low = omega (arith, ints); high = omega (arith, ints) }

-- so can a length from 1 on
size-of : (n : ℕ) → 1 ≤ n → n ≤ 1000000000000 → IsSize (pos n)
size-of n some small = record { low = omega (arith, ints); high = omega (arith, ints) }

-- a rectangle of such sides is one that a box draws
box-from : (x0 y0 x1 y1 : ℕ) (across : Sides x0 x1) (up : Sides y0 y1) → x1 ≤ 1000000000000 → y1 ≤ 1000000000000
    → IsBox (made (pos x0) (pos y0) (pos x1) (pos y1))
box-from x0 y0 x1 y1 across up near_x near_y =
    let right : x1 ≡ 4 * across.quarter + 4 * across.size = across.high_is in
    let top : y1 ≡ 4 * up.quarter + 4 * up.size = up.high_is in
    let some_x : 1 ≤ across.size = across.some in
    let some_y : 1 ≤ up.size = up.some in
    record {
      long = pos (2 * across.size);
      wide = pos (2 * up.size);
      cx = pos (2 * across.quarter + across.size);
      cy = pos (2 * up.quarter + up.size);
      drawn = same-extent
          (doubled (pos (2 * across.quarter + across.size)) -ℤ pos (2 * across.size)) (doubled (pos (2 * up.quarter + up.size)) -ℤ pos (2 * up.size))
          (doubled (pos (2 * across.quarter + across.size)) +ℤ pos (2 * across.size)) (doubled (pos (2 * up.quarter + up.size)) +ℤ pos (2 * up.size))
          (pos x0) (pos y0) (pos x1) (pos y1)
          (low-drawn x0 x1 across) (low-drawn y0 y1 up) (high-drawn x0 x1 across) (high-drawn y0 y1 up);
      long_size = size-of (2 * across.size) (omega arith) (omega arith);
      wide_size = size-of (2 * up.size) (omega arith) (omega arith);
      cx_near = near-of (2 * across.quarter + across.size) (omega arith);
      cy_near = near-of (2 * up.quarter + up.size) (omega arith);
    }

-- a rectangle in half units, of a multiple of four centimicrons each, is one that a box draws
pub box-whole : (centi x0 y0 x1 y1 : ℕ) → centi % 4 ≡ 0 → 4 ≤ centi → x0 < x1 → y0 < y1
    → x1 * centi ≤ 1000000000000 → y1 * centi ≤ 1000000000000 → IsBox (extent_of centi x0 y0 x1 y1)
box-whole centi x0 y0 x1 y1 whole fine wide high near_x near_y =
    box-from (x0 * centi) (y0 * centi) (x1 * centi) (y1 * centi) (sides-of centi x0 x1 whole fine wide) (sides-of centi y0 y1 whole fine high) near_x near_y

-- half units that are at most twice so many units
pub halves-near : (units centi x : ℕ) → units * centi ≤ 1000000000 → x ≤ 2 * units → x * centi ≤ 1000000000000
halves-near units centi x near below =
    let product : x * centi ≤ 2 * (units * centi) = subst (λ (n : ℕ). x * centi ≤ n) (mul_assoc 2 units centi) (mul-le-mul_right centi below) in
    omega arith
