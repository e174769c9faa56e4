use Rattle.std.proofs.Common.{◌≡◌, ◌<◌, ◌≤◌, ◌≤ℤ◌, ◌+ℤ◌, ◌-ℤ◌, ℕ, ℤ, pos, negsuc, Bool, true, false, eqb, if◌then◌else◌, ◌&&◌, refl, ap, subst, inl, inr, arith}
use Rattle.std.specs.Prelude.{int_lt}
use Rattle.std.proofs.lemmas.Bool.{and_right, cases_order, eq-eqb, ne_eqb}
use Rattle.std.proofs.lemmas.Int.{ints}
use Rattle.geom_core.specs.Extent.{Extent}
use Rattle.geom_core.specs.Reach.{IsExtentInReach, IsExtentInWideReach}
use Rattle.geom_core.specs.Rectangles.{Meet, gap, gap_between}
use Rattle.close_rects.specs.ClosePairs.{is_close}
use Rattle.close_rects.specs.Planes.{in_plane, plane_height}
use Rattle.std_laws.proofs.Integers.{lt-raised}

-- rectangles of one plane meet as they do without it
pub Meet-in_plane : (p : ℕ) (a b : Extent) → Meet a b → Meet (in_plane p a) (in_plane p b)
Meet-in_plane p a b met = record { left = met.left; right = met.right; low = omega (arith, ints); high = omega (arith, ints) }

pub in_plane-Meet : (p : ℕ) (a b : Extent) → Meet (in_plane p a) (in_plane p b) → Meet a b
in_plane-Meet p a b met =
    let low : (a.y0 +ℤ plane_height p) ≤ℤ (b.y1 +ℤ plane_height p) = met.low in
    let high : (b.y0 +ℤ plane_height p) ≤ℤ (a.y1 +ℤ plane_height p) = met.high in
    record { left = met.left; right = met.right; low = omega (arith, ints); high = omega (arith, ints) }

-- a rectangle of a lower plane ends far below one of a higher plane
far-below : (p q : ℕ) (a b : Extent) → p < q → IsExtentInReach a → IsExtentInReach b
    → ((a.y1 +ℤ plane_height p) +ℤ pos 2000000) ≤ℤ (b.y0 +ℤ plane_height q)
far-below p q a b less first second =
    let top : a.y1 ≤ℤ pos 1000000000000000 = first.y1.high in
    let bottom : negsuc 999999999999999 ≤ℤ b.y0 = second.y0.low in
    omega (arith, ints)

-- rectangles that meet are of one plane
pub one-plane : (p q : ℕ) (a b : Extent) → IsExtentInReach a → IsExtentInReach b → Meet (in_plane p a) (in_plane q b) → p ≡ q
one-plane p q a b first second met = elim (cases_order p q) [
  | inl same ↦ same
  | inr (inl less) ↦
      let far = far-below p q a b less first second in
      let high : (b.y0 +ℤ plane_height q) ≤ℤ (a.y1 +ℤ plane_height p) = met.high in
      absurd (omega (arith, ints))
  | inr (inr more) ↦
      let far = far-below q p b a more second first in
      let low : (a.y0 +ℤ plane_height p) ≤ℤ (b.y1 +ℤ plane_height q) = met.low in
      absurd (omega (arith, ints))
]

-- stretches that are raised alike keep their gap
gap_between-raised : (low high other_low other_high by : ℤ)
    → gap_between (low +ℤ by) (high +ℤ by) (other_low +ℤ by) (other_high +ℤ by) ≡ gap_between low high other_low other_high
gap_between-raised low high other_low other_high by =
    rw (lt-raised low other_low by, lt-raised other_high high by) (picked (int_lt low other_low) (int_lt other_high high))
  where
    picked : (s t : Bool)
        → (if s then other_low +ℤ by else low +ℤ by) -ℤ (if t then other_high +ℤ by else high +ℤ by)
        ≡ (if s then other_low else low) -ℤ (if t then other_high else high)
    picked true true = omega (arith, ints)
    picked true false = omega (arith, ints)
    picked false true = omega (arith, ints)
    picked false false = omega (arith, ints)

-- stretches that lie far apart have a wide gap
wide-gap : (low high other_low other_high reach : ℤ) → reach ≤ℤ pos 2000000 → (high +ℤ pos 2000000) ≤ℤ other_low
    → int_lt (gap_between low high other_low other_high) reach ≡ false
wide-gap low high other_low other_high reach short apart = grind (arith, ints)

wide-gap-below : (low high other_low other_high reach : ℤ) → reach ≤ℤ pos 2000000 → (other_high +ℤ pos 2000000) ≤ℤ low
    → int_lt (gap_between low high other_low other_high) reach ≡ false
wide-gap-below low high other_low other_high reach short apart = grind (arith, ints)

-- rectangles in planes are close where they are of one plane and close without it
pub is_close-planes : (p q : ℕ) (reach : ℤ) (a b : Extent) → reach ≤ℤ pos 2000000 → IsExtentInReach a → IsExtentInReach b
    → is_close reach (in_plane p a) (in_plane q b) ≡ (eqb q p && is_close reach a b)
is_close-planes p q reach a b short first second = elim (cases_order p q) [
  | inl same ↦ subst (λ (k : ℕ). is_close reach (in_plane p a) (in_plane k b) ≡ (eqb k p && is_close reach a b)) same
      (rw (eq-eqb p p refl) (ap (λ g. int_lt (gap a b).0 reach && int_lt g reach) (gap_between-raised a.y0 a.y1 b.y0 b.y1 (plane_height p))))
  | inr (inl less) ↦
      let far = far-below p q a b less first second in
      rw (ne_eqb q p (omega arith)) (and_right _ _ (wide-gap (a.y0 +ℤ plane_height p) (a.y1 +ℤ plane_height p) _ _ reach short far))
  | inr (inr more) ↦
      let far = far-below q p b a more second first in
      rw (ne_eqb q p (omega arith)) (and_right _ _ (wide-gap-below _ _ (b.y0 +ℤ plane_height q) (b.y1 +ℤ plane_height q) reach short far))
]

-- the first three planes lie within wide reach
pub in_plane-wide : (p : ℕ) (e : Extent) → p ≤ 2 → IsExtentInReach e → IsExtentInWideReach (in_plane p e)
in_plane-wide p e few reach = record {
  left = omega (arith, ints, reach.x0.low);
  low = omega (arith, ints, reach.y0.low);
  right = omega (arith, ints, reach.x1.high);
  high = omega (arith, ints, reach.y1.high);
}
