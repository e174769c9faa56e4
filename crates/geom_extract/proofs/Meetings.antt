use Rattle.std.proofs.Common.{◌≡◌, ◌+◌, ◌*◌, ◌≤◌, ◌≤ℤ◌, ◌+ℤ◌, ℕ, zero, suc, pos, refl, ap, sym, ◌∙◌, arith}
use Rattle.std.proofs.lemmas.Int.{ints}
use Rattle.geom_core.specs.Extent.{Extent}
use Rattle.geom_core.specs.Reach.{IsExtentInReach}
use Rattle.geom_core.specs.Rectangles.{Meet}
use Rattle.close_rects.specs.Planes.{plane_height}
use Rattle.close_rects.proofs.PlaneLaws.{one-plane}
use Rattle.geom_extract.specs.Planes.{number_of, raised, tie_at}
use Rattle.geom_extract.specs.declared.plane.Plane.{Plane}
use Rattle.geom_extract.specs.declared.plane.Plane.TheVariants.{Horizontal, Vertical, Cut, Other}

-- the layer of a number
abbrev layer_at : ℕ → Plane
layer_at zero = Horizontal
layer_at (suc zero) = Vertical
layer_at (suc (suc zero)) = Cut
layer_at (suc (suc (suc n))) = Other

layer-number : (p : Plane) → (layer_at (number_of p) ≡ p) × (number_of p ≤ 3)
layer-number Horizontal = (refl, omega arith)
layer-number Vertical = (refl, omega arith)
layer-number Cut = (refl, omega arith)
layer-number Other = (refl, omega arith)

-- rectangles that meet are of one layer
pub same-plane : (p q : Plane) (a b : Extent) → IsExtentInReach a → IsExtentInReach b → Meet (raised p a) (raised q b) → p ≡ q
same-plane p q a b first second met =
    sym (layer-number p).0 ∙ ap layer_at (one-plane (number_of p) (number_of q) a b first second met) ∙ (layer-number q).0

-- no rectangle of a layer reaches up to the ties
pub no-tie : (p : Plane) (n : ℕ) (a : Extent) → IsExtentInReach a → Meet (raised p a) (tie_at n) → ⊥
no-tie p n a first met =
    let high : pos 16000000000000000 ≤ℤ (a.y1 +ℤ plane_height (number_of p)) = met.high in
    let top : a.y1 ≤ℤ pos 1000000000000000 = first.y1.high in
    omega (arith, ints, (layer-number p).1)

pub Meet-sym : (a b : Extent) → Meet a b → Meet b a
Meet-sym a b met = record { left = met.right; right = met.left; low = met.high; high = met.low }

pub one-tie : (m n : ℕ) → Meet (tie_at m) (tie_at n) → m ≡ n
one-tie m n met =
    let left : pos (2 * m) ≤ℤ pos (2 * n + 1) = met.left in
    let right : pos (2 * n) ≤ℤ pos (2 * m + 1) = met.right in
    omega (arith, ints)

pub own-tie : (n : ℕ) → Meet (tie_at n) (tie_at n)
own-tie n = record { left = omega (arith, ints); right = omega (arith, ints); low = omega (arith, ints); high = omega (arith, ints) }
