use Rattle.std.proofs.Common.{suc, ◌/◌, Bool, true, false, ℤ, pos, negsuc, arith}
use Rattle.std.proofs.lemmas.Int.{ints}
use Rattle.std.specs.Prelude.{◌+ℤ◌, ◌≤ℤ◌, neg_ℤ, int_div}
use Rattle.geom_core.specs.Extent.{Extent}
use Rattle.geom_core.specs.Moving.{moved_shape, turn_at}
use Rattle.geom_core.specs.Reach.{IsExtentInReach, IsInReach, IsShapeInReach}
use Rattle.geom_core.specs.Turning.{moved}
use Rattle.geom_core.specs.declared.layout.Shape.{Shape}
use Rattle.geom_core.specs.declared.turn.Place.{Place}
use Rattle.cif_text.specs.Written.{middle}
use Rattle.cif_writer.specs.InReach.{IsPlaceInReach}
use Rattle.cif_writer.specs.LabelParts.{IsExtentInTwiceReach, IsInTwiceReach}

-- numbers within reach, negated and added
twice-sum : (a b : ℤ) → IsInReach a → IsInReach b → IsInTwiceReach (a +ℤ b)
twice-sum a b first second = record { low = omega (arith, ints); high = omega (arith, ints) }

negated-in-reach : (a : ℤ) → IsInReach a → IsInReach (neg_ℤ a)
negated-in-reach a near = record { low = omega (arith, ints); high = omega (arith, ints) }

pub reach-twice : (a : ℤ) → IsInReach a → IsInTwiceReach a
reach-twice a near = record { low = omega (arith, ints); high = omega (arith, ints) }

pub shape-twice : (e : Extent) → IsExtentInReach e → IsExtentInTwiceReach e
shape-twice e near = record { x0 = reach-twice e.x0 near.x0; y0 = reach-twice e.y0 near.y0; x1 = reach-twice e.x1 near.x1; y1 = reach-twice e.y1 near.y1 }

-- a rectangle within reach at a place within reach
moved-near : (dx dy : ℤ) (mirror : Bool) (e : Extent) → IsInReach dx → IsInReach dy → IsExtentInReach e
    → IsExtentInTwiceReach (moved (turn_at (record { dx = dx; dy = dy; mirror = mirror })) e)
moved-near dx dy true e across up near = record {
  x0 = twice-sum (neg_ℤ e.x1) dx (negated-in-reach e.x1 near.x1) across;
  y0 = twice-sum e.y0 dy near.y0 up;
  x1 = twice-sum (neg_ℤ e.x0) dx (negated-in-reach e.x0 near.x0) across;
  y1 = twice-sum e.y1 dy near.y1 up;
}
moved-near dx dy false e across up near = record {
  x0 = twice-sum e.x0 dx near.x0 across;
  y0 = twice-sum e.y0 dy near.y0 up;
  x1 = twice-sum e.x1 dx near.x1 across;
  y1 = twice-sum e.y1 dy near.y1 up;
}

pub placed-near : (place : Place) (s : Shape) → IsPlaceInReach place → IsShapeInReach s → IsExtentInTwiceReach (moved_shape (turn_at place) s).rect
placed-near place s at near = moved-near place.dx place.dy place.mirror s.rect at.across at.up near

-- a quarter of a number
quarter-in-reach : (z : ℤ) → negsuc 3999999999999999 ≤ℤ z → z ≤ℤ pos 4000000000000000 → IsInReach (int_div z (pos 4))
quarter-in-reach (pos n) low high = record { low = omega (arith, ints); high = omega (arith, ints) }
quarter-in-reach (negsuc n) low high = negated-in-reach (pos (suc n / 4)) (record { low = omega (arith, ints); high = omega (arith, ints) })

pub middle-in-reach : (low high : ℤ) → IsInTwiceReach low → IsInTwiceReach high → IsInReach (middle low high)
middle-in-reach low high first second = quarter-in-reach (low +ℤ high) (omega (arith, ints)) (omega (arith, ints))
