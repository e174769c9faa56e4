-- turns, as their four steps, and shapes under turns
use Rattle.std.specs.Prelude.{ℕ, zero, suc, ℤ, ◌+ℤ◌, neg_ℤ, Bool, true, false}
use Rattle.geom_core.specs.Extent.{Extent}

-- first x is negated where `flip` says so, then come the quarter turns, counter-clockwise, and then the offset
pub record Turning : Type 0 where
  pub flip : Bool
  pub quarters : ℕ
  pub dx : ℤ
  pub dy : ℤ

-- a rectangle of which x is negated, where the first argument says so
abbrev pub flipped : Bool → Extent → Extent
flipped false e = e
flipped true e = record { x0 = neg_ℤ e.x1; y0 = e.y0; x1 = neg_ℤ e.x0; y1 = e.y1 }

-- a rectangle after a quarter turn, counter-clockwise, which brings (x, y) to (-y, x)
abbrev pub quarter_turned : Extent → Extent
quarter_turned e = record { x0 = neg_ℤ e.y1; y0 = e.x0; x1 = neg_ℤ e.y0; y1 = e.x1 }

abbrev pub quarters_turned : ℕ → Extent → Extent
quarters_turned zero e = e
quarters_turned (suc k) e = quarter_turned (quarters_turned k e)

abbrev pub shifted : ℤ → ℤ → Extent → Extent
shifted dx dy e = record { x0 = e.x0 +ℤ dx; y0 = e.y0 +ℤ dy; x1 = e.x1 +ℤ dx; y1 = e.y1 +ℤ dy }

-- a rectangle under a turn
abbrev pub moved : Turning → Extent → Extent
moved t e = shifted t.dx t.dy (quarters_turned t.quarters (flipped t.flip e))
