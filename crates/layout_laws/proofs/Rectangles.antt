use Rattle.std.proofs.Common.{ℕ, ◌<◌, arith}
use Rattle.std.proofs.lemmas.Int.{ints}
use Rattle.std.specs.Prelude.{pos}
use Rattle.geom_core.specs.Extent.{Extent}
use Rattle.geom_core.specs.Rectangles.{HasSides, IsSquare, Encloses, grown, Meet, Apart, left_of, right_of, under, above}

-- rectangles meet in either order
pub meet-turned : (a b : Extent) → Meet a b → Meet b a
meet-turned a b m = record { left = m.right; right = m.left; low = m.high; high = m.low }

-- rectangles with a gap between them do not meet
pub apart-parted : (d : ℕ) (a b : Extent) → 0 < d → Apart (pos d) a b → Meet a b → ⊥
apart-parted d a b some (left_of e) m = omega (arith, ints)
apart-parted d a b some (right_of e) m = omega (arith, ints)
apart-parted d a b some (under e) m = omega (arith, ints)
apart-parted d a b some (above e) m = omega (arith, ints)

-- a rectangle with sides meets itself
pub sides-meet : (d : ℕ) (a : Extent) → HasSides (pos d) a → Meet a a
sides-meet d a s = record { left = omega (arith, ints, s.across); right = omega (arith, ints, s.across); low = omega (arith, ints, s.up); high = omega (arith, ints, s.up) }

-- a square has sides
pub square-sides : (d : ℕ) (a : Extent) → IsSquare (pos d) a → HasSides (pos d) a
square-sides d a s = record { across = omega (arith, ints, s.across); up = omega (arith, ints, s.up) }

-- what meets a rectangle meets another that encloses it with a margin
pub cover-meets : (d : ℕ) (cover inner other : Extent) → Encloses cover (grown (pos d) inner) → Meet inner other → Meet cover other
cover-meets d cover inner other e m = record {
  left = omega (arith, ints, e.left, m.left);
  right = omega (arith, ints, e.right, m.right);
  low = omega (arith, ints, e.low, m.low);
  high = omega (arith, ints, e.high, m.high);
}
