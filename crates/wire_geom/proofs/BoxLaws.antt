use Rattle.std.proofs.Common.{ℕ, ◌+◌, ◌≤◌, arith}
use Rattle.wire_geom.specs.Boxes.{Box}

-- a gap of at least d in x or in y
pub data Clear (d : ℕ) (a b : Box) : Type 0 where
  before : a.x1 + d ≤ b.x0 → Clear d a b
  behind : b.x1 + d ≤ a.x0 → Clear d a b
  under : a.y1 + d ≤ b.y0 → Clear d a b
  over : b.y1 + d ≤ a.y0 → Clear d a b

-- a box lies in another
pub record Inside (a b : Box) : Type 0 where
  pub left : b.x0 ≤ a.x0
  pub low : b.y0 ≤ a.y0
  pub right : a.x1 ≤ b.x1
  pub high : a.y1 ≤ b.y1

-- a point of a box
pub record Holds (b : Box) (x y : ℕ) : Type 0 where
  pub left : b.x0 ≤ x
  pub low : b.y0 ≤ y
  pub right : x ≤ b.x1
  pub high : y ≤ b.y1

-- boxes in boxes that lie apart lie apart
pub Clear-inside : (d : ℕ) (a b outer_a outer_b : Box) → Inside a outer_a → Inside b outer_b → Clear d outer_a outer_b → Clear d a b
Clear-inside d a b outer_a outer_b in_a in_b (before h) = before (omega (arith, in_a.right, in_b.left))
Clear-inside d a b outer_a outer_b in_a in_b (behind h) = behind (omega (arith, in_b.right, in_a.left))
Clear-inside d a b outer_a outer_b in_a in_b (under h) = under (omega (arith, in_a.high, in_b.low))
Clear-inside d a b outer_a outer_b in_a in_b (over h) = over (omega (arith, in_b.high, in_a.low))
