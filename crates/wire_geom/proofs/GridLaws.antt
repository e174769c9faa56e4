use Rattle.std.proofs.Common.{ℕ, ◌+◌, ◌*◌, ◌-◌, ◌≤◌, ◌<◌, arith}
use Rattle.std.proofs.Math.Nat.{mul-le-mul_right}
use Rattle.tech_rules.specs.Rules.{RuleValues, ValidRules, pad}
use Rattle.wire_geom.specs.Boxes.{Box}
use Rattle.wire_geom.specs.Drawing.{Mask, on_horizontal, on_vertical, on_cut}
use Rattle.wire_geom.specs.Grid.{centre, line_at}
use Rattle.wire_geom.proofs.BoxLaws.{Clear, before, behind, under, over}
use Rattle.std_laws.proofs.Numbers.{product-step}

-- a rectangle of the grid, from column to column and from line to line
pub record Patch : Type 0 where
  pub from : ℕ
  pub to : ℕ
  pub low : ℕ
  pub high : ℕ

-- patches without a common point
pub data Parted (p q : Patch) : Type 0 where
  left_of : p.to < q.from → Parted p q
  right_of : q.to < p.from → Parted p q
  below_it : p.high < q.low → Parted p q
  above_it : q.high < p.low → Parted p q

-- the space of a layer, and how far its rectangles reach beyond their grid lines, in half units
abbrev pub space_of : RuleValues → Mask → ℕ
space_of r on_horizontal = r.horizontal.space
space_of r on_vertical = r.vertical.space
space_of r on_cut = r.cut.space

abbrev pub reach_of : RuleValues → Mask → ℕ
reach_of r on_horizontal = pad r
reach_of r on_vertical = pad r
reach_of r on_cut = r.cut.size

-- a patch with so many half units around it
abbrev pub halo : RuleValues → ℕ → ℕ → Patch → Box
halo r base size p = record {
  x0 = centre r p.from - size;
  y0 = line_at r base p.low - size;
  x1 = centre r p.to + size;
  y1 = line_at r base p.high + size;
}

-- the next column and the next line lie a pitch further
pub centre-step : (r : RuleValues) (a b : ℕ) → a < b → centre r a + 2 * r.grid.column ≤ centre r b
centre-step r a b h = omega (arith, product-step a b r.grid.column h)

pub line-step : (r : RuleValues) (base a b : ℕ) → a < b → line_at r base a + 2 * r.grid.track ≤ line_at r base b
line-step r base a b h = omega (arith, product-step a b r.grid.track h)

-- columns and lines in order
pub centre-order : (r : RuleValues) (a b : ℕ) → a ≤ b → centre r a ≤ centre r b
centre-order r a b h = omega (arith, mul-le-mul_right {m = a} {n = b} r.grid.column h)

pub line-order : (r : RuleValues) (base a b : ℕ) → a ≤ b → line_at r base a ≤ line_at r base b
line-order r base a b h = omega (arith, mul-le-mul_right {m = a} {n = b} r.grid.track h)

-- halos of patches without a common point, around each of which half a pitch is left
pub halo-clear : (r : RuleValues) (base size space : ℕ) (p q : Patch) → size + space ≤ r.grid.column → size + space ≤ r.grid.track
    → Parted p q → Clear (2 * space) (halo r base size p) (halo r base size q)
halo-clear r base size space p q c t (left_of h) = before (omega (arith, centre-step r p.to q.from h))
halo-clear r base size space p q c t (right_of h) = behind (omega (arith, centre-step r q.to p.from h))
halo-clear r base size space p q c t (below_it h) = under (omega (arith, line-step r base p.high q.low h))
halo-clear r base size space p q c t (above_it h) = over (omega (arith, line-step r base q.high p.low h))

-- on every layer
pub mask-clear : (r : RuleValues) → ValidRules r → (base : ℕ) (mask : Mask) (p q : Patch) → Parted p q
    → Clear (2 * space_of r mask) (halo r base (reach_of r mask) p) (halo r base (reach_of r mask) q)
mask-clear r valid base on_horizontal p q h = halo-clear r base (pad r) r.horizontal.space p q valid.column_horizontal valid.track_horizontal h
mask-clear r valid base on_vertical p q h = halo-clear r base (pad r) r.vertical.space p q valid.column_vertical valid.track_vertical h
mask-clear r valid base on_cut p q h = halo-clear r base r.cut.size r.cut.space p q valid.column_cut valid.track_cut h

-- half of the greatest width fits into half a column
pub reach-narrow : (r : RuleValues) → ValidRules r → (mask : Mask) → reach_of r mask ≤ r.grid.column
reach-narrow r valid on_horizontal = omega (arith, valid.column_horizontal)
reach-narrow r valid on_vertical = omega (arith, valid.column_vertical)
reach-narrow r valid on_cut = omega (arith, valid.column_cut)

-- so a halo lies in its columns
pub halo-columns : (r : RuleValues) (base size columns : ℕ) (p : Patch) → size ≤ r.grid.column → p.to < columns
    → (halo r base size p).x1 ≤ 2 * (columns * r.grid.column)
halo-columns r base size columns p narrow within = omega (arith, product-step p.to columns r.grid.column within)
