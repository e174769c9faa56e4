-- rows by the height at which they stand
use Rattle.std.specs.Prelude.{◌≡◌, ◌<◌, ◌↔◌, ℕ, ℤ, List, length, Option, Some, true}
use Rattle.std.specs.List.{slice_get, slice_index}
use Rattle.std.specs.BTreeMap.{BTreeMap, btree_map_len, get}
use Rattle.std.specs.Ordering.{int_cmp}
use Rattle.geom_core.specs.declared.layout.Shape.{Shape}
use Rattle.rule_check.specs.Narrow.{is_on}

-- rows by the heights of their lower edges, each with its number
abbrev pub Rows : Type 0
Rows = BTreeMap ℤ ℕ

abbrev pub row_at : Rows → ℤ → Option ℕ
row_at rows base = get int_cmp rows base

-- the numbers of rows are different, and below their count
pub record AreRows (rows : Rows) : Type 0 where
  pub once : (g h : ℤ) (n : ℕ) → row_at rows g ≡ Some n → row_at rows h ≡ Some n → g ≡ h
  pub below : (h : ℤ) (n : ℕ) → row_at rows h ≡ Some n → n < btree_map_len rows

-- a number for each shape: those of two shapes of the layer are equal exactly where they stand at the same height
pub record AreNumbersOf (layer : List ℕ) (shapes : List Shape) (numbers : List ℕ) : Type 0 where
  pub each : length numbers ≡ length shapes
  pub same : (i j : ℕ) (s t : Shape) → slice_get shapes i ≡ Some s → slice_get shapes j ≡ Some t → is_on layer s ≡ true → is_on layer t ≡ true
      → (slice_index numbers i ≡ slice_index numbers j) ↔ (s.rect.y0 ≡ t.rect.y0)
