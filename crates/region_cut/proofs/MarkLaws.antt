use Rattle.std.proofs.Common.{◌≡◌, ◌∙◌, ◌<◌, ◌+◌, ◌-◌, ℕ, zero, suc, replicate, ℤ, Bool, true, false, ◌||◌, List, [], ◌∷◌, length, ap, refl, sym, subst, arith}
use Rattle.std.proofs.lemmas.List.{length-replicate}
use Rattle.std.specs.List.{list_any}
use Rattle.std.specs.Prelude.{slice_index_or}
use Rattle.geom_core.specs.Extent.{Extent}
use Rattle.region_cut.specs.Ceilings.{AreUnder}
use Rattle.region_cut.specs.Covered.{covers, grid_over, is_covered, sides_across, sides_up}
use Rattle.region_cut.specs.Grids.{columns, line}

-- one rectangle more
pub mark-step : (p : Extent → Bool) (a b : Bool) (r : Extent) (rest later : List Extent) (all : Bool) → rest ≡ r ∷ later → b ≡ (p r || a) → (list_any p rest || a) ≡ all
    → (list_any p later || b) ≡ all
mark-step p a b r rest later all is more was =
    ap (λ t. list_any p later || t) more ∙ turned (list_any p later) (p r) a ∙ subst (λ (l : List Extent). (list_any p l || a) ≡ all) is was
  where
    turned : (q s t : Bool) → (q || (s || t)) ≡ ((s || q) || t)
    turned true true t = refl
    turned true false t = refl
    turned false true t = refl
    turned false false t = refl

-- no rectangle more
pub mark-end : (p : Extent → Bool) (a all : Bool) (rest : List Extent) → length rest ≡ 0 → (list_any p rest || a) ≡ all → a ≡ all
mark-end p a all [] none was = was
mark-end p a all (r ∷ rest) none was = absurd (omega arith)

-- what it says that a cell is covered
pub covered-is : (rects : List Extent) (s column : ℕ)
    → list_any (covers (line (sides_across rects) column) (line (sides_across rects) (column + 1)) (line (sides_up rects) s) (line (sides_up rects) (s + 1))) rects ≡ is_covered rects s column
unfolding is_covered
covered-is rects s column = refl

-- the cells of a strip above the lowest line that some rectangle marks are those that are covered
pub under-marked : (rects : List Extent) (strip : ℕ) (cells new : List Bool) (across up : List ℤ) (low high : ℤ) → cells ≡ replicate (columns (grid_over rects)) false → 0 < strip
    → across ≡ sides_across rects → up ≡ sides_up rects → low ≡ line up (strip - 1) → high ≡ line up strip → length new ≡ length cells
    → ((column : ℕ) → column < length cells → slice_index_or new column false ≡ list_any (covers (line across column) (line across (column + 1)) low high) rects)
    → AreUnder (is_covered rects) (columns (grid_over rects)) strip new
under-marked rects strip cells new across up low high none some crossed raised from to long marks = by strip refl
  where
    width : length cells ≡ columns (grid_over rects)
    width = ap length none ∙ length-replicate (columns (grid_over rects)) false

    by : (s : ℕ) → strip ≡ s → AreUnder (is_covered rects) (columns (grid_over rects)) strip new
    by zero is = absurd (omega arith)
    by (suc s) is =
        let under : strip - 1 ≡ s = omega arith in
        let over : strip ≡ s + 1 = omega arith in
        subst (λ k. AreUnder (is_covered rects) (columns (grid_over rects)) k new) (sym is) (record {
          long = long ∙ width;
          each = λ column within.
              marks column (omega (arith, width))
              ∙ ap (λ (l : List ℤ). list_any (covers (line l column) (line l (column + 1)) low high) rects) crossed
              ∙ ap (λ z. list_any (covers (line (sides_across rects) column) (line (sides_across rects) (column + 1)) z high) rects) (from ∙ ap (λ (l : List ℤ). line l (strip - 1)) raised ∙ ap (line (sides_up rects)) under)
              ∙ ap (λ z. list_any (covers (line (sides_across rects) column) (line (sides_across rects) (column + 1)) (line (sides_up rects) s) z) rects) (to ∙ ap (λ (l : List ℤ). line l strip) raised ∙ ap (line (sides_up rects)) over)
              ∙ covered-is rects s column;
        })
