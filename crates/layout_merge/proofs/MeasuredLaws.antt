use Rattle.std.proofs.Common.{◌≡◌, ◌∙◌, ◌<◌, ◌≤◌, ◌+◌, ◌^◌, ℕ, suc, List, [], ◌∷◌, ◌++◌, All, length, length-append, ap, refl, subst, sym, arith}
use Rattle.std.specs.List.{AllByRecursion, flat_map}
use Rattle.std_laws.proofs.Counts.{filter-short}
use Rattle.std_laws.proofs.Every.{every-all, every-append, every-filtered}
use Rattle.geom_core.specs.Reach.{IsShapeInReach}
use Rattle.geom_core.specs.declared.layout.Cell.{Cell}
use Rattle.geom_core.specs.declared.layout.Layout.{Layout}
use Rattle.geom_core.specs.declared.layout.Shape.{Shape}
use Rattle.tech_rules.specs.Rules.{RuleValues, ValidRules}
use Rattle.design_model.specs.Netlist.{IsNetlist, Netlist}
use Rattle.layout_check.specs.Measured.{IsCellAmong, IsMeasured}
use Rattle.layout_merge.specs.Areas.{merged_shapes}
use Rattle.layout_merge.specs.Drawn.{drawn, is_known, known_cells}
use Rattle.layout_merge.specs.MergedLayout.{outside, placed}
use Rattle.layout_merge.specs.Near.{IsCellNear, IsMergeable}
use Rattle.layout_merge.proofs.ReachLaws.{all-reach, merged-reach, one-by-one, outside-reach}

placed-length : (shapes : Cell → List Shape) (n : ℕ) (cells : List Cell) → length (placed shapes n cells) ≡ length cells
placed-length shapes n [] = refl
placed-length shapes n (c ∷ cs) = ap suc (placed-length shapes (n + length (shapes c)) cs)

-- each cell's shapes are among all
placed-among : (shapes : Cell → List Shape) (few n all : ℕ) (cells : List Cell) → AllByRecursion (IsCellAmong few) cells → n + length (flat_map shapes cells) ≤ all
    → AllByRecursion (IsCellAmong all) (placed shapes n cells)
placed-among shapes few n all [] among within = tt
placed-among shapes few n all (c ∷ cs) among within =
    let long = length-append (shapes c) (flat_map shapes cs) in (
      record { last = omega (arith, long); quarters = among.0.quarters; across = among.0.across; up = among.0.up },
      placed-among shapes few (n + length (shapes c)) all cs among.1 (omega (arith, long)),
    )

-- a merged layout can be checked
pub measured : (r : RuleValues) (d : Netlist) (l : Layout) (cells : List Cell) (shapes : List Shape) → ValidRules r → IsNetlist d → IsMergeable l
    → cells ≡ placed (drawn r d l) 0 (known_cells d l)
    → shapes ≡ flat_map (drawn r d l) (known_cells d l) ++ merged_shapes r (outside 0 (known_cells d l) l.shapes)
    → length shapes < 2 ^ 32 → IsMeasured (record { cells = cells; shapes = shapes })
measured r d l cells shapes valid good is cells_are shapes_are few =
    let known = known_cells d l in
    let own : AllByRecursion IsShapeInReach l.shapes = one-by-one IsShapeInReach l.shapes is.measured.shapes in
    let fewer : length known ≤ length l.cells = filter-short (is_known d) l.cells in
    let before : length l.cells < 2 ^ 32 = is.measured.few_cells in
    let long = ap length shapes_are ∙ length-append (flat_map (drawn r d l) known) (merged_shapes r (outside 0 known l.shapes)) in
    record {
      few_cells = omega (arith, ap length cells_are ∙ placed-length (drawn r d l) 0 known);
      few_shapes = few;
      cells = subst (λ (cs : List Cell). All (IsCellAmong (length shapes)) cs) (sym cells_are) (every-all _ _
          (placed-among (drawn r d l) (length l.shapes) 0 (length shapes) known (every-filtered _ (is_known d) l.cells (one-by-one _ l.cells is.measured.cells)) (omega (arith, long))));
      shapes = subst (λ (ss : List Shape). All IsShapeInReach ss) (sym shapes_are) (every-all _ _
          (every-append IsShapeInReach _ _
          (all-reach r d l valid good own known (every-filtered IsCellNear (is_known d) l.cells (one-by-one IsCellNear l.cells is.near)))
          (merged-reach r _ (outside-reach 0 known l.shapes own))));
    }
