use Rattle.std.proofs.Common.{◌≡◌, ℕ, ℤ, List, [], ◌∷◌, ◌++◌, true, false, not, Option, None, Some, map, refl, ap, ap₂, subst, sym, ◌∙◌}
use Rattle.std.specs.Prelude.{Contains}
use Rattle.std.specs.List.{find, list_any, slice_get}
use Rattle.std.specs.Option.{option_map}
use Rattle.std.specs.Ordering.{int_eq}
use Rattle.std.specs.Str.{bytes_eq}
use Rattle.std.proofs.lemmas.Bool.{and_from, and_parts, eq-eqb, eqb-true, not-false}
use Rattle.std.proofs.lemmas.Bool.Decides.{Decides-int_eq}
use Rattle.std.proofs.lemmas.List.Sorted.{list_any-IsPermutation}
use Rattle.std.proofs.lemmas.Map.Keys.{IsDistinct-IsPermutation}
use Rattle.std.proofs.lemmas.Option.{slice_get-map}
use Rattle.list_facts.proofs.Different.{place-get}
use Rattle.geom_core.specs.Extent.{Extent}
use Rattle.geom_core.specs.Moving.{moved_shape}
use Rattle.geom_core.specs.declared.layout.Cell.{Cell}
use Rattle.geom_core.specs.declared.layout.Layout.{Layout}
use Rattle.geom_core.specs.declared.layout.Shape.{Shape}
use Rattle.tech_rules.specs.Rules.{RuleValues}
use Rattle.design_model.specs.CellsMatch.{CellsMatch, IsCopyOf, cell_names, instance_names, shapes_of}
use Rattle.design_model.specs.Drawing.{drawing_of}
use Rattle.design_model.specs.Netlist.{IsNetlist, Netlist}
use Rattle.design_model.specs.declared.design.CellKind.{CellKind}
use Rattle.design_model.specs.declared.design.Inst.{Inst}
use Rattle.rule_check.specs.Failing.{failing}
use Rattle.rule_check.proofs.Laws.{failing-none}
use Rattle.layout_check.specs.CellFaults.{are_shapes, doubled, is_copy_for, is_copy_of, is_copy_of_kind, is_extent, is_shape, misdrawn, missing, strange}
use Rattle.layout_check.specs.Findings.{cell_findings}
use Rattle.layout_check.specs.declared.finding.Finding.TheVariants.{Missing, Doubled, Strange, Drawing}
use Rattle.layout_check.proofs.Repeats.{different-none, none-repeated}
use Rattle.layout_check.proofs.SameMembers.{same-members}
use Rattle.std_laws.proofs.Searches.{any-get}
use Rattle.std_laws.proofs.Members.{contains-get, find-member, find-passes, find-some, get-contains}
use Rattle.std_laws.proofs.Bytes.{bytes_one, bytes_same, bytes-flips}
use Rattle.std_laws.proofs.Slices.{both-empty}
use Rattle.std_laws.proofs.Images.{none-mapped}

-- tests of rectangles and shapes
true-extent : (e f : Extent) → is_extent e f ≡ true → e ≡ f
true-extent e f is =
    let both = and_parts _ _ is in
    let first = and_parts (int_eq e.x0 f.x0) (int_eq e.y0 f.y0) both.0 in
    let second = and_parts (int_eq e.x1 f.x1) (int_eq e.y1 f.y1) both.1 in
    let x0 : e.x0 ≡ f.x0 = (Decides-int_eq e.x0 f.x0).0 first.0 in
    let y0 : e.y0 ≡ f.y0 = (Decides-int_eq e.y0 f.y0).0 first.1 in
    let x1 : e.x1 ≡ f.x1 = (Decides-int_eq e.x1 f.x1).0 second.0 in
    let y1 : e.y1 ≡ f.y1 = (Decides-int_eq e.y1 f.y1).0 second.1 in
    ap₂ (λ (x y : ℤ). extent x y e.x1 e.y1) x0 y0 ∙ ap₂ (λ (x y : ℤ). extent f.x0 f.y0 x y) x1 y1
  where
    extent : ℤ → ℤ → ℤ → ℤ → Extent
    extent x0 y0 x1 y1 = record { x0 = x0; y0 = y0; x1 = x1; y1 = y1 }

own-extent : (e : Extent) → is_extent e e ≡ true
own-extent e =
    and_from _ _ (and_from _ _ ((Decides-int_eq e.x0 e.x0).1 refl) ((Decides-int_eq e.y0 e.y0).1 refl))
    (and_from _ _ ((Decides-int_eq e.x1 e.x1).1 refl) ((Decides-int_eq e.y1 e.y1).1 refl))

true-shape : (s t : Shape) → is_shape s t ≡ true → s ≡ t
true-shape s t is =
    let both = and_parts (bytes_eq s.layer t.layer) (is_extent s.rect t.rect) is in
    ap₂ shape (bytes_one s.layer t.layer both.0) (true-extent s.rect t.rect both.1)
  where
    shape : List ℕ → Extent → Shape
    shape layer rect = record { layer = layer; rect = rect }

own-shape : (s : Shape) → is_shape s s ≡ true
own-shape s = and_from _ _ (bytes_same s.layer) (own-extent s.rect)

pub true-shapes : (xs ys : List Shape) → are_shapes xs ys ≡ true → xs ≡ ys
true-shapes [] [] is = refl
true-shapes [] (t ∷ ts) is = let never : ⊥ = cc in absurd never
true-shapes (s ∷ ss) [] is = let never : ⊥ = cc in absurd never
true-shapes (s ∷ ss) (t ∷ ts) is =
    let both = and_parts (is_shape s t) (are_shapes ss ts) is in
    ap₂ (λ (x : Shape) (xs : List Shape). x ∷ xs) (true-shape s t both.0) (true-shapes ss ts both.1)

own-shapes : (xs : List Shape) → are_shapes xs xs ≡ true
own-shapes [] = refl
own-shapes (s ∷ ss) = and_from _ _ (own-shape s) (own-shapes ss)

-- whether a cell is a copy of a kind
true-copy : (r : RuleValues) (l : Layout) (kind : CellKind) (cell : Cell) → is_copy_of r l kind cell ≡ true
    → IsCopyOf r l kind cell
true-copy r l kind cell is =
    let both = and_parts _ (are_shapes (shapes_of l cell) (map (moved_shape cell.turn) (drawing_of r kind))) is in
    let named = and_parts (bytes_eq cell.symbol kind.name) _ both.0 in
    record {
      symbol = bytes_one cell.symbol kind.name named.0;
      upright = eqb-true cell.turn.quarters 0 named.1;
      shapes = true-shapes (shapes_of l cell) (map (moved_shape cell.turn) (drawing_of r kind)) both.1;
    }

copy-true : (r : RuleValues) (l : Layout) (kind : CellKind) (cell : Cell) → IsCopyOf r l kind cell
    → is_copy_of r l kind cell ≡ true
copy-true r l kind cell copy =
    and_from _ _
    (and_from _ _ (subst (λ (name : List ℕ). bytes_eq cell.symbol name ≡ true) copy.symbol (bytes_same cell.symbol)) (eq-eqb cell.turn.quarters 0 copy.upright))
    (subst (λ (shapes : List Shape). are_shapes (shapes_of l cell) shapes ≡ true) copy.shapes (own-shapes (shapes_of l cell)))

-- the instance of a name is found by it
find-one : (d : Netlist) (i : Inst) (name : List ℕ) → IsNetlist d → Contains d.instances i → name ≡ i.name
    → find (λ (j : Inst). bytes_eq j.name name) d.instances ≡ Some i
find-one d i name good among named =
    let found = find-some (λ (j : Inst). bytes_eq j.name name) d.instances i among (subst (λ (n : List ℕ). bytes_eq i.name n ≡ true) (sym named) (bytes_same i.name)) in
    let passes = find-passes (λ (j : Inst). bytes_eq j.name name) d.instances found.0 found.1 in
    let other : Contains d.instances found.0 = passes.1 in
    let first : slice_get d.instances among.0 ≡ Some i = contains-get d.instances i among in
    let second : slice_get d.instances other.0 ≡ Some found.0 = contains-get d.instances found.0 other in
    let at_first : slice_get (instance_names d) among.0 ≡ Some i.name =
    slice_get-map (λ (j : Inst). j.name) d.instances among.0 ∙ ap (option_map (λ (j : Inst). j.name)) first in
    let at_second : slice_get (instance_names d) other.0 ≡ Some i.name =
    slice_get-map (λ (j : Inst). j.name) d.instances other.0 ∙ ap (option_map (λ (j : Inst). j.name)) second
    ∙ ap (λ (n : List ℕ). Some n) (bytes_one found.0.name name passes.0 ∙ named) in
    let place : among.0 ≡ other.0 =
    sym (place-get (instance_names d) among.0 i.name good.different_instances at_first) ∙ place-get (instance_names d) other.0 i.name good.different_instances at_second in
    found.1 ∙ sym second ∙ ap (slice_get d.instances) (sym place) ∙ first

-- no cell is drawn otherwise just where each is a copy
abbrev pub AreCopies : RuleValues → Netlist → Layout → Type 0
AreCopies r d l = (cell : Cell) (i : Inst) (kind : CellKind) → Contains l.cells cell → Contains d.instances i → cell.name ≡ i.name
    → slice_get d.kinds i.kind ≡ Some kind → IsCopyOf r l kind cell

none-misdrawn : (r : RuleValues) (d : Netlist) (l : Layout) → IsNetlist d → misdrawn r d l ≡ [] → AreCopies r d l
none-misdrawn r d l good none cell i kind in_cells in_instances named is_kind =
    let does : not (is_copy_for r d l (find (λ (j : Inst). bytes_eq j.name cell.name) d.instances) cell) ≡ false =
    (failing-none (λ (c : Cell). not (is_copy_for r d l (find (λ (j : Inst). bytes_eq j.name c.name) d.instances) c)) l.cells).0 none
    in_cells.0 cell (contains-get l.cells cell in_cells) in
    true-copy r l kind cell
    (sym (ap (λ (o : Option Inst). is_copy_for r d l o cell) (find-one d i cell.name good in_instances named) ∙ ap (λ (o : Option CellKind). is_copy_of_kind r d l o cell) is_kind)
    ∙ not-false _ does)

copies-none : (r : RuleValues) (d : Netlist) (l : Layout) → AreCopies r d l → misdrawn r d l ≡ []
copies-none r d l copies =
    (failing-none (λ (c : Cell). not (is_copy_for r d l (find (λ (j : Inst). bytes_eq j.name c.name) d.instances) c)) l.cells).1
    (λ k cell is. ap not (by cell (get-contains l.cells k cell is) (find (λ (j : Inst). bytes_eq j.name cell.name) d.instances) refl))
  where
    by_kind : (cell : Cell) (i : Inst) → Contains l.cells cell → Contains d.instances i → cell.name ≡ i.name → (o : Option CellKind)
        → slice_get d.kinds i.kind ≡ o → is_copy_of_kind r d l o cell ≡ true
    by_kind cell i in_cells in_instances named None is = refl
    by_kind cell i in_cells in_instances named (Some kind) is = copy-true r l kind cell (copies cell i kind in_cells in_instances named is)

    by : (cell : Cell) → Contains l.cells cell → (o : Option Inst) → find (λ (j : Inst). bytes_eq j.name cell.name) d.instances ≡ o
        → is_copy_for r d l o cell ≡ true
    by cell in_cells None is = refl
    by cell in_cells (Some i) is =
        let passes = find-passes (λ (j : Inst). bytes_eq j.name cell.name) d.instances i is in
        by_kind cell i in_cells passes.1 (sym (bytes_one i.name cell.name passes.0)) (slice_get d.kinds i.kind) refl

abbrev failing_names : List (List ℕ) → List (List ℕ) → List ℕ
failing_names names others = failing (λ (name : List ℕ). not (list_any (bytes_eq name) others)) names

-- where none of some names is missing among others, the others have them all as members
none-missing : (names others : List (List ℕ)) → failing_names names others ≡ [] → (x : List ℕ) → Contains names x → Contains others x
none-missing names others none x among =
    let does : not (list_any (bytes_eq x) others) ≡ false =
    (failing-none (λ (name : List ℕ). not (list_any (bytes_eq name) others)) names).0 none among.0 x (contains-get names x among) in
    let found = find-member (bytes_eq x) others (not-false (list_any (bytes_eq x) others) does) in
    subst (λ (y : List ℕ). Contains others y) (sym (bytes_one x found.0 found.2)) found.1

members-none : (names others : List (List ℕ)) → ((k : ℕ) (x : List ℕ) → slice_get names k ≡ Some x → list_any (bytes_eq x) others ≡ true) → failing_names names others ≡ []
members-none names others all =
    (failing-none (λ (name : List ℕ). not (list_any (bytes_eq name) others)) names).1 (λ k x is. ap not (all k x is))

-- nothing is found of cells just where they match the design
pub cells-match : (r : RuleValues) (d : Netlist) (l : Layout) → IsNetlist d → cell_findings r d l ≡ [] → CellsMatch r d l
cells-match r d l good none =
    let last = both-empty _ (map Drawing (misdrawn r d l)) none in
    let third = both-empty _ (map Strange (strange d l)) last.0 in
    let second = both-empty (map Missing (missing d l)) (map (λ (p : ℕ × ℕ). Doubled p.0 p.1) (doubled l)) third.0 in
    let none_missing : missing d l ≡ [] = none-mapped Missing (missing d l) second.0 in
    let none_doubled : doubled l ≡ [] = none-mapped (λ (p : ℕ × ℕ). Doubled p.0 p.1) (doubled l) second.1 in
    let none_strange : strange d l ≡ [] = none-mapped Strange (strange d l) third.1 in
    record {
      names = same-members (instance_names d) (cell_names l) good.different_instances (none-repeated (cell_names l) none_doubled)
          (none-missing (instance_names d) (cell_names l) none_missing) (none-missing (cell_names l) (instance_names d) none_strange);
      copies = none-misdrawn r d l good (none-mapped Drawing (misdrawn r d l) last.1);
    }

pub match-cells : (r : RuleValues) (d : Netlist) (l : Layout) → IsNetlist d → CellsMatch r d l → cell_findings r d l ≡ []
match-cells r d l good match =
    let none_missing : missing d l ≡ [] =
    members-none (instance_names d) (cell_names l)
    (λ k x is. sym (list_any-IsPermutation (bytes_eq x) (instance_names d) (cell_names l) match.names) ∙ any-get (instance_names d) k x is) in
    let none_doubled : doubled l ≡ [] =
    different-none (cell_names l) (IsDistinct-IsPermutation bytes_eq bytes-flips (instance_names d) (cell_names l) match.names good.different_instances) in
    let none_strange : strange d l ≡ [] =
    members-none (cell_names l) (instance_names d)
    (λ k x is. list_any-IsPermutation (bytes_eq x) (instance_names d) (cell_names l) match.names ∙ any-get (cell_names l) k x is) in
    let none_misdrawn : misdrawn r d l ≡ [] = copies-none r d l match.copies in
    ap (λ (ns : List ℕ). map Missing ns ++ map (λ (p : ℕ × ℕ). Doubled p.0 p.1) (doubled l) ++ map Strange (strange d l) ++ map Drawing (misdrawn r d l)) none_missing
    ∙ ap (λ (ps : List (ℕ × ℕ)). [] ++ map (λ (p : ℕ × ℕ). Doubled p.0 p.1) ps ++ map Strange (strange d l) ++ map Drawing (misdrawn r d l)) none_doubled
    ∙ ap₂ (λ (ns ms : List ℕ). map Strange ns ++ map Drawing ms) none_strange none_misdrawn
