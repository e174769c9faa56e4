use Rattle.std.proofs.Common.{◌≡◌, ◌≤◌, ◌+◌, ◌-◌, ◌∙◌, ℕ, suc, List, true, Option, Some, None, length, map, drop, min, ap, sym, refl, arith}
use Rattle.std.specs.Prelude.{slice_index}
use Rattle.std.specs.List.{IsDistinct, list_any, slice_get}
use Rattle.std.specs.List.Sorted.{IsPermutation}
use Rattle.std.specs.Option.{option_map}
use Rattle.std.specs.Str.{bytes_eq}
use Rattle.std.proofs.lemmas.List.{length-map, length-take, length-drop}
use Rattle.std.proofs.lemmas.List.Sorted.{list_any-IsPermutation}
use Rattle.std.proofs.lemmas.Map.Keys.{IsDistinct-IsPermutation}
use Rattle.std.proofs.lemmas.Option.{get_or_from_slice_get, slice_get-map}
use Rattle.list_facts.specs.Names.{place_among}
use Rattle.list_facts.proofs.Different.{place-get}
use Rattle.list_facts.proofs.Mentioned.{get-place}
use Rattle.geom_core.specs.Moving.{moved_shape}
use Rattle.geom_core.specs.declared.layout.Cell.{Cell}
use Rattle.geom_core.specs.declared.layout.Layout.{Layout}
use Rattle.geom_core.specs.declared.layout.Shape.{Shape}
use Rattle.tech_rules.specs.Rules.{RuleValues}
use Rattle.design_model.specs.CellsMatch.{CellsMatch, IsCopyOf, cell_names, instance_names, shapes_of}
use Rattle.design_model.specs.Drawing.{drawing_of, position_shape}
use Rattle.design_model.specs.Netlist.{IsNetlist, Netlist}
use Rattle.design_model.specs.declared.design.CellKind.{CellKind}
use Rattle.design_model.specs.declared.design.Inst.{Inst}
use Rattle.geom_extract.specs.CellTies.{behind_outline, start_of, starts_of}
use Rattle.std_laws.proofs.Searches.{any-get}
use Rattle.std_laws.proofs.Members.{get-contains}
use Rattle.std_laws.proofs.Bytes.{bytes-flips}

-- the cells have different names
pub cells-different : (d : Netlist) (l : Layout) → IsNetlist d → IsPermutation (instance_names d) (cell_names l) → IsDistinct bytes_eq (cell_names l)
cells-different d l good names = IsDistinct-IsPermutation bytes_eq bytes-flips (instance_names d) (cell_names l) names good.different_instances

-- the name of an instance is among them
pub name-among : (d : Netlist) (l : Layout) (n : ℕ) (i : Inst) → IsPermutation (instance_names d) (cell_names l) → slice_get d.instances n ≡ Some i
    → list_any (bytes_eq i.name) (cell_names l) ≡ true
name-among d l n i names is =
    sym (list_any-IsPermutation (bytes_eq i.name) (instance_names d) (cell_names l) names)
    ∙ any-get (instance_names d) n i.name (slice_get-map (λ (j : Inst). j.name) d.instances n ∙ ap (option_map (λ (j : Inst). j.name)) is)

-- a cell bears a name, and this is the number of the shape behind its outline
pub record Stands (l : Layout) (name : List ℕ) (start : ℕ) : Type 0 where
  pub cell : ℕ
  pub copy : Cell
  pub is_cell : slice_get l.cells cell ≡ Some copy
  pub named : copy.name ≡ name
  pub starts : start ≡ copy.first + 1

pub stands : (l : Layout) (name : List ℕ) → list_any (bytes_eq name) (cell_names l) ≡ true → Stands l name (start_of l name)
stands l name among = by (slice_get l.cells (place_among (cell_names l) name)) refl
  where
    place : ℕ
    place = place_among (cell_names l) name

    by : (o : Option Cell) → slice_get l.cells (place_among (cell_names l) name) ≡ o → Stands l name (behind_outline (slice_get l.cells (place_among (cell_names l) name)))
    by None is =
        let never : ⊥ = cc (get-place (cell_names l) name among, slice_get-map (λ (c : Cell). c.name) l.cells (place_among (cell_names l) name), ap (option_map (λ (c : Cell). c.name)) is) in
        absurd never
    by (Some copy) is = record {
      cell = place_among (cell_names l) name;
      copy = copy;
      is_cell = is;
      named = cc (get-place (cell_names l) name among, slice_get-map (λ (c : Cell). c.name) l.cells (place_among (cell_names l) name), ap (option_map (λ (c : Cell). c.name)) is);
      starts = ap behind_outline is;
    }

-- a cell of a name stands at that name's place
pub cell-place : (l : Layout) (cell : ℕ) (copy : Cell) → IsDistinct bytes_eq (cell_names l) → slice_get l.cells cell ≡ Some copy
    → place_among (cell_names l) copy.name ≡ cell
cell-place l cell copy different is =
    place-get (cell_names l) cell copy.name different (slice_get-map (λ (c : Cell). c.name) l.cells cell ∙ ap (option_map (λ (c : Cell). c.name)) is)

-- two cells of one name are one
pub one-cell : (l : Layout) (name : List ℕ) (start cell : ℕ) (copy : Cell) → IsDistinct bytes_eq (cell_names l) → Stands l name start
    → slice_get l.cells cell ≡ Some copy → copy.name ≡ name → start ≡ copy.first + 1
one-cell l name start cell copy different here is named =
    let first : place_among (cell_names l) here.copy.name ≡ here.cell = cell-place l here.cell here.copy different here.is_cell in
    let second : place_among (cell_names l) copy.name ≡ cell = cell-place l cell copy different is in
    let one_name : here.copy.name ≡ copy.name = here.named ∙ sym named in
    let one_place : here.cell ≡ cell = sym first ∙ ap (place_among (cell_names l)) one_name ∙ second in
    let one : here.copy ≡ copy = cc (here.is_cell, is, ap (λ (k : ℕ). slice_get l.cells k) one_place) in
    here.starts ∙ ap (λ (c : Cell). c.first + 1) one

-- the start of an instance's cell
pub start-read : (d : Netlist) (l : Layout) (n : ℕ) (i : Inst) → slice_get d.instances n ≡ Some i → slice_index (starts_of l d) n ≡ start_of l i.name
start-read d l n i is = get_or_from_slice_get (starts_of l d) n (start_of l i.name) 0
    (slice_get-map (start_of l) (instance_names d) n
    ∙ ap (option_map (start_of l)) (slice_get-map (λ (j : Inst). j.name) d.instances n ∙ ap (option_map (λ (j : Inst). j.name)) is))

fitting : (first count whole rest : ℕ) → min count (whole - first) ≡ suc rest → first + 1 + rest ≤ whole
fitting first count whole rest is = omega arith

-- a layout has the shapes of all positions of a cell
pub start-room : (r : RuleValues) (d : Netlist) (l : Layout) (n : ℕ) (i : Inst) (kind : CellKind) (start : ℕ) → CellsMatch r d l
    → slice_get d.instances n ≡ Some i → slice_get d.kinds i.kind ≡ Some kind → Stands l i.name start
    → start + length kind.positions ≤ length l.shapes
start-room r d l n i kind start cells is is_kind here =
    let copied : IsCopyOf r l kind here.copy =
    cells.copies here.copy i kind (get-contains l.cells here.cell here.copy here.is_cell) (get-contains d.instances n i is) here.named is_kind in
    let drawn : length (shapes_of l here.copy) ≡ length (drawing_of r kind) =
    ap (λ (s : List Shape). length s) copied.shapes ∙ length-map (drawing_of r kind) (moved_shape here.copy.turn) in
    let places : length (map (position_shape r kind.height) kind.positions) ≡ length kind.positions = length-map kind.positions (position_shape r kind.height) in
    let taken : length (shapes_of l here.copy) ≡ min here.copy.count (length l.shapes - here.copy.first) =
    length-take here.copy.count (drop here.copy.first l.shapes) ∙ ap (min here.copy.count) (length-drop here.copy.first l.shapes) in
    let room : here.copy.first + 1 + length kind.positions ≤ length l.shapes =
    fitting here.copy.first here.copy.count (length l.shapes) (length kind.positions) (sym taken ∙ drawn ∙ ap suc places) in
    let at : start ≡ here.copy.first + 1 = here.starts in
    omega arith
