use Rattle.std.proofs.Common.{◌≡◌, ◌∙◌, ℕ, suc, List, [], ◌∷◌, Some, length, map, ap, ap₂, sym, subst, refl, arith}
use Rattle.std.specs.List.{slice_get}
use Rattle.std.specs.List.Sorted.{IsPermutation}
use Rattle.std.specs.Option.{option_map}
use Rattle.std.proofs.lemmas.List.Sorted.{IsPermutation-refl}
use Rattle.std.proofs.lemmas.Option.{slice_get-map}
use Rattle.list_facts.proofs.Different.{place-get}
use Rattle.geom_core.specs.declared.layout.Cell.{Cell}
use Rattle.geom_core.specs.declared.layout.Layout.{Layout}
use Rattle.tech_rules.specs.Rules.{RuleValues}
use Rattle.design_model.specs.CellsMatch.{CellsMatch, cell_names, instance_names}
use Rattle.design_model.specs.Netlist.{IsNetlist, Netlist}
use Rattle.design_model.specs.declared.design.Inst.{Inst}
use Rattle.extract_tests.specs.InOrder.{AreInOrder}
use Rattle.std_laws.proofs.Members.{contains-get}

same-names : (insts : List Inst) (cells : List Cell) → length cells ≡ length insts
    → ((k : ℕ) (i : Inst) (c : Cell) → slice_get insts k ≡ Some i → slice_get cells k ≡ Some c → c.name ≡ i.name)
    → map (λ (i : Inst). i.name) insts ≡ map (λ (c : Cell). c.name) cells
same-names [] [] long each = refl
same-names [] (c ∷ cells) long each = absurd (omega arith)
same-names (i ∷ insts) [] long each = absurd (omega arith)
same-names (i ∷ insts) (c ∷ cells) long each =
    ap₂ (λ (n : List ℕ) (ns : List (List ℕ)). n ∷ ns) (sym (each 0 i c refl refl))
    (same-names insts cells (omega arith) (λ k j b first second. each (suc k) j b first second))

-- cells in the order of the instances are those of a design
pub in-order-match : (r : RuleValues) (d : Netlist) (l : Layout) → IsNetlist d → AreInOrder r d l → CellsMatch r d l
in-order-match r d l good are =
    let same : instance_names d ≡ cell_names l = same-names d.instances l.cells are.long (λ k i c first second. (are.each k i c first second).named) in
    record {
      names = subst (λ (names : List (List ℕ)). IsPermutation (instance_names d) names) same (IsPermutation-refl (instance_names d));
      copies = λ cell i kind in_cells in_instances named is_kind.
          let first : slice_get l.cells in_cells.0 ≡ Some cell = contains-get l.cells cell in_cells in
          let second : slice_get d.instances in_instances.0 ≡ Some i = contains-get d.instances i in_instances in
          let own : slice_get (instance_names d) in_instances.0 ≡ Some i.name =
          slice_get-map (λ (j : Inst). j.name) d.instances in_instances.0 ∙ ap (option_map (λ (j : Inst). j.name)) second in
          let other : slice_get (instance_names d) in_cells.0 ≡ Some i.name =
          ap (λ (names : List (List ℕ)). slice_get names in_cells.0) same ∙ slice_get-map (λ (c : Cell). c.name) l.cells in_cells.0
          ∙ ap (option_map (λ (c : Cell). c.name)) first ∙ ap (λ (name : List ℕ). Some name) named in
          let one : in_instances.0 ≡ in_cells.0 =
          sym (place-get (instance_names d) in_instances.0 i.name good.different_instances own)
          ∙ place-get (instance_names d) in_cells.0 i.name good.different_instances other in
          (are.each in_cells.0 i cell (ap (λ (k : ℕ). slice_get d.instances k) (sym one) ∙ second) first).copy kind is_kind;
    }
