use Rattle.std.proofs.Common.{◌≡◌, ◌++◌, ◌∷◌, [], ◌∙◌, ℕ, List, Bool, true, false, if◌then◌else◌, Some, length, not, ap, ap₂, sym, refl}
use Rattle.std.specs.List.{find, slice_get}
use Rattle.std.specs.Str.{bytes_eq}
use Rattle.std.proofs.lemmas.Option.{slice_get_read}
use Rattle.list_facts.specs.Lists.{with_item}
use Rattle.geom_core.specs.declared.layout.Cell.{Cell}
use Rattle.design_model.specs.declared.design.Inst.{Inst}
use Rattle.layout_check.specs.CellFaults.{is_copy_for}
use Rattle.layout_check.proofs.Tables.{failing-step}
use Rattle.layout_check.proofs.cells.misdrawn.Goals as goal

with-number : (t : Bool) (k : ℕ) (l : List ℕ) → (if t then l ++ k ∷ [] else l) ≡ with_item t k l
with-number true k l = refl
with-number false k l = refl

pub loop-k-preserved : goal.loop-k-preserved
loop-k-preserved c =
    let case = c.args.drawn.now.named.now.case.now in
    let fails = λ (cell : Cell). not (is_copy_for case.rules.now case.design.now case.layout.now (find (λ (i : Inst). bytes_eq i.name cell.name) case.design.now.instances) cell) in
    let is : slice_get case.layout.now.cells c.loop-k.k ≡ Some c.index-cells-k.result =
    ap (λ (l : List Cell). slice_get l c.loop-k.k) (sym c.items-cells.ensures)
    ∙ slice_get_read c.items-cells.result.now (length c.items-cells.result.now) c.loop-k.k c.index-cells-k.result refl c.loop-k-test.true c.index-cells-k.is in
    c.in_ok-push_unless.ensures
    ∙ with-number (not c.is_copy.result) c.loop-k.k c.loop-k.numbers.items
    ∙ ap₂ (λ (t : Bool) (l : List ℕ). with_item (not t) c.loop-k.k l) c.is_copy.ensures c.loop-k.invariant
    ∙ sym (failing-step fails case.layout.now.cells c.loop-k.k c.index-cells-k.result is)
