use Rattle.extract_tests.proofs.matching.are_in_order.Goals as goal
use Rattle.std.proofs.Common.{◌≡◌, ◌<◌, ◌∙◌, ℕ, List, Some, length, ap, sym, subst, refl, inl, inr, arith}
use Rattle.std.specs.List.{slice_get}
use Rattle.std.proofs.lemmas.Bool.{cases_lt}
use Rattle.std.proofs.lemmas.Option.{slice_get_read, slice_get_within}
use Rattle.design_model.specs.Netlist.{Netlist}
use Rattle.design_model.specs.declared.design.Inst.{Inst}
use Rattle.geom_core.specs.declared.layout.Cell.{Cell}
use Rattle.extract_tests.specs.InOrder.{IsCellOf}
use Rattle.std_laws.proofs.Options.{on-true-holds}

pub loop-n-preserved : goal.loop-n-preserved
loop-n-preserved c = λ k i cell below first second. elim (cases_lt k c.loop-n.n) [
  | inl less ↦ c.loop-n.invariant k i cell less first second
  | inr past ↦
      let last : k ≡ c.loop-n.n = omega arith in
      let here : slice_get c.items-instances.result.now c.loop-n.n ≡ Some i = ap (λ (m : ℕ). slice_get c.items-instances.result.now m) (sym last) ∙ first in
      let there : slice_get c.items-cells.result.now c.loop-n.n ≡ Some cell = ap (λ (m : ℕ). slice_get c.items-cells.result.now m) (sym last) ∙ second in
      let in_cells : c.loop-n.n < length c.items-cells.result.now = slice_get_within c.items-cells.result.now c.loop-n.n cell there in
      let one : c.index-instances-n.result ≡ i =
      cc (here, slice_get_read c.items-instances.result.now (length c.items-instances.result.now) c.loop-n.n c.index-instances-n.result refl c.loop-n-test.true c.index-instances-n.is) in
      let two : c.index-cells-n.result ≡ cell =
      cc (there, slice_get_read c.items-cells.result.now (length c.items-cells.result.now) c.loop-n.n c.index-cells-n.result refl in_cells c.index-cells-n.is) in
      let is : IsCellOf c.args.rules.now c.args.design.now c.args.layout.now c.index-instances-n.result c.index-cells-n.result =
      on-true-holds c.in_ok-is_cell_of.field-0 (IsCellOf c.args.rules.now c.args.design.now c.args.layout.now c.index-instances-n.result c.index-cells-n.result) c.if-not-branch.false c.in_ok-is_cell_of.ensures in
      subst (λ (j : Inst). IsCellOf c.args.rules.now c.args.design.now c.args.layout.now j cell) one
      (subst (λ (d : Cell). IsCellOf c.args.rules.now c.args.design.now c.args.layout.now c.index-instances-n.result d) two is)
]

pub returns : goal.returns
returns c =
    let insts : c.items-instances.result.now ≡ c.args.design.now.instances =
    c.items-instances.ensures ∙ ap (λ (d : Netlist). d.instances) c.design.view_is in
    record {
      long = ap (λ (l : List Cell). length l) (sym c.items-cells.ensures) ∙ c.if-cells-instances.false ∙ ap (λ (l : List Inst). length l) insts;
      each = λ k i cell first second.
          let here : slice_get c.items-instances.result.now k ≡ Some i = ap (λ (l : List Inst). slice_get l k) insts ∙ first in
          let within : k < length c.items-instances.result.now = slice_get_within c.items-instances.result.now k i here in
          c.loop-n.invariant k i cell (omega arith) here (ap (λ (l : List Cell). slice_get l k) c.items-cells.ensures ∙ second);
    }
