use Rattle.std.proofs.Common.{◌≡◌, not, take}
use Rattle.std.specs.List.{find}
use Rattle.std.specs.Str.{bytes_eq}
use Rattle.geom_core.specs.declared.layout.Cell.{Cell}
use Rattle.design_model.specs.declared.design.Inst.{Inst}
use Rattle.rule_check.specs.Failing.{failing}
use Rattle.layout_check.specs.CellFaults.{is_copy_for}
use Rattle.layout_check.proofs.cells.misdrawn.Given as goal

abbrev pub invariant-loop-k : goal.invariant-loop-k
invariant-loop-k l =
    let case = l.drawn.named.now.case.now in
    l.numbers.items ≡ failing (λ (c : Cell). not (is_copy_for case.rules.now case.design.now case.layout.now (find (λ (i : Inst). bytes_eq i.name c.name) case.design.now.instances) c)) (take l.k case.layout.now.cells)
