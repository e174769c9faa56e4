use Rattle.std.proofs.Common.{◌≡◌, ◌<◌, ℕ, Some}
use Rattle.std.specs.List.{slice_get}
use Rattle.geom_core.specs.declared.layout.Cell.{Cell}
use Rattle.design_model.specs.declared.design.Inst.{Inst}
use Rattle.extract_tests.specs.InOrder.{IsCellOf}
use Rattle.extract_tests.proofs.matching.are_in_order.Given as goal

abbrev pub invariant-loop-n : goal.invariant-loop-n
invariant-loop-n l = (k : ℕ) (i : Inst) (c : Cell) → k < l.n → slice_get l.instances k ≡ Some i → slice_get l.cells k ≡ Some c
    → IsCellOf l.rules l.design l.layout i c
