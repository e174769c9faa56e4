use Rattle.std.proofs.Common.{◌≤◌, All, length}
use Rattle.design_model.specs.Room.{HasRoom, least_height}
use Rattle.design_model.specs.declared.design.CellKind.{CellKind}
use Rattle.layout_tests.proofs.support.have_room.Given as goal

abbrev pub invariant-loop-kind : goal.invariant-loop-kind
invariant-loop-kind l = All (λ (k : CellKind). least_height l.fn.rules ≤ k.height) l.kinds → HasRoom l.fn.rules l.fn.design

abbrev pub decreases-loop-kind : goal.decreases-loop-kind
decreases-loop-kind l = length l.kinds
