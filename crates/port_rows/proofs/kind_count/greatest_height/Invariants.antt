use Rattle.std.proofs.Common.{◌≡◌, drop, fold, map, max}
use Rattle.design_model.specs.declared.design.CellKind.{CellKind}
use Rattle.netlist_core.specs.OnGrid.{greatest_height}
use Rattle.port_rows.proofs.kind_count.greatest_height.Given as goal

abbrev pub invariant-loop-kind : goal.invariant-loop-kind
invariant-loop-kind l = fold max l.greatest (map (λ (k : CellKind). k.height) (drop l.kind-index l.kinds)) ≡ greatest_height l.kinds
