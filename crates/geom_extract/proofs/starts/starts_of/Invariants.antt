use Rattle.std.proofs.Common.{◌≡◌, ◌++◌, drop, map}
use Rattle.design_model.specs.declared.design.Inst.{Inst}
use Rattle.geom_extract.specs.CellTies.{start_of, starts_of}
use Rattle.geom_extract.proofs.starts.starts_of.Given as goal

abbrev pub invariant-loop-inst : goal.invariant-loop-inst
invariant-loop-inst l =
    l.starts.items ++ map (start_of l.layout) (map (λ (i : Inst). i.name) (drop l.inst-index l.instances)) ≡ starts_of l.layout l.design
