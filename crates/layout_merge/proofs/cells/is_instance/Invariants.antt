use Rattle.std.proofs.Common.{◌≡◌, length}
use Rattle.std.specs.List.{list_any}
use Rattle.std.specs.Str.{bytes_eq}
use Rattle.design_model.specs.declared.design.Inst.{Inst}
use Rattle.layout_merge.proofs.cells.is_instance.Given as goal

abbrev pub invariant-loop-instance : goal.invariant-loop-instance
invariant-loop-instance l = list_any (λ (i : Inst). bytes_eq i.name l.name) l.rest ≡ list_any (λ (i : Inst). bytes_eq i.name l.name) l.design.instances

abbrev pub decreases-loop-instance : goal.decreases-loop-instance
decreases-loop-instance l = length l.rest
