use Rattle.std.proofs.Common.{◌≡◌, map, take}
use Rattle.design_model.specs.declared.design.Inst.{Inst}
use Rattle.list_facts.specs.Texts.{texts}
use Rattle.layout_check.proofs.names.instance_names.Given as goal

abbrev pub invariant-loop-inst : goal.invariant-loop-inst
invariant-loop-inst l = texts l.names.items ≡ map (λ (i : Inst). i.name) (take l.inst-index l.inst-items)
