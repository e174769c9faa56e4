use Rattle.std.proofs.Common.{◌∙◌, ap, subst, List}
use Rattle.std.proofs.lemmas.Result.{IfOk-weaker}
use Rattle.design_model.specs.Netlist.{IsNetlist, Netlist}
use Rattle.design_model.specs.declared.design.Inst.{Inst}
use Rattle.design_model.specs.CellsMatch.{instance_names}
use Rattle.list_facts.specs.Names.{mentions}
use Rattle.list_facts.proofs.Different.{mentions-different}
use Rattle.port_rows.specs.Ported.{inst_names}
use Rattle.port_rows.proofs.clashes.design_names.Goals as goal

pub returns : goal.returns
returns c =
    let good = subst IsNetlist c.design.view_is c.design.invariant.netlist in
    IfOk-weaker c.names_of.result _ _ (λ names is.
    is ∙ ap (λ (is : List Inst). mentions (inst_names is)) (c.items.ensures ∙ ap (λ (d : Netlist). d.instances) c.design.view_is)
    ∙ mentions-different (instance_names c.args.design.now) good.different_instances) c.names_of.ensures
