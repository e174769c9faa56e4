use Rattle.std.proofs.Common.{◌≡◌, ◌∙◌, ap}
use Rattle.list_facts.specs.Names.{mentions}
use Rattle.list_facts.specs.Texts.{texts}
use Rattle.list_facts.proofs.Different.{mentions-different}
use Rattle.design_model.specs.CellsMatch.{instance_names}
use Rattle.design_model.specs.Netlist.{IsNetlist}
use Rattle.layout_check.proofs.cells.cell_findings.Goals as goal

pub invariant_of-findings_among-clause-different : goal.invariant_of-findings_among-clause-different
invariant_of-findings_among-clause-different c =
    let good : IsNetlist c.args.case.now.design.now = rw (← c.design.view_is) c.design.invariant.netlist in
    let names : texts c.as_slice.result.now ≡ instance_names c.args.case.now.design.now = ap texts c.as_slice.ensures.value ∙ c.in_ok-instances.ensures in
    c.in_ok-set.ensures.mentioned ∙ ap mentions names ∙ mentions-different (instance_names c.args.case.now.design.now) good.different_instances
