use Rattle.std.proofs.Common.{◌≡◌, ◌∙◌, ap}
use Rattle.std.proofs.lemmas.Result.{IfOk-weaker}
use Rattle.list_facts.specs.Texts.{texts}
use Rattle.design_model.specs.CellsMatch.{cell_names}
use Rattle.layout_check.specs.Findings.{name_findings}
use Rattle.layout_check.proofs.cells.name_findings.Goals as goal

pub returns : goal.returns
returns c =
    let cells : texts c.as_slice-2.result.now ≡ cell_names c.args.case.now.layout.now = ap texts c.as_slice-2.ensures.value ∙ c.in_ok-cells.ensures in
    IfOk-weaker c.tell_names.result _ _ (λ v is. is ∙ ap (name_findings (texts c.args.instances.now.list.now)) cells) c.tell_names.ensures
