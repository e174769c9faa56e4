use Rattle.std.proofs.Common.{◌++◌, ◌∙◌, ℕ, List, ap, ap₂, sym, subst}
use Rattle.design_model.specs.Netlist.{IsNetlist}
use Rattle.geom_extract.specs.Extracts.{IsExtract}
use Rattle.layout_check.specs.Findings.{Findings, bare_findings, close_findings, narrow_findings, net_findings, row_findings}
use Rattle.layout_check.specs.Findings.Findings.{of_nets}
use Rattle.layout_check.specs.declared.finding.Finding.{Finding}
use Rattle.layout_check.proofs.CellLaws.{cells-match}
use Rattle.layout_check.proofs.checking.with_nets.Goals as goal

pub classes-requires-clause-cells : goal.classes-requires-clause-cells
classes-requires-clause-cells c =
    let good : IsNetlist c.args.case.now.design.now = rw (← c.design.view_is) c.design.invariant.netlist in
    cells-match c.args.case.now.rules.now c.args.case.now.design.now c.args.case.now.layout.now good c.requires

pub returns-clause-findings : goal.returns-clause-findings
returns-clause-findings c =
    let extract : IsExtract c.args.case.now.rules.now c.args.case.now.design.now c.args.case.now.layout.now c.in_ok-extract.extract = c.in_ok-extract.ensures in
    let list = c.in_ok-tell_nets.ensures
    ∙ ap₂ (λ (fs : List Finding) (cs : List ℕ). fs ++ net_findings c.args.case.now.design.now cs) (c.in_ok-tell_bare.ensures
    ∙ ap (λ (fs : List Finding). fs ++ bare_findings c.args.case.now.rules.now c.args.case.now.layout.now) (c.in_ok-tell_close.ensures
    ∙ ap₂ (λ (fs : List Finding) (cs : List ℕ). fs ++ close_findings c.args.case.now.rules.now c.args.case.now.layout.now cs) (c.in_ok-tell_narrow.ensures.narrow
    ∙ ap (λ (fs : List Finding). fs ++ narrow_findings c.args.case.now.rules.now c.args.case.now.layout.now) (c.in_ok-tell_rows.ensures
    ∙ ap (λ (fs : List Finding). fs ++ row_findings c.args.case.now.rules.now c.args.case.now.layout.now) c.new-findings.ensures.items)) c.as_slice.ensures.value)) c.as_slice-2.ensures.value in
    subst (Findings c.args.case.now.rules.now c.args.case.now.design.now c.args.case.now.layout.now) (sym list) (of_nets c.in_ok-extract.extract c.requires extract)
