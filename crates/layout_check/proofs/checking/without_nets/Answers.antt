use Rattle.std.proofs.Common.{◌++◌, ◌∙◌, List, ap, sym, subst}
use Rattle.layout_check.specs.Findings.{Findings, bare_findings, narrow_findings, row_findings}
use Rattle.layout_check.specs.Findings.Findings.{of_cells}
use Rattle.layout_check.specs.declared.finding.Finding.{Finding}
use Rattle.layout_check.proofs.checking.without_nets.Goals as goal

pub returns-clause-findings : goal.returns-clause-findings
returns-clause-findings c =
    let list = c.in_ok-tell_bare.ensures
    ∙ ap (λ (fs : List Finding). fs ++ bare_findings c.args.case.now.rules.now c.args.case.now.layout.now) (c.in_ok-tell_narrow.ensures.narrow
    ∙ ap (λ (fs : List Finding). fs ++ narrow_findings c.args.case.now.rules.now c.args.case.now.layout.now) (c.in_ok-tell_rows.ensures
    ∙ ap (λ (fs : List Finding). fs ++ row_findings c.args.case.now.rules.now c.args.case.now.layout.now) c.requires.cells)) in
    subst (Findings c.args.case.now.rules.now c.args.case.now.design.now c.args.case.now.layout.now) (sym list) (of_cells c.requires.some)
