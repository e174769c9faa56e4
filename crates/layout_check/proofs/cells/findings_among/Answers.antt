use Rattle.std.proofs.Common.{◌++◌, ◌∙◌, ℕ, List, map, ap}
use Rattle.design_model.specs.CellsMatch.{cell_names}
use Rattle.layout_check.specs.CellFaults.{misdrawn}
use Rattle.layout_check.specs.Findings.{name_findings}
use Rattle.layout_check.specs.declared.finding.Finding.{Finding}
use Rattle.layout_check.specs.declared.finding.Finding.TheVariants.{Drawing}
use Rattle.layout_check.proofs.cells.findings_among.Goals as goal

pub returns : goal.returns
returns c =
    c.in_ok-tell_drawings.ensures
    ∙ ap (λ (fs : List Finding). fs ++ map Drawing (misdrawn c.args.named.now.case.now.rules.now c.args.named.now.case.now.design.now c.args.named.now.case.now.layout.now))
    (c.in_ok-findings.ensures ∙ ap (λ (names : List (List ℕ)). name_findings names (cell_names c.args.named.now.case.now.layout.now)) c.args.named.now.each)
