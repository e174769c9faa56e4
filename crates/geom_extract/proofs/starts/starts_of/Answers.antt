use Rattle.std.proofs.Common.{◌∙◌}
use Rattle.list_facts.proofs.Different.{mentions-different}
use Rattle.design_model.specs.CellsMatch.{cell_names}
use Rattle.design_model.specs.Netlist.{IsNetlist}
use Rattle.geom_extract.proofs.Standing.{cells-different}
use Rattle.geom_extract.proofs.starts.starts_of.Goals as goal

pub invariant_of-names : goal.invariant_of-names
invariant_of-names c =
    let good : IsNetlist c.args.design.now = rw (← c.design.view_is) c.design.invariant.netlist in
    c.in_ok-cell_names.ensures ∙ mentions-different (cell_names c.args.layout.now) (cells-different c.args.design.now c.args.layout.now good c.requires)
