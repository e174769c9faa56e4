use Rattle.std.proofs.Common.{◌≡◌, ◌∙◌, ◌<◌, ◌++◌, ◌^◌, List, ap, length, rules, sym}
use Rattle.std.specs.List.{flat_map}
use Rattle.tech_rules.specs.Rules.{ValidRules}
use Rattle.design_model.specs.Netlist.{IsNetlist}
use Rattle.geom_core.specs.declared.layout.Shape.{Shape}
use Rattle.layout_merge.specs.Areas.{merged_shapes}
use Rattle.layout_merge.specs.Drawn.{drawn, known_cells}
use Rattle.layout_merge.specs.MergedLayout.{outside}
use Rattle.layout_merge.proofs.MeasuredLaws.{measured}
use Rattle.layout_merge.proofs.merging.merge_layout.Goals as goal

pub returns-clause-measured : goal.returns-clause-measured
returns-clause-measured c =
    let r = c.args.rules.now in
    let d = c.args.design.now in
    let valid : ValidRules r = rw (← c.rules.view_is) c.rules.invariant in
    let good : IsNetlist d = rw (← c.design.view_is) c.design.invariant.netlist in
    measured r d c.args.layout c.new.result c.new-2.result valid good c.requires.layout (search rules) (search rules) (search rules)
