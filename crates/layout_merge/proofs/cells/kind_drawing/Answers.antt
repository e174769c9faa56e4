use Rattle.std.proofs.Common.{◌≡◌, List, map, subst, sym}
use Rattle.std.specs.Prelude.{All}
use Rattle.geom_core.specs.Reach.{IsShapeInReach}
use Rattle.geom_core.specs.declared.layout.Shape.{Shape}
use Rattle.tech_rules.specs.Rules.{ValidRules}
use Rattle.design_model.specs.Drawing.{drawing_of}
use Rattle.design_model.specs.Netlist.{IsNetlist}
use Rattle.layout_check.proofs.DrawingReach.{drawings-reach}
use Rattle.std_laws.proofs.Members.{all-get}
use Rattle.std_laws.proofs.Places.{at-place, map-at}
use Rattle.layout_merge.proofs.cells.kind_drawing.Goals as goal

pub returns-clause-reach : goal.returns-clause-reach
returns-clause-reach c =
    let r = c.args.rules.now in
    let kinds = c.args.design.now.kinds in
    let valid : ValidRules r = rw (← c.rules.view_is) c.rules.invariant in
    let good : IsNetlist c.args.design.now = rw (← c.design.view_is) c.design.invariant.netlist in
    let kind = at-place kinds c.args.kind c.requires.within in
    let reach = drawings-reach r c.args.design.now valid good in
    subst (λ (shapes : List Shape). All IsShapeInReach shapes) (sym (c.in_ok-shapes.ensures kind.0 kind.1))
    (all-get (λ (shapes : List Shape). All IsShapeInReach shapes) (map (drawing_of r) kinds) c.args.kind (drawing_of r kind.0) reach.reach
    (map-at (drawing_of r) kinds c.args.kind kind.0 kind.1))
