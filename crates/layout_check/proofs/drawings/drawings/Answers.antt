use Rattle.layout_check.proofs.drawings.drawings.Goals as goal
use Rattle.std.proofs.Common.{◌≡◌, ◌<◌, ◌≤◌, ◌++◌, ◌∷◌, [], ◌∙◌, List, length, map, take, ap, sym, subst}
use Rattle.std.proofs.lemmas.List.{map_push as map-push, take_all}
use Rattle.geom_core.specs.declared.layout.Shape.{Shape}
use Rattle.tech_rules.specs.Rules.{ValidRules}
use Rattle.design_model.specs.Drawing.{drawing_of}
use Rattle.design_model.specs.Netlist.{IsNetlist, Netlist}
use Rattle.design_model.specs.declared.design.CellKind.{CellKind}
use Rattle.layout_check.specs.Drawings.{AreForKinds, drawings_of}
use Rattle.layout_check.proofs.DrawingReach.{drawings-reach}
use Rattle.std_laws.proofs.Places.{at-place, take-here}

pub loop-n-preserved : goal.loop-n-preserved
loop-n-preserved c =
    let kinds : c.items-kinds.result.now ≡ c.args.case.now.design.now.kinds = c.items-kinds.ensures ∙ ap (λ (d : Netlist). d.kinds) c.design.view_is in
    let within : c.loop-n.n < length c.args.case.now.design.now.kinds = subst (λ (l : List CellKind). c.loop-n.n < length l) kinds c.loop-n-test.true in
    let kind = at-place c.args.case.now.design.now.kinds c.loop-n.n within in
    c.in_ok-push.ensures.items
    ∙ ap (λ (s : List Shape). c.loop-n.drawings.items ++ s ∷ []) (c.new.ensures ∙ c.in_ok-drawing.ensures kind.0 kind.1)
    ∙ ap (λ (l : List (List Shape)). l ++ drawing_of c.args.case.now.rules.now kind.0 ∷ []) c.loop-n.invariant
    ∙ sym (map-push (drawing_of c.args.case.now.rules.now) (take c.loop-n.n c.args.case.now.design.now.kinds) kind.0)
    ∙ ap (map (drawing_of c.args.case.now.rules.now)) (sym (take-here c.args.case.now.design.now.kinds c.loop-n.n kind.0 kind.1))

pub returns-clause-kinds : goal.returns-clause-kinds
returns-clause-kinds c =
    let kinds : c.items-kinds.result.now ≡ c.args.case.now.design.now.kinds = c.items-kinds.ensures ∙ ap (λ (d : Netlist). d.kinds) c.design.view_is in
    let past : length c.args.case.now.design.now.kinds ≤ c.loop-n.n = subst (λ (l : List CellKind). length l ≤ c.loop-n.n) kinds c.loop-n-test.false in
    let all : c.loop-n.drawings.items ≡ drawings_of c.args.case.now.rules.now c.args.case.now.design.now =
    c.loop-n.invariant ∙ ap (map (drawing_of c.args.case.now.rules.now)) (take_all c.loop-n.n c.args.case.now.design.now.kinds past) in
    let good : IsNetlist c.args.case.now.design.now = rw (← c.design.view_is) c.design.invariant.netlist in
    let valid : ValidRules c.args.case.now.rules.now = rw (← c.rules.view_is) c.rules.invariant in
    subst (AreForKinds c.args.case.now.design.now) (sym all) (drawings-reach c.args.case.now.rules.now c.args.case.now.design.now valid good)
