use Rattle.std.proofs.Common.{◌≡◌, ◌∙◌, ℕ, List, length, map, ap}
use Rattle.geom_core.specs.declared.layout.Shape.{Shape}
use Rattle.design_model.specs.Netlist.{Netlist}
use Rattle.geom_extract.specs.CellTies.{first_places, ties_among}
use Rattle.geom_extract.proofs.CellJoins.{whole}
use Rattle.geom_extract.proofs.Extracting.{are-places, extracted, pins-within, ties-within}
use Rattle.geom_extract.proofs.joined.classes.Goals as goal

pub invariant_of-places : goal.invariant_of-places
invariant_of-places c =
    are-places c.args.rules.now c.args.design.now c.args.layout.now (rw (← c.design.view_is) c.design.invariant.netlist) c.requires.cells _ _ c.requires.few
    (c.in_ok-all_first_places.ensures ∙ ap (map first_places) (c.items.ensures ∙ ap (λ (d : Netlist). d.kinds) c.design.view_is)) c.in_ok-starts_of.ensures

pub invariant_of-places-2 : goal.invariant_of-places-2
invariant_of-places-2 c =
    are-places c.args.rules.now c.args.design.now c.args.layout.now (rw (← c.design.view_is) c.design.invariant.netlist) c.requires.cells _ _ c.requires.few
    (c.in_ok-all_first_places.ensures ∙ ap (map first_places) (c.items.ensures ∙ ap (λ (d : Netlist). d.kinds) c.design.view_is)) c.in_ok-starts_of.ensures

pub shape_classes-requires-clause-ties : goal.shape_classes-requires-clause-ties
shape_classes-requires-clause-ties c =
    let ties : c.as_slice.result.now ≡ whole c.args.design.now c.args.layout.now =
    c.as_slice.ensures.value ∙ c.in_ok-ties.ensures
    ∙ ap (λ (starts : List ℕ). ties_among c.args.design.now starts (length c.args.design.now.instances)) c.in_ok-starts_of.ensures in
    rw c.items-2.ensures
    (ties-within c.args.rules.now c.args.design.now c.args.layout.now (rw (← c.design.view_is) c.design.invariant.netlist) c.requires.cells c.as_slice.result.now ties)

pub pin_classes-requires : goal.pin_classes-requires
pin_classes-requires c =
    let long : length c.as_slice-2.result.now ≡ length c.args.layout.now.shapes =
    ap (λ (list : List ℕ). length list) c.as_slice-2.ensures.value ∙ c.in_ok-shapes.ensures.len ∙ ap (λ (list : List Shape). length list) c.items-2.ensures in
    pins-within c.args.rules.now c.args.design.now c.args.layout.now (rw (← c.design.view_is) c.design.invariant.netlist) c.requires.cells
    c.in_ok-starts_of.field-0.items (length c.as_slice-2.result.now) c.in_ok-starts_of.ensures long

pub returns : goal.returns
returns c =
    let ties : c.as_slice.result.now ≡ whole c.args.design.now c.args.layout.now =
    c.as_slice.ensures.value ∙ c.in_ok-ties.ensures
    ∙ ap (λ (starts : List ℕ). ties_among c.args.design.now starts (length c.args.design.now.instances)) c.in_ok-starts_of.ensures in
    extracted c.args.rules.now c.args.design.now c.args.layout.now (rw (← c.design.view_is) c.design.invariant.netlist) c.requires.cells _
    c.items-2.result.now c.as_slice.result.now c.in_ok-starts_of.field-0.items c.as_slice-2.result.now c.items-2.ensures ties c.in_ok-starts_of.ensures
    c.as_slice-2.ensures.value c.in_ok-shapes.ensures.len c.in_ok-shapes.ensures.classes c.in_ok-pins.ensures
