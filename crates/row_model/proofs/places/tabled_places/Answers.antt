use Rattle.std.proofs.Common.{◌≡◌, ◌<◌, ◌++◌, [], ◌∷◌, List, length, map, ap, sym, ◌∙◌, append_assoc, subst}
use Rattle.std.specs.List.{AllByRecursion}
use Rattle.design_model.proofs.DesignPins.{pins-within}
use Rattle.design_model.specs.Netlist.{Netlist}
use Rattle.design_model.specs.declared.design.Pin.{Pin}
use Rattle.row_model.specs.PinPlaces.{pin_place}
use Rattle.row_model.specs.declared.places.PinPlace.{PinPlace}
use Rattle.row_model.proofs.PinLaws.{pin-tabled}
use Rattle.row_model.proofs.places.tabled_places.Goals as goal

pub loop-pin-init : goal.loop-pin-init
loop-pin-init c =
    let pins : c.items-rest.result.now ≡ c.args.placed.now.design.pins = c.items-rest.ensures ∙ ap (λ (d : Netlist). d.pins) (c.design.view_is ∙ c.design-design.ensures.is) in
    record {
      same = ap (λ (l : List Pin). c.new-places.result.items ++ map (pin_place c.args.placed.now.design c.args.placed.now.rows) l) pins
          ∙ ap (λ (l : List PinPlace). l ++ map (pin_place c.args.placed.now.design c.args.placed.now.rows) c.args.placed.now.design.pins) c.new-places.ensures.items;
      within = subst (AllByRecursion (λ (p : Pin). p.instance < length c.args.placed.now.design.instances)) (sym pins) (pins-within c.args.placed.now.design c.design-design.ensures.good);
    }

pub loop-pin-preserved : goal.loop-pin-preserved
loop-pin-preserved c =
    let front = c.in-Some.ensures.cases.0 in
    let within = subst (AllByRecursion (λ (p : Pin). p.instance < length c.args.placed.now.design.instances)) front c.loop-pin.invariant.within in
    let made = pin-tabled c.args.placed.now.design c.design-design.result.now c.args.tables.now c.args.placed.now.rows c.args.stands.now c.in-Some.pin.now c.tabled_stand-stand.result c.of.result
    c.design-design.ensures.is c.requires.tables c.requires.stands within.0 c.tabled_stand-stand.ensures c.of.ensures in
    record {
      same = ap (λ (l : List PinPlace). l ++ map (pin_place c.args.placed.now.design c.args.placed.now.rows) c.in-Some.after.now) c.in_ok-push.ensures.items
          ∙ append_assoc c.loop-pin.places.items (c.with_columns.result ∷ []) (map (pin_place c.args.placed.now.design c.args.placed.now.rows) c.in-Some.after.now)
          ∙ ap (λ (p : PinPlace). c.loop-pin.places.items ++ p ∷ map (pin_place c.args.placed.now.design c.args.placed.now.rows) c.in-Some.after.now) (c.with_columns.ensures ∙ made)
          ∙ ap (λ (l : List Pin). c.loop-pin.places.items ++ map (pin_place c.args.placed.now.design c.args.placed.now.rows) l) (sym front)
          ∙ c.loop-pin.invariant.same;
      within = within.1;
    }
