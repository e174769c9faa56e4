use Rattle.std.proofs.Common.{◌≡◌, ◌<◌, ◌+◌, ◌∙◌, ℕ, List, length, ap, ap₂, arith}
use Rattle.std.specs.Prelude.{slice_index}
use Rattle.std.proofs.lemmas.Grind.{get_or_default_zero}
use Rattle.design_model.specs.Netlist.{Netlist}
use Rattle.geom_extract.specs.CellTies.{first_place, positions_at}
use Rattle.geom_extract.specs.PlacesView.{placing_in}
use Rattle.geom_extract.proofs.PinPlaces.{PinLookup, PinRead, pin-instance, pin-lookup}
use Rattle.geom_extract.proofs.places.Places.pin_shape.Goals as goal

pub bounds-items-instance : goal.bounds-items-instance
bounds-items-instance c =
    let insts : c.items.result.now ≡ c.self.inside.design.now.instances = c.items.ensures ∙ ap (λ (d : Netlist). d.instances) c.design.view_is in
    rw insts (pin-instance c.self.inside.design.now c.args.pin (rw (← c.design.view_is) c.design.invariant.netlist) (rw (← c.self.view_is) at c.requires))

pub bounds-items-instance-2 : goal.bounds-items-instance-2
bounds-items-instance-2 c = bounds-items-instance c

pub index-requires : goal.index-requires
index-requires c =
    let below : c.args.pin.instance < length c.self.inside.design.now.instances =
    pin-instance c.self.inside.design.now c.args.pin (rw (← c.design.view_is) c.design.invariant.netlist) (rw (← c.self.view_is) at c.requires) in
    omega (arith, c.self.invariant.long, c.self.inside.starts.ok)

pub index-requires-2 : goal.index-requires-2
index-requires-2 c =
    let insts : c.items.result.now ≡ c.self.inside.design.now.instances = c.items.ensures ∙ ap (λ (d : Netlist). d.instances) c.design.view_is in
    let found : PinLookup (placing_in c.self.inside) c.args.pin c.index-items-instance.result =
    pin-lookup (placing_in c.self.inside) c.args.pin c.items.result.now c.index-items-instance.result (rw (← c.design.view_is) c.design.invariant.netlist)
    c.self.invariant (rw (← c.self.view_is) at c.requires) insts c.index-items-instance.is in
    rw (← c.index-items-instance.is) (omega (arith, found.kind, c.self.inside.firsts.ok))

pub bounds-items-pin : goal.bounds-items-pin
bounds-items-pin c =
    let insts : c.items.result.now ≡ c.self.inside.design.now.instances = c.items.ensures ∙ ap (λ (d : Netlist). d.instances) c.design.view_is in
    let found : PinLookup (placing_in c.self.inside) c.args.pin c.index-items-instance.result =
    pin-lookup (placing_in c.self.inside) c.args.pin c.items.result.now c.index-items-instance.result (rw (← c.design.view_is) c.design.invariant.netlist)
    c.self.invariant (rw (← c.self.view_is) at c.requires) insts c.index-items-instance.is in
    rw c.items-2.ensures (found.table c.index-2.result.now (rw (← c.index-items-instance.is) at c.index-2.ensures)).within

pub overflow_add-result : goal.overflow_add-result
overflow_add-result c =
    let insts : c.items.result.now ≡ c.self.inside.design.now.instances = c.items.ensures ∙ ap (λ (d : Netlist). d.instances) c.design.view_is in
    let found : PinLookup (placing_in c.self.inside) c.args.pin c.index-items-instance.result =
    pin-lookup (placing_in c.self.inside) c.args.pin c.items.result.now c.index-items-instance.result (rw (← c.design.view_is) c.design.invariant.netlist)
    c.self.invariant (rw (← c.self.view_is) at c.requires) insts c.index-items-instance.is in
    let read : PinRead (positions_at c.self.inside.design.now c.args.pin.instance) c.index-2.result.now c.args.pin.terminal =
    found.table c.index-2.result.now (rw (← c.index-items-instance.is) at c.index-2.ensures) in
    let below : c.args.pin.instance < length c.self.inside.starts.items =
    rw c.self.invariant.long (pin-instance c.self.inside.design.now c.args.pin (rw (← c.design.view_is) c.design.invariant.netlist) (rw (← c.self.view_is) at c.requires)) in
    let start : c.index.result.now ≡ slice_index c.self.inside.starts.items c.args.pin.instance =
    c.index.ensures ∙ get_or_default_zero c.self.inside.starts.items c.args.pin.instance c.index.result.now below in
    let first : slice_index c.items-2.result.now c.args.pin.terminal ≡ first_place (positions_at c.self.inside.design.now c.args.pin.instance) c.args.pin.terminal =
    ap (λ (l : List ℕ). slice_index l c.args.pin.terminal) c.items-2.ensures ∙ read.reads in
    omega (arith, start, first, read.below, found.room)

pub returns : goal.returns
returns c =
    let insts : c.items.result.now ≡ c.self.inside.design.now.instances = c.items.ensures ∙ ap (λ (d : Netlist). d.instances) c.design.view_is in
    let found : PinLookup (placing_in c.self.inside) c.args.pin c.index-items-instance.result =
    pin-lookup (placing_in c.self.inside) c.args.pin c.items.result.now c.index-items-instance.result (rw (← c.design.view_is) c.design.invariant.netlist)
    c.self.invariant (rw (← c.self.view_is) at c.requires) insts c.index-items-instance.is in
    let read : PinRead (positions_at c.self.inside.design.now c.args.pin.instance) c.index-2.result.now c.args.pin.terminal =
    found.table c.index-2.result.now (rw (← c.index-items-instance.is) at c.index-2.ensures) in
    let below : c.args.pin.instance < length c.self.inside.starts.items =
    rw c.self.invariant.long (pin-instance c.self.inside.design.now c.args.pin (rw (← c.design.view_is) c.design.invariant.netlist) (rw (← c.self.view_is) at c.requires)) in
    let start : c.index.result.now ≡ slice_index c.self.inside.starts.items c.args.pin.instance =
    c.index.ensures ∙ get_or_default_zero c.self.inside.starts.items c.args.pin.instance c.index.result.now below in
    rw (← c.self.view_is) (ap₂ (λ (a b : ℕ). a + b) start (ap (λ (l : List ℕ). slice_index l c.args.pin.terminal) c.items-2.ensures ∙ read.reads))
