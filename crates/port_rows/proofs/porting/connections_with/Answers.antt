use Rattle.std.proofs.Common.{◌∙◌, ap, length}
use Rattle.list_facts.specs.Texts.{texts}
use Rattle.design_model.specs.Netlist.{Netlist}
use Rattle.port_rows.specs.PortNames.{PortNames}
use Rattle.port_rows.proofs.PortPins.{all-port-pins, texts-length}
use Rattle.port_rows.proofs.porting.connections_with.Goals as goal

pub returns-clause-pins : goal.returns-clause-pins
returns-clause-pins c =
    all-port-pins _ c.args.design.now c.args.ports.now c.in_ok-nets.nets (texts c.as_slice-south.result.now) (texts c.as_slice.result.now) _ _
    c.in_ok-pins.pins.items c.add_pins.new.pins.items c.add_pins-2.new.pins.items
    c.in_ok-nets.ensures
    (ap texts c.as_slice-south.ensures.value ∙ ap (λ (p : PortNames). p.south) c.ports.view_is)
    (ap texts c.as_slice.ensures.value ∙ ap (λ (p : PortNames). p.north) c.ports.view_is)
    (ap length (c.items.ensures ∙ ap (λ (d : Netlist). d.instances) c.design.view_is))
    (texts-length _ c.as_slice-south.result.now)
    (c.in_ok-pins.ensures ∙ c.items-2.ensures ∙ ap (λ (d : Netlist). d.pins) c.design.view_is)
    c.in_ok-add_pins.ensures
    c.in_ok-add_pins-2.ensures
