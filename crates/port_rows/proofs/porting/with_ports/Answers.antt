use Rattle.std.proofs.Common.{◌∙◌, ◌+◌, ap, length, refl, subst, sym}
use Rattle.tech_rules.specs.Rules.{ValidRules}
use Rattle.design_model.specs.Netlist.{IsNetlist, Netlist}
use Rattle.netlist_core.specs.OnGrid.{greatest_height}
use Rattle.port_rows.specs.PortNames.{ArePorts, PortNames}
use Rattle.port_rows.proofs.GoodPorted.{few-enough}
use Rattle.port_rows.proofs.PortedMade.{behind, ported-made}
use Rattle.port_rows.proofs.porting.with_ports.Goals as goal

pub connections_with-requires : goal.connections_with-requires
connections_with-requires c =
    let few = few-enough c.args.design.now (length c.args.ports.now.south + length c.args.ports.now.north) c.requires.small in
    few.0

pub invariant_of-result : goal.invariant_of-result
invariant_of-result c = record {
  netlist = (ported-made c.args.rules.now (subst ValidRules c.rules.view_is c.rules.invariant) c.args.design.now (subst IsNetlist c.design.view_is c.design.invariant.netlist)
      c.args.ports.now.south c.args.ports.now.north (subst (λ (p : PortNames). ArePorts p.south p.north) c.ports.view_is c.ports.invariant)
      c.requires.small c.args.added.instances.items c.requires.free c.requires.instances
      (record { kinds = c.new.result; height = c.greatest_height-height.result; instances = c.new-2.result; pins = c.new-3.result; nets = c.new-4.result })
      (c.new.ensures ∙ behind _ _ _ _ _ c.in_ok-add_all.ensures (c.in_ok-kinds.ensures ∙ c.items.ensures ∙ ap (λ (d : Netlist). d.kinds) c.design.view_is) c.requires.kinds)
      (c.greatest_height-height.ensures ∙ ap greatest_height (c.as_slice.ensures.value ∙ sym c.new.ensures))
      (c.new-2.ensures ∙ behind _ _ _ _ _ c.in_ok-add_all-2.ensures (c.in_ok-instances.ensures ∙ c.items-2.ensures ∙ ap (λ (d : Netlist). d.instances) c.design.view_is) refl)
      (c.new-3.ensures ∙ c.in_ok-connections.ensures.pins) (c.new-4.ensures ∙ c.in_ok-connections.ensures.nets)).netlist;
}

pub returns : goal.returns
returns c =
    (ported-made c.args.rules.now (subst ValidRules c.rules.view_is c.rules.invariant) c.args.design.now (subst IsNetlist c.design.view_is c.design.invariant.netlist)
    c.args.ports.now.south c.args.ports.now.north (subst (λ (p : PortNames). ArePorts p.south p.north) c.ports.view_is c.ports.invariant)
    c.requires.small c.args.added.instances.items c.requires.free c.requires.instances
    (record { kinds = c.new.result; height = c.greatest_height-height.result; instances = c.new-2.result; pins = c.new-3.result; nets = c.new-4.result })
    (c.new.ensures ∙ behind _ _ _ _ _ c.in_ok-add_all.ensures (c.in_ok-kinds.ensures ∙ c.items.ensures ∙ ap (λ (d : Netlist). d.kinds) c.design.view_is) c.requires.kinds)
    (c.greatest_height-height.ensures ∙ ap greatest_height (c.as_slice.ensures.value ∙ sym c.new.ensures))
    (c.new-2.ensures ∙ behind _ _ _ _ _ c.in_ok-add_all-2.ensures (c.in_ok-instances.ensures ∙ c.items-2.ensures ∙ ap (λ (d : Netlist). d.instances) c.design.view_is) refl)
    (c.new-3.ensures ∙ c.in_ok-connections.ensures.pins) (c.new-4.ensures ∙ c.in_ok-connections.ensures.nets)).is
