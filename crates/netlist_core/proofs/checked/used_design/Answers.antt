use Rattle.std.proofs.Common.{◌∙◌, ap, sym, subst}
use Rattle.tech_rules.specs.Rules.{ValidRules}
use Rattle.netlist_core.specs.OnGrid.{greatest_height, kinds_for}
use Rattle.netlist_core.proofs.GoodNetlist.{made}
use Rattle.netlist_core.proofs.checked.used_design.Goals as goal

pub invariant_of-result : goal.invariant_of-result
invariant_of-result c =
    record {
      netlist = (made c.args.rules.now (subst ValidRules c.rules.view_is c.rules.invariant) _ c.args.checked.now c.checked.view_is c.checked.invariant c.in-Ok.kinds.items
          (ap (kinds_for c.args.rules.now) (sym c.as_slice-used.ensures.value) ∙ c.in-Ok.ensures)
          (record { kinds = c.new.result; height = c.greatest_height-height.result; instances = c.new-2.result; pins = c.new-3.result; nets = c.new-4.result })
          c.new.ensures (c.greatest_height-height.ensures ∙ ap greatest_height c.as_slice.ensures.value) _ c.in_ok-names.ensures (c.new-2.ensures ∙ c.in_ok-instances.ensures)
          (c.new-3.ensures ∙ c.in_ok-connections.ensures.pins) (c.new-4.ensures ∙ c.in_ok-connections.ensures.nets)).netlist;
    }

pub returns-clause-is : goal.returns-clause-is
returns-clause-is c =
    (made c.args.rules.now (subst ValidRules c.rules.view_is c.rules.invariant) _ c.args.checked.now c.checked.view_is c.checked.invariant c.in-Ok.kinds.items
    (ap (kinds_for c.args.rules.now) (sym c.as_slice-used.ensures.value) ∙ c.in-Ok.ensures)
    (record { kinds = c.new.result; height = c.greatest_height-height.result; instances = c.new-2.result; pins = c.new-3.result; nets = c.new-4.result })
    c.new.ensures (c.greatest_height-height.ensures ∙ ap greatest_height c.as_slice.ensures.value) _ c.in_ok-names.ensures (c.new-2.ensures ∙ c.in_ok-instances.ensures)
    (c.new-3.ensures ∙ c.in_ok-connections.ensures.pins) (c.new-4.ensures ∙ c.in_ok-connections.ensures.nets)).said
