use Rattle.std.proofs.Common.{◌≡◌, ◌+◌, ◌++◌, ℕ, List, length, Option, Some, None, refl, ap, ap₂, sym, ◌∙◌, subst}
use Rattle.tech_rules.specs.Rules.{RuleValues, ValidRules}
use Rattle.design_model.specs.CellsMatch.{instance_names}
use Rattle.design_model.specs.Netlist.{IsNetlist, Netlist}
use Rattle.design_model.specs.declared.design.CellKind.{CellKind}
use Rattle.design_model.specs.declared.design.Inst.{Inst}
use Rattle.design_model.specs.declared.design.Pin.{Pin}
use Rattle.netlist_core.specs.OnGrid.{greatest_height}
use Rattle.port_rows.specs.Added.{nets_with, port_instances, port_kinds, port_pins, with_ports}
use Rattle.port_rows.specs.PortNames.{ArePorts}
use Rattle.port_rows.specs.Ported.{clash_fault, clash_of, first_among, inst_names, kind_names, limit_fault}
use Rattle.port_rows.proofs.GoodPorted.{ported-good, second-none}

-- what a design has that was made with its ports
pub record IsPorted (rules : RuleValues) (d : Netlist) (south north : List (List ℕ)) (made : Netlist) : Type 0 where
  pub netlist : IsNetlist made
  pub is : made ≡ with_ports rules d south north

pub ported-made : (rules : RuleValues) → ValidRules rules → (d : Netlist) → IsNetlist d → (south north : List (List ℕ)) → ArePorts south north
    → limit_fault d (length south + length north) ≡ None → (added : List Inst) → first_among (instance_names d) (inst_names added) ≡ None
    → added ≡ port_instances (length d.kinds) south north → (made : Netlist) → made.kinds ≡ d.kinds ++ port_kinds rules south north → made.height ≡ greatest_height made.kinds
    → made.instances ≡ d.instances ++ added → made.pins ≡ d.pins ++ port_pins (nets_with d.nets (south ++ north)) (length d.instances) (south ++ north)
    → made.nets ≡ nets_with d.nets (south ++ north) → IsPorted rules d south north made
ported-made rules valid d good south north ports small added free is_added made is_kinds is_height is_instances is_pins is_nets =
    let kinds = d.kinds ++ port_kinds rules south north in
    let pins = d.pins ++ port_pins (nets_with d.nets (south ++ north)) (length d.instances) (south ++ north) in
    let instances = d.instances ++ port_instances (length d.kinds) south north in
    let high : made.height ≡ greatest_height kinds = is_height ∙ ap greatest_height is_kinds in
    let placed : made.instances ≡ instances = is_instances ∙ ap (λ (l : List Inst). d.instances ++ l) is_added in
    let is : made ≡ with_ports rules d south north =
    ap (λ (x : List CellKind). record made { kinds = x }) is_kinds
    ∙ ap (λ (x : ℕ). record made { kinds = kinds; height = x }) high
    ∙ ap (λ (x : List Inst). record made { kinds = kinds; height = greatest_height kinds; instances = x }) placed
    ∙ ap (λ (x : List Pin). record made { kinds = kinds; height = greatest_height kinds; instances = instances; pins = x }) is_pins
    ∙ ap (λ (x : List (List ℕ)). record (with_ports rules d south north) { nets = x }) is_nets in
    let none = subst (λ (l : List Inst). first_among (instance_names d) (inst_names l) ≡ None) is_added free in
    record {
      netlist = subst IsNetlist (sym is) (ported-good rules valid d good south north ports small none);
      is = is;
    }

-- where no name clashes, none of the instances' does
pub clash-free : (modules : List (List ℕ)) (d : Netlist) (kinds : List CellKind) (instances : List Inst) → clash_fault modules d kinds instances ≡ None
    → first_among (instance_names d) (inst_names instances) ≡ None
unfolding clash_fault
clash-free modules d kinds instances h = none (first_among (instance_names d) (inst_names instances)) (second-none (clash_of (first_among modules (kind_names kinds))) _ h)
  where
    none : (o : Option (List ℕ)) → clash_of o ≡ None → o ≡ None
    none None e = refl
    none (Some name) e = cc

-- items behind others
pub behind : {X : Type 0} (whole first more old new : List X) → whole ≡ first ++ more → first ≡ old → more ≡ new → whole ≡ old ++ new
behind {X = X} whole first more old new is is_first is_more = is ∙ ap₂ (λ (a b : List X). a ++ b) is_first is_more
