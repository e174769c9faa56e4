use Rattle.std.proofs.Common.{◌≡◌, ◌≢◌, ◌∙◌, ℕ, List, Option, None, Some, true, false, map, ap, refl, sym, subst}
use Rattle.std.specs.List.{AllByRecursion}
use Rattle.std.specs.Option.{IfSome}
use Rattle.design_model.specs.Netlist.{IsNetlist, Netlist}
use Rattle.design_model.specs.PinOrder.{IsAscending, IsPinAt, instance_terminals, pin_pair, power_at}
use Rattle.design_model.specs.declared.design.Pin.{Pin}
use Rattle.design_model.proofs.PinsInOrder.{no-pin-power, pin-free, pins-ascending}
use Rattle.design_model.proofs.design.Design.pin.Goals as goal

pub find_pin-requires-clause-ordered : goal.find_pin-requires-clause-ordered
find_pin-requires-clause-ordered c =
    let good = subst (λ (d : Netlist). IsNetlist d) c.self.view_is c.self.invariant.netlist in
    subst (λ (pins : List Pin). IsAscending (map pin_pair pins)) (sym (c.items.ensures ∙ ap (λ (d : Netlist). d.pins) c.self.view_is)) (pins-ascending c.args.self.now good)

-- at a power terminal no pin is found
at_power : (d : Netlist) → IsNetlist d → (pins : List Pin) (instance terminal : ℕ) (o : Option ℕ) → pins ≡ d.pins
    → IfSome o (λ n. IsPinAt pins n instance terminal) → power_at (instance_terminals d instance) terminal ≡ Some true → o ≡ None
at_power d good pins instance terminal None is found power = refl
at_power d good pins instance terminal (Some n) is found power =
    absurd (no (sym (pin-free d good n instance terminal (subst (λ (ps : List Pin). IsPinAt ps n instance terminal) is found)) ∙ power))
  where
    no : Some false ≡ Some true → ⊥
    no e = cc

pub returns-clause-power : goal.returns-clause-power
returns-clause-power c =
    let good = subst (λ (d : Netlist). IsNetlist d) c.self.view_is c.self.invariant.netlist in
    let is = c.items.ensures ∙ ap (λ (d : Netlist). d.pins) c.self.view_is in (
      λ none. no-pin-power c.args.self.now good c.args.instance c.args.terminal c.requires.terminal
          (subst (λ (pins : List Pin). AllByRecursion (λ (p : ℕ × ℕ). p ≢ (c.args.instance, c.args.terminal)) (map pin_pair pins)) is (c.find_pin.ensures.none none)),
      at_power c.args.self.now good _ c.args.instance c.args.terminal c.find_pin.result is c.find_pin.ensures.found,
    )
