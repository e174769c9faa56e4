use Rattle.std.proofs.Common.{◌≡◌, ◌<◌, ◌∙◌, ℕ, Some, length, get_or, ap, sym, arith}
use Rattle.std.proofs.lemmas.Option.{slice_get-get_or}
use Rattle.std.specs.List.{slice_get}
use Rattle.std.specs.Option.{option_map}
use Rattle.design_model.specs.PinOrder.{pin_pair}
use Rattle.design_model.specs.declared.design.Pin.{Pin}
use Rattle.design_model.proofs.PairOrder.{none-past, none-there}
use Rattle.design_model.proofs.pin_search.find_pin.Goals as goal

no_pin : Pin
no_pin = record { instance = 0; terminal = 0; net = 0 }

same_pair : (p : Pin) (instance terminal : ℕ) → p.instance ≡ instance → p.terminal ≡ terminal → Some (pin_pair p) ≡ Some (instance, terminal)
same_pair p instance terminal at here = ap (λ (n : ℕ). Some (n, p.terminal)) at ∙ ap (λ (n : ℕ). Some (instance, n)) here

pub returns-then-first-pins-clause-none : goal.returns-then-first-pins-clause-none
returns-then-first-pins-clause-none c =
    λ _. none-past c.args.pins.now (c.args.instance, c.args.terminal) c.requires.ordered (sym c.pins_before-first.ensures.is ∙ c.if-first-pins.true)

pub returns-then-pin-instance-clause-none : goal.returns-then-pin-instance-clause-none
unfolding no_pin
returns-then-pin-instance-clause-none c =
    let inside : c.pins_before-first.result < length c.args.pins.now = omega (arith, c.pins_before-first.ensures.within, c.if-first-pins.false) in
    λ _. none-there c.args.pins.now (c.args.instance, c.args.terminal) (get_or c.args.pins.now c.pins_before-first.result no_pin) c.requires.ordered
    (ap (slice_get c.args.pins.now) (sym c.pins_before-first.ensures.is) ∙ slice_get-get_or c.args.pins.now c.pins_before-first.result no_pin inside)
    (λ same. omega (arith, c.if-pin-instance.true, ap (λ (pair : ℕ × ℕ). pair.0) same))

pub returns-then-pin-terminal-clause-none : goal.returns-then-pin-terminal-clause-none
unfolding no_pin
returns-then-pin-terminal-clause-none c =
    let inside : c.pins_before-first.result < length c.args.pins.now = omega (arith, c.pins_before-first.ensures.within, c.if-first-pins.false) in
    λ _. none-there c.args.pins.now (c.args.instance, c.args.terminal) (get_or c.args.pins.now c.pins_before-first.result no_pin) c.requires.ordered
    (ap (slice_get c.args.pins.now) (sym c.pins_before-first.ensures.is) ∙ slice_get-get_or c.args.pins.now c.pins_before-first.result no_pin inside)
    (λ same. omega (arith, c.if-pin-terminal.true, ap (λ (pair : ℕ × ℕ). pair.1) same))

pub returns-clause-found : goal.returns-clause-found
unfolding no_pin
returns-clause-found c =
    let inside : c.pins_before-first.result < length c.args.pins.now = omega (arith, c.pins_before-first.ensures.within, c.if-first-pins.false) in
    ap (option_map pin_pair) (slice_get-get_or c.args.pins.now c.pins_before-first.result no_pin inside)
    ∙ same_pair (get_or c.args.pins.now c.pins_before-first.result no_pin) c.args.instance c.args.terminal
    (omega (arith, c.if-pin-instance.false)) (omega (arith, c.if-pin-terminal.false))
