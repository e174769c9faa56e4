use Rattle.std.proofs.Common.{rules, ◌≡◌, ◌<◌, ◌≤◌, ◌++◌, [], ◌∷◌, ℕ, List, length, map, refl, ap, sym, ◌∙◌, arith, subst, append-nil}
use Rattle.std.specs.List.{filter, slice_get, AllByRecursion}
use Rattle.std.specs.Option.{option_map}
use Rattle.std.specs.Prelude.{nat_eq}
use Rattle.std.proofs.lemmas.List.Elements.{recursion_from_All}
use Rattle.design_model.specs.Netlist.{IsNetlist, Netlist}
use Rattle.design_model.specs.declared.design.Pin.{Pin}
use Rattle.list_facts.specs.Lists.{list_there, with_item}
use Rattle.row_board.specs.NetPins.{net_pin, net_pins, own_pin, pin_with_net}
use Rattle.row_board.specs.declared.net_pins.InstancePin.{InstancePin}
use Rattle.row_board.specs.declared.net_pins.NetPin.{NetPin}
use Rattle.row_board.proofs.PinTableLaws.{held, net-short, nets-more, own-more, pins-all, pins-push, there-with}
use Rattle.std_laws.proofs.Every.{every-weaker}
use Rattle.row_board.proofs.net_pins.pin_tables.Goals as goal

pub overflow_cast-own : goal.overflow_cast-own
overflow_cast-own c =
    let d = c.args.design.now in
    let good : IsNetlist d = subst IsNetlist c.design.view_is c.design.invariant.netlist in
    let net : ℕ = c.in-Some.pin.now.net in
    let within = subst (AllByRecursion (λ (p : Pin). p.net ≤ length d.nets)) c.in-Some.ensures.cases.0 c.loop-pin.invariant.within in
    let short = held (slice_get c.loop-pin.by_net net) _ (net_pins d net) (c.loop-pin.invariant.by_net net within.0) in
    omega (arith, ap length c.at.ensures, short.2, net-short d net good)

pub loop-pin-init : goal.loop-pin-init
loop-pin-init c =
    let d = c.args.design.now in
    let good : IsNetlist d = subst IsNetlist c.design.view_is c.design.invariant.netlist in
    let pins : c.items-rest.result.now ≡ d.pins = c.items-rest.ensures ∙ ap (λ (v : Netlist). v.pins) c.design.view_is in
    record {
      within = subst (AllByRecursion (λ (p : Pin). p.net ≤ length d.nets)) (sym pins)
          (every-weaker (λ (p : Pin). (0 < p.net) × (p.net ≤ length d.nets)) (λ (p : Pin). p.net ≤ length d.nets) (λ p is. is.1) d.pins
          (recursion_from_All (λ (p : Pin). (0 < p.net) × (p.net ≤ length d.nets)) d.pins good.nets));
      by_net = search rules;
      there = search rules;
      by_instance = search rules;
      in_order = λ i below.
          ap (λ (l : List InstancePin). map (own_pin i) l ++ map (pin_with_net d) (filter (λ (p : Pin). nat_eq p.instance i) c.items-rest.result.now))
          (ap list_there (c.in_ok-by_instance.ensures i (omega (arith, below, ap length c.items-2.ensures, ap (λ (v : Netlist). length v.instances) c.design.view_is))))
          ∙ ap (λ (ps : List Pin). map (pin_with_net d) (filter (λ (p : Pin). nat_eq p.instance i) ps)) pins;
    }

pub loop-pin-preserved : goal.loop-pin-preserved
loop-pin-preserved c =
    let d = c.args.design.now in
    let p = c.in-Some.pin.now in
    let one = c.net_pin-one.result in
    let rest = c.in-Some.ensures.cases.0 in
    let within = subst (AllByRecursion (λ (p : Pin). p.net ≤ length d.nets)) rest c.loop-pin.invariant.within in
    let is : one ≡ net_pin d p = c.net_pin-one.ensures ∙ ap (λ (v : Netlist). net_pin v p) c.in_ok-tables.ensures in
    let own : InstancePin = record { net = p.net; place = length c.at.result.now; upright = one.upright; mirrored = one.mirrored } in
    record {
      within = within.1;
      by_net = λ n few. nets-more d n p one c.loop-pin.rest.now c.in-Some.after.now _ _ rest is (c.in_ok-push.ensures n) ∙ c.loop-pin.invariant.by_net n few;
      there = λ i below.
          let xs = c.loop-pin.invariant.there i below in
          (with_item (nat_eq p.instance i) own xs.0, c.in_ok-push-2.ensures i ∙ ap (option_map (with_item (nat_eq p.instance i) own)) xs.1);
      by_instance = λ i below.
          let xs = c.loop-pin.invariant.there i below in
          pins-push (λ (n : ℕ). list_there (slice_get c.loop-pin.by_net n)) (λ (n : ℕ). list_there (slice_get c.push.new.self n)) (length d.nets) i
          (list_there (slice_get c.loop-pin.by_instance i)) (list_there (slice_get c.push-in-Some.new.self i)) own one
          (λ n few. there-with (nat_eq p.net n) one (slice_get c.loop-pin.by_net n) (slice_get c.push.new.self n) (list_there (slice_get c.loop-pin.by_net n))
          (held (slice_get c.loop-pin.by_net n) _ (net_pins d n) (c.loop-pin.invariant.by_net n few)).0 (c.in_ok-push.ensures n))
          (there-with (nat_eq p.instance i) own (slice_get c.loop-pin.by_instance i) (slice_get c.push-in-Some.new.self i) xs.0 xs.1 (c.in_ok-push-2.ensures i)
          ∙ ap (λ (k : ℕ). with_item (nat_eq k i) own (list_there (slice_get c.loop-pin.by_instance i))) (sym (ap (λ (q : NetPin). q.instance) is)))
          refl (ap length c.at.ensures) (c.loop-pin.invariant.by_instance i below);
      in_order = λ i below.
          let xs = c.loop-pin.invariant.there i below in
          own-more d i p own one (list_there (slice_get c.loop-pin.by_instance i)) (list_there (slice_get c.push-in-Some.new.self i)) c.loop-pin.rest.now c.in-Some.after.now rest is refl refl refl
          (there-with (nat_eq p.instance i) own (slice_get c.loop-pin.by_instance i) (slice_get c.push-in-Some.new.self i) xs.0 xs.1 (c.in_ok-push-2.ensures i))
          ∙ c.loop-pin.invariant.in_order i below;
    }

length-zero : (ps : List Pin) → length ps ≡ 0 → ps ≡ []
length-zero [] none = refl
length-zero (p ∷ ps) none = absurd (omega (arith, none))

pub returns-clause-by_instance : goal.returns-clause-by_instance
returns-clause-by_instance c =
    let d = c.args.design.now in
    let none : c.loop-pin.rest.now ≡ [] = length-zero c.loop-pin.rest.now c.in_default.ensures.cases in
    record {
      each = λ i below.
          pins-all (λ (n : ℕ). list_there (slice_get c.loop-pin.by_net n)) (net_pins d) (length d.nets) i (list_there (slice_get c.loop-pin.by_instance i))
          (λ n few. sym (append-nil (list_there (slice_get c.loop-pin.by_net n)))
          ∙ ap (λ (ps : List Pin). list_there (slice_get c.loop-pin.by_net n) ++ map (net_pin d) (filter (λ (q : Pin). nat_eq q.net n) ps)) (sym none)
          ∙ (held (slice_get c.loop-pin.by_net n) _ (net_pins d n) (c.loop-pin.invariant.by_net n few)).1)
          (c.loop-pin.invariant.by_instance i below);
    }

pub returns-clause-in_order : goal.returns-clause-in_order
returns-clause-in_order c =
    let d = c.args.design.now in
    let none : c.loop-pin.rest.now ≡ [] = length-zero c.loop-pin.rest.now c.in_default.ensures.cases in
    record {
      each = λ i below.
          sym (append-nil (map (own_pin i) (list_there (slice_get c.loop-pin.by_instance i))))
          ∙ ap (λ (ps : List Pin). map (own_pin i) (list_there (slice_get c.loop-pin.by_instance i)) ++ map (pin_with_net d) (filter (λ (p : Pin). nat_eq p.instance i) ps)) (sym none)
          ∙ c.loop-pin.invariant.in_order i below;
    }
