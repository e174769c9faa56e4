use Rattle.std.proofs.Common.{◌≡◌, ◌<◌, ◌≤◌, ◌++◌, ℕ, List, Some, length, map, slice_get}
use Rattle.std.specs.List.{filter, AllByRecursion}
use Rattle.std.specs.Option.{option_map}
use Rattle.std.specs.Prelude.{nat_eq}
use Rattle.design_model.specs.declared.design.Pin.{Pin}
use Rattle.list_facts.specs.Lists.{list_there}
use Rattle.row_board.specs.NetPins.{net_pin, net_pins, own_pin, pin_with_net, pins_of_instance, AreInstancePins}
use Rattle.row_board.specs.declared.net_pins.InstancePin.{InstancePin}
use Rattle.row_board.specs.declared.net_pins.NetPin.{NetPin}
use Rattle.row_board.proofs.net_pins.pin_tables.Given as goal

abbrev pub invariant-loop-pin : goal.invariant-loop-pin
invariant-loop-pin l = record {
  within : AllByRecursion (λ (p : Pin). p.net ≤ length l.design.nets) l.rest;
  by_net : (n : ℕ) → n ≤ length l.design.nets
      → option_map (λ (xs : List NetPin). xs ++ map (net_pin l.design) (filter (λ (p : Pin). nat_eq p.net n) l.rest)) (slice_get l.by_net n) ≡ Some (net_pins l.design n);
  there : (i : ℕ) → i < length l.design.instances → (xs : List InstancePin) × (slice_get l.by_instance i ≡ Some xs);
  by_instance : (i : ℕ) → i < length l.design.instances
      → AreInstancePins (λ (n : ℕ). list_there (slice_get l.by_net n)) (length l.design.nets) i (list_there (slice_get l.by_instance i));
  in_order : (i : ℕ) → i < length l.design.instances
      → map (own_pin i) (list_there (slice_get l.by_instance i)) ++ map (pin_with_net l.design) (filter (λ (p : Pin). nat_eq p.instance i) l.rest)
      ≡ map (pin_with_net l.design) (pins_of_instance l.design i);
}

abbrev pub decreases-loop-pin : goal.decreases-loop-pin
decreases-loop-pin l = length l.rest
