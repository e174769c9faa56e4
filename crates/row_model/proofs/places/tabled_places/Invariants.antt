use Rattle.std.proofs.Common.{◌≡◌, ◌<◌, ◌++◌, length, map}
use Rattle.std.specs.List.{AllByRecursion}
use Rattle.design_model.specs.declared.design.Pin.{Pin}
use Rattle.row_model.specs.PinPlaces.{pin_place}
use Rattle.row_model.proofs.places.tabled_places.Given as goal

abbrev pub invariant-loop-pin : goal.invariant-loop-pin
invariant-loop-pin l = record {
  same : l.places.items ++ map (pin_place l.placed.design l.placed.rows) l.rest ≡ map (pin_place l.placed.design l.placed.rows) l.placed.design.pins;
  within : AllByRecursion (λ (p : Pin). p.instance < length l.placed.design.instances) l.rest;
}

abbrev pub decreases-loop-pin : goal.decreases-loop-pin
decreases-loop-pin l = length l.rest
