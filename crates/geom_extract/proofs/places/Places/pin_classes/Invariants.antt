use Rattle.std.proofs.Common.{◌≡◌, ◌++◌, drop, map}
use Rattle.std.specs.Prelude.{slice_index}
use Rattle.design_model.specs.declared.design.Pin.{Pin}
use Rattle.geom_extract.specs.CellTies.{pin_shape}
use Rattle.geom_extract.proofs.places.Places.pin_classes.Given as goal

abbrev pub invariant-loop-pin : goal.invariant-loop-pin
invariant-loop-pin l =
    l.numbers.items ++ map (λ (p : Pin). slice_index l.classes (pin_shape l.self.design l.self.starts p)) (drop l.pin-index l.pins)
    ≡ map (λ (p : Pin). slice_index l.classes (pin_shape l.self.design l.self.starts p)) l.pins
