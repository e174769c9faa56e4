-- numbers of shapes and pins
use Rattle.std.specs.Prelude.{◌≡◌, ◌<◌, ◌↔◌, ℕ, length, Some, slice_get, slice_index}
use Rattle.geom_core.specs.declared.layout.Layout.{Layout}
use Rattle.tech_rules.specs.Rules.{RuleValues}
use Rattle.design_model.specs.Joined.{DrawsPin, Joined, PinsJoined}
use Rattle.design_model.specs.Netlist.{Netlist}
use Rattle.design_model.specs.declared.design.Pin.{Pin}
use Rattle.geom_extract.specs.declared.joined.Extract.{Extract}

-- a number for each shape of a layout and for each pin of a design: shapes have equal numbers exactly where they are joined, and pins exactly where they are;
-- a pin has the number of each of its shapes
pub record IsExtract (r : RuleValues) (d : Netlist) (l : Layout) (e : Extract) : Type 0 where
  pub all_shapes : length e.shapes.items ≡ length l.shapes
  pub all_pins : length e.pins.items ≡ length d.pins
  pub shapes : (x y : ℕ) → x < length l.shapes → y < length l.shapes
      → (slice_index e.shapes.items x ≡ slice_index e.shapes.items y) ↔ Joined r d l x y
  pub pins : (p q : ℕ) (a b : Pin) → slice_get d.pins p ≡ Some a → slice_get d.pins q ≡ Some b
      → (slice_index e.pins.items p ≡ slice_index e.pins.items q) ↔ PinsJoined r d l a b
  pub drawn : (p x : ℕ) (a : Pin) → slice_get d.pins p ≡ Some a → DrawsPin d l a x → slice_index e.pins.items p ≡ slice_index e.shapes.items x
