-- the pins of nets and the nets of instances
use Rattle.std.specs.Prelude.{◌≡◌, ℕ, ◌+◌, ◌*◌, ◌<◌, ◌≤◌, ◌==◌, List, length, map, filter, Bool, true, false, if◌then◌else◌, Option, None, Some, nat_lt, slice_get}
use Rattle.std.specs.List.{Contains}
use Rattle.design_model.specs.Netlist.{Netlist}
use Rattle.list_facts.specs.Lists.{list_there}
use Rattle.design_model.specs.declared.design.Pin.{Pin}
use Rattle.row_board.specs.Cost.{pins_of_net, spread}
use Rattle.row_board.specs.Standings.{standing_of}
use Rattle.row_model.specs.Stands.{first_column, turned_column}
use Rattle.row_model.specs.Widths.{columns_of}
use Rattle.row_board.specs.declared.net_pins.NetPin.{NetPin}
use Rattle.row_board.specs.declared.net_pins.InstancePin.{InstancePin}
use Rattle.row_board.specs.Spot.{Spot}
use Rattle.row_board.specs.Weights.{Weighing}

-- how far a pin stands from the left side of its cell, which may be mirrored
abbrev pub offset_of : Bool → ℕ → Option ℕ → ℕ
offset_of mirror columns None = 0
offset_of mirror columns (Some column) = turned_column mirror columns column

-- a pin as its net has it
abbrev pub net_pin : Netlist → Pin → NetPin
net_pin d p = record {
  instance = p.instance;
  upright = offset_of false (columns_of d p.instance) (first_column d p);
  mirrored = offset_of true (columns_of d p.instance) (first_column d p);
}

-- the pins of a net, as it has them
abbrev pub net_pins : Netlist → ℕ → List NetPin
net_pins d net = map (net_pin d) (pins_of_net d net)

-- a pin of an instance, as its net has it
abbrev pub as_net_pin : ℕ → InstancePin → NetPin
as_net_pin instance p = record { instance = instance; upright = p.upright; mirrored = p.mirrored }

-- a table has the pins of each net
pub record ArePins (d : Netlist) (pins : List (List NetPin)) : Type 0 where
  pub each : (net : ℕ) → net ≤ length d.nets → slice_get pins net ≡ Some (net_pins d net)

-- pins are those of an instance where so many nets have such pins: each stands at its place in its net, and each of the instance that stands in a net is among them
pub record AreInstancePins (nets : ℕ → List NetPin) (count instance : ℕ) (pins : List InstancePin) : Type 0 where
  pub each : (p : InstancePin) → Contains pins p → p.net ≤ count → slice_get (nets p.net) p.place ≡ Some (as_net_pin instance p)
  pub all : (net place : ℕ) (q : NetPin) → net ≤ count → slice_get (nets net) place ≡ Some q → q.instance ≡ instance
      → (p : InstancePin) × Contains pins p × (p.net ≡ net) × (p.place ≡ place)

-- a table has the pins of each instance
pub record ArePinsByInstance (d : Netlist) (pins : List (List InstancePin)) : Type 0 where
  pub each : (instance : ℕ) → instance < length d.instances → AreInstancePins (net_pins d) (length d.nets) instance (list_there (slice_get pins instance))

-- a pin of an instance with its net, as an instance has it and as a design does
abbrev pub own_pin : ℕ → InstancePin → ℕ × NetPin
own_pin instance p = (p.net, as_net_pin instance p)

abbrev pub pin_with_net : Netlist → Pin → ℕ × NetPin
pin_with_net d p = (p.net, net_pin d p)

abbrev pub pins_of_instance : Netlist → ℕ → List Pin
pins_of_instance d instance = filter (λ (p : Pin). p.instance == instance) d.pins

-- a table has the pins of each instance in their order, each once
pub record AreInOrder (d : Netlist) (pins : List (List InstancePin)) : Type 0 where
  pub each : (instance : ℕ) → instance < length d.instances
      → map (own_pin instance) (list_there (slice_get pins instance)) ≡ map (pin_with_net d) (pins_of_instance d instance)

-- how far a pin is from the left side of its cell, which may be mirrored
abbrev pub offset_in : NetPin → Bool → ℕ
offset_in p mirror = if mirror then p.mirrored else p.upright

-- the column and the row of a pin by a table
abbrev pub pin_column : List Spot → NetPin → ℕ
pin_column standings p = (standing_of standings p.instance).left + offset_in p (standing_of standings p.instance).mirror

abbrev pub pin_row : List Spot → NetPin → ℕ
pin_row standings p = (standing_of standings p.instance).row

-- what a net with these pins costs by a table
unfoldable pub measured : ℕ → List Spot → List NetPin → ℕ
measured row_cost standings pins = spread (map (pin_column standings) pins) + row_cost * spread (map (pin_row standings) pins)

-- what a net of a design costs by a table
abbrev pub cost_by : Netlist → Weighing → List Spot → ℕ → ℕ
cost_by d w standings net = measured w.row_cost standings (net_pins d net)

-- 1 where the net of an instance's pin has other pins by a table of nets
abbrev pub joined_by : List (List NetPin) → InstancePin → ℕ
joined_by nets p = if nat_lt 1 (length (list_there (slice_get nets p.net))) then 1 else 0
