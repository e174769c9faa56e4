-- the kinds, instances, pins and nets of ports
use Rattle.std.specs.Prelude.{ℕ, ◌+◌, List, [], ◌∷◌, ◌++◌, length, map, fold, codes, Bool, true, false}
use Rattle.list_facts.specs.Names.{mention, place_among}
use Rattle.tech_rules.specs.Rules.{RuleValues}
use Rattle.design_model.specs.Room.{least_height}
use Rattle.design_model.specs.Netlist.{Netlist}
use Rattle.design_model.specs.declared.design.CellKind.{CellKind}
use Rattle.design_model.specs.declared.design.Inst.{Inst}
use Rattle.design_model.specs.declared.design.Pin.{Pin}
use Rattle.netlist_core.specs.OnGrid.{greatest_height}

-- the kind of ports of this name: a column wide, as low as cells may be, with one terminal at one edge
unfoldable pub port_kind : RuleValues → List ℕ → Bool → CellKind
port_kind rules name top = record {
  name = name;
  columns = 1;
  height = least_height rules;
  terminals = record { name = codes "p"; power = false } ∷ [];
  positions = record { terminal = 0; top = top; column = 0 } ∷ [];
}

abbrev pub south_kind : RuleValues → CellKind
south_kind rules = port_kind rules (codes "port_south") true

abbrev pub north_kind : RuleValues → CellKind
north_kind rules = port_kind rules (codes "port_north") false

-- a kind, if there are ports of it
abbrev pub kind_for : CellKind → List (List ℕ) → List CellKind
kind_for kind [] = []
kind_for kind (name ∷ names) = kind ∷ []

-- the kinds of ports, of which these stand at the lower edge and those at the upper: their pins point into the layout
abbrev pub port_kinds : RuleValues → List (List ℕ) → List (List ℕ) → List CellKind
port_kinds rules south north = kind_for (south_kind rules) south ++ kind_for (north_kind rules) north

-- the name of a port's instance
abbrev pub instance_name : List ℕ → List ℕ
instance_name port = codes "port:" ++ port

abbrev pub port_instance : ℕ → List ℕ → Inst
port_instance kind port = record { name = instance_name port; kind = kind }

-- the number of the kind of ports at the upper edge, behind so many kinds
abbrev pub north_number : ℕ → List (List ℕ) → ℕ
north_number kinds [] = kinds
north_number kinds (port ∷ ports) = kinds + 1

-- the instances of ports, behind so many kinds
abbrev pub port_instances : ℕ → List (List ℕ) → List (List ℕ) → List Inst
port_instances kinds south north = map (port_instance kinds) south ++ map (port_instance (north_number kinds south)) north

-- the pins of ports, the first of which is instance n: each on the net of the signal that it names
abbrev pub port_pins : List (List ℕ) → ℕ → List (List ℕ) → List Pin
port_pins nets n [] = []
port_pins nets n (port ∷ ports) = record { instance = n; terminal = 0; net = place_among nets port + 1 } ∷ port_pins nets (n + 1) ports

-- the nets with those of ports, behind them where no pin has the signal
unfoldable pub nets_with : List (List ℕ) → List (List ℕ) → List (List ℕ)
nets_with nets ports = fold mention nets ports

-- a design with these ports at its lower and those at its upper edge
abbrev pub with_ports : RuleValues → Netlist → List (List ℕ) → List (List ℕ) → Netlist
with_ports rules d south north = record {
  kinds = d.kinds ++ port_kinds rules south north;
  height = greatest_height (d.kinds ++ port_kinds rules south north);
  instances = d.instances ++ port_instances (length d.kinds) south north;
  pins = d.pins ++ port_pins (nets_with d.nets (south ++ north)) (length d.instances) (south ++ north);
  nets = nets_with d.nets (south ++ north);
}
