use Rattle.std.proofs.Common.{◌≡◌, ℕ, pos, List, [], ◌∷◌, map, true, false, None, Some, Ok, Err, refl}
use Rattle.std.specs.Prelude.{codes}
use Rattle.tech_rules.specs.Rules.{RuleValues}
use Rattle.tech_rules.specs.declared.sections.StartBy.TheVariants.{Width}
use Rattle.design_model.specs.Netlist.{Netlist}
use Rattle.yal_reader.specs.declared.file.Flow.{Flow}
use Rattle.yal_reader.specs.declared.file.Flow.TheVariants as flows
use Rattle.yal_reader.specs.declared.file.Kind.TheVariants as kinds
use Rattle.yal_reader.specs.declared.file.Line.{Line}
use Rattle.yal_reader.specs.declared.file.YalFile.{YalFile}
use Rattle.netlist_core.specs.Answers.{each}
use Rattle.netlist_core.specs.Calls.{call_fault, calls_fault}
use Rattle.netlist_core.specs.Cells.{grid_of, grid_positions, kind_fault, kind_of}
use Rattle.netlist_core.specs.OnGrid.{calls_design, kinds_for, on_grid, used_design, used_modules}
use Rattle.netlist_core.specs.Outline.{are_pairs, between, has_turns}
use Rattle.netlist_core.specs.Signals.{all_signals, nets_of}
use Rattle.row_model.specs.Start.{upright}
use Rattle.port_rows.specs.Added.{nets_with, port_kind, port_pins, with_ports}
use Rattle.port_rows.specs.PortRows.{with_port_rows}
use Rattle.port_rows.specs.PortWords.{ported_word}
use Rattle.port_rows.specs.Ported.{clash_fault, limit_fault, port_fault, ported_of, ported_with}
use Rattle.port_rows.specs.Ports.{first_lines, north_ports, south_ports}
use Rattle.port_rows.specs.declared.fault.PortFault.TheVariants as faults

-- rules whose pins are 4 long and whose vertical wires keep 3 apart
abbrev rules : RuleValues
rules = record {
  version = 1;
  yal = codes "POLY";
  decimals = 0;
  grid = record { column = 8; track = 8; centi = 100; pin = 4 };
  horizontal = record { layer = codes "NM"; width = 3; space = 3 };
  vertical = record { layer = codes "NP"; width = 3; space = 3 };
  cut = record { layer = codes "NC"; size = 2; enclose = 1; space = 3 };
  outline = record { layer = codes "XP" };
  annealing = record { temperature = 1000; stages = 0; moves = 4; row_cost = 4; length_cost = 1; start = Width };
}

abbrev line : List ℕ → Flow → Line
line name flow = record { name = name; flow = flow; spot = None }

-- a cell with a pin below, on net n1
abbrev inverter : Netlist
inverter = record {
  kinds = record {
    name = codes "INV";
    columns = 1;
    height = 40;
    terminals = record { name = codes "a"; power = false } ∷ [];
    positions = record { terminal = 0; top = false; column = 0 } ∷ [];
  } ∷ [];
  height = 40;
  instances = record { name = codes "u1"; kind = 0 } ∷ [];
  pins = record { instance = 0; terminal = 0; net = 1 } ∷ [];
  nets = codes "n1" ∷ [];
}

-- and with a port at the lower edge on its net
abbrev inverter-ported : Netlist
inverter-ported = record inverter {
  kinds = record {
    name = codes "INV";
    columns = 1;
    height = 40;
    terminals = record { name = codes "a"; power = false } ∷ [];
    positions = record { terminal = 0; top = false; column = 0 } ∷ [];
  } ∷ record {
    name = codes "port_south";
    columns = 1;
    height = 11;
    terminals = record { name = codes "p"; power = false } ∷ [];
    positions = record { terminal = 0; top = true; column = 0 } ∷ [];
  } ∷ [];
  instances = record { name = codes "u1"; kind = 0 } ∷ record { name = codes "port:n1"; kind = 1 } ∷ [];
  pins = record { instance = 0; terminal = 0; net = 1 } ∷ record { instance = 1; terminal = 0; net = 1 } ∷ [];
}

inverter-south : south_ports (line (codes "n1") flows.I ∷ []) ≡ codes "n1" ∷ []
unfolding first_lines
inverter-south = refl

inverter-north : north_ports (line (codes "n1") flows.I ∷ []) ≡ []
unfolding first_lines
inverter-north = refl

inverter-port : ported_with rules (codes "INV" ∷ codes "top" ∷ []) inverter (codes "n1" ∷ []) []
    ≡ Ok (record { design = inverter-ported; south = 1; north = 0 })
unfolding port_fault limit_fault clash_fault nets_with port_kind
inverter-port = refl

-- the same of the file
abbrev inverter-file : YalFile
inverter-file = record {
  modules = record {
    name = codes "INV";
    kind = kinds.Standard;
    corners = pos 0 ∷ pos 0 ∷ pos 8 ∷ pos 0 ∷ pos 8 ∷ pos 40 ∷ pos 0 ∷ pos 40 ∷ [];
    lines = record { name = codes "a"; flow = flows.I; spot = Some (record { x = pos 4; y = pos 0; layer = codes "POLY" }) } ∷ [];
    calls = [];
  } ∷ record {
    name = codes "top";
    kind = kinds.Parent;
    corners = [];
    lines = line (codes "n1") flows.I ∷ [];
    calls = record { name = codes "u1"; «module» = codes "INV"; signals = codes "n1" ∷ [] } ∷ [];
  } ∷ [];
}

inverter-design : on_grid rules inverter-file ≡ Ok inverter
unfolding on_grid calls_design used_design used_modules kinds_for all_signals nets_of calls_fault call_fault each are_pairs has_turns between grid_positions kind_fault grid_of kind_of
inverter-design = refl

inverter-ports : ported_of rules inverter-file inverter ≡ Ok (record { design = inverter-ported; south = 1; north = 0 })
unfolding ported_of first_lines port_fault limit_fault clash_fault nets_with port_kind
inverter-ports = refl

-- both pins have the signal n1
inverter-words : map (ported_word inverter-file) inverter-ported.pins ≡ Some (codes "n1") ∷ Some (codes "n1") ∷ []
unfolding first_lines
inverter-words = refl

-- its row stands above that of the port
inverter-rows : with_port_rows (record { design = inverter-ported; south = 1; north = 0 }) ((upright 0 ∷ []) ∷ []) ≡ (upright 1 ∷ []) ∷ (upright 0 ∷ []) ∷ []
unfolding with_port_rows
inverter-rows = refl

-- ports on both edges: the lower one on a new net
both-ports : with_port_rows (record { design = with_ports rules inverter (codes "x" ∷ codes "y" ∷ []) (codes "n1" ∷ []); south = 2; north = 1 }) ((upright 0 ∷ []) ∷ [])
    ≡ (upright 1 ∷ upright 2 ∷ []) ∷ (upright 0 ∷ []) ∷ (upright 3 ∷ []) ∷ []
unfolding with_port_rows
both-ports = refl

new-net : nets_with (codes "n1" ∷ []) (codes "x" ∷ codes "n1" ∷ codes "y" ∷ []) ≡ codes "n1" ∷ codes "x" ∷ codes "y" ∷ []
unfolding nets_with
new-net = refl

net-numbers : port_pins (nets_with (codes "n1" ∷ []) (codes "x" ∷ codes "n1" ∷ [])) 5 (codes "x" ∷ codes "n1" ∷ [])
    ≡ record { instance = 5; terminal = 0; net = 2 } ∷ record { instance = 6; terminal = 0; net = 1 } ∷ []
unfolding nets_with
net-numbers = refl

-- a name with a line of power is no port, whichever line that is
power-later : south_ports (line (codes "x") flows.I ∷ line (codes "x") flows.PWR ∷ line (codes "y") flows.B ∷ line (codes "z") flows.GND ∷ line (codes "z") flows.I ∷ []) ≡ codes "y" ∷ []
unfolding first_lines
power-later = refl

-- the first line tells the side
first-in : south_ports (line (codes "x") flows.I ∷ line (codes "x") flows.O ∷ []) ≡ codes "x" ∷ []
unfolding first_lines
first-in = refl

first-in-only : north_ports (line (codes "x") flows.I ∷ line (codes "x") flows.O ∷ []) ≡ []
unfolding first_lines
first-in-only = refl

outputs : north_ports (line (codes "x") flows.PO ∷ line (codes "y") flows.O ∷ line (codes "w") flows.PI ∷ line (codes "x") flows.I ∷ []) ≡ codes "x" ∷ codes "y" ∷ []
unfolding first_lines
outputs = refl

others : south_ports (line (codes "x") flows.PO ∷ line (codes "y") flows.O ∷ line (codes "w") flows.PI ∷ line (codes "v") flows.F ∷ []) ≡ codes "w" ∷ codes "v" ∷ []
unfolding first_lines
others = refl

-- names that are there already
instance-there : ported_with rules (codes "INV" ∷ codes "top" ∷ []) (record inverter { instances = record { name = codes "port:n1"; kind = 0 } ∷ [] }) (codes "n1" ∷ []) []
    ≡ Err (faults.Clash (codes "port:n1"))
unfolding port_fault limit_fault clash_fault port_kind
instance-there = refl

module-there : port_fault rules (codes "port_north" ∷ []) inverter [] (codes "n1" ∷ []) ≡ Some (faults.Clash (codes "port_north"))
unfolding port_fault limit_fault clash_fault port_kind
module-there = refl

no-such-kind : port_fault rules (codes "port_north" ∷ []) inverter (codes "n1" ∷ []) [] ≡ None
unfolding port_fault limit_fault clash_fault port_kind
no-such-kind = refl
