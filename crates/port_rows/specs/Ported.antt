-- the design with its ports, or the first refusal
use Rattle.std.specs.Prelude.{◌≡◌, ℕ, ◌+◌, List, length, map, nat_lt, if◌then◌else◌, find, Option, None, Some, Result, Ok, Err}
use Rattle.std.specs.List.{list_any}
use Rattle.std.specs.Str.{bytes_eq}
use Rattle.limits.specs.declared.TheConstants.{MOST_INSTANCES, MOST_PINS}
use Rattle.tech_rules.specs.Rules.{RuleValues}
use Rattle.yal_reader.specs.Kept.{module_names}
use Rattle.yal_reader.specs.declared.file.YalFile.{YalFile}
use Rattle.design_model.specs.CellsMatch.{instance_names}
use Rattle.design_model.specs.Netlist.{Netlist}
use Rattle.design_model.specs.declared.design.CellKind.{CellKind}
use Rattle.design_model.specs.declared.design.Inst.{Inst}
use Rattle.netlist_core.specs.declared.fault.Count.{Count}
use Rattle.netlist_core.specs.declared.fault.Count.TheVariants.{Instances, Pins}
use Rattle.port_rows.specs.Added.{port_instances, port_kinds, with_ports}
use Rattle.port_rows.specs.Ports.{north_ports, parent_lines, south_ports}
use Rattle.port_rows.specs.declared.fault.PortFault.{PortFault}
use Rattle.port_rows.specs.declared.fault.PortFault.TheVariants as faults
use Rattle.port_rows.specs.declared.ported.Ported.{Ported}

-- the fault of more than so many
abbrev pub over : Count → ℕ → ℕ → Option PortFault
over count most n = if nat_lt most n then Some (faults.Limit count n) else None

-- the first of two faults
abbrev pub or_fault : Option PortFault → Option PortFault → Option PortFault
or_fault None next = next
or_fault (Some fault) next = Some fault

-- the fault of a name that is there already, if it is
abbrev pub clash_of : Option (List ℕ) → Option PortFault
clash_of None = None
clash_of (Some name) = Some (faults.Clash name)

-- the first of these names that is there already
abbrev pub first_among : List (List ℕ) → List (List ℕ) → Option (List ℕ)
first_among there names = find (λ (name : List ℕ). list_any (bytes_eq name) there) names

abbrev pub kind_names : List CellKind → List (List ℕ)
kind_names kinds = map (λ (k : CellKind). k.name) kinds

abbrev pub inst_names : List Inst → List (List ℕ)
inst_names instances = map (λ (i : Inst). i.name) instances

-- with so many ports a design has too many instances, or too many pins
unfoldable pub limit_fault : Netlist → ℕ → Option PortFault
limit_fault d ports =
    or_fault (over Instances MOST_INSTANCES (length d.instances + ports)) (over Pins MOST_PINS (length d.pins + ports))

-- a module has the name of a kind of ports, or an instance that of a port's
unfoldable pub clash_fault : List (List ℕ) → Netlist → List CellKind → List Inst → Option PortFault
clash_fault modules d kinds instances =
    or_fault (clash_of (first_among modules (kind_names kinds))) (clash_of (first_among (instance_names d) (inst_names instances)))

-- what is wrong with a design that gets these ports at its lower and those at its upper edge
unfoldable pub port_fault : RuleValues → List (List ℕ) → Netlist → List (List ℕ) → List (List ℕ) → Option PortFault
port_fault rules modules d south north =
    or_fault (limit_fault d (length south + length north))
    (clash_fault modules d (port_kinds rules south north) (port_instances (length d.kinds) south north))

-- an answer, unless there is a fault
abbrev pub unless : Option PortFault → Ported → Result Ported PortFault
unless None ported = Ok ported
unless (Some fault) ported = Err fault

abbrev pub ported_with : RuleValues → List (List ℕ) → Netlist → List (List ℕ) → List (List ℕ) → Result Ported PortFault
ported_with rules modules d south north =
    unless (port_fault rules modules d south north) (record { design = with_ports rules d south north; south = length south; north = length north })

-- the design of a file with its ports, or the first refusal
unfoldable pub ported_of : RuleValues → YalFile → Netlist → Result Ported PortFault
ported_of rules file d =
    ported_with rules (module_names file.modules) d (south_ports (parent_lines file)) (north_ports (parent_lines file))

-- what a function answers is what is said, unless memory ran out
abbrev pub Agrees : Result Ported PortFault → Result Ported PortFault → Type 0
Agrees (Ok ported) said = said ≡ Ok ported
Agrees (Err faults.Memory) said = Unit {0}
Agrees (Err fault) said = said ≡ Err fault
