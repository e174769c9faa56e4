-- the designs that a file of YAL gives: the one that is drawn, and the one that is placed
use Rattle.std.specs.Prelude.{ℕ, List, Bool, true, false, Option, Result, Ok, Err}
use Rattle.tech_rules.specs.Rules.{RuleValues}
use Rattle.yal_reader.specs.declared.file.YalFile.{YalFile}
use Rattle.design_model.specs.Netlist.{Netlist}
use Rattle.design_model.specs.declared.design.Pin.{Pin}
use Rattle.netlist_core.specs.OnGrid.{on_grid}
use Rattle.netlist_core.specs.SignalWords.{parent_calls, word_of}
use Rattle.netlist_core.specs.declared.fault.Count.TheVariants.{Instances, Pins}
use Rattle.netlist_core.specs.declared.fault.DesignFault.{DesignFault}
use Rattle.netlist_core.specs.declared.fault.DesignFault.TheVariants as faults
use Rattle.port_rows.specs.Designs.{bare_designs, ported_designs}
use Rattle.port_rows.specs.PortWords.{ported_word}
use Rattle.port_rows.specs.Ported.{ported_of}
use Rattle.port_rows.specs.declared.designs.Designs.{Designs}
use Rattle.port_rows.specs.declared.fault.PortFault.{PortFault}
use Rattle.port_rows.specs.declared.fault.PortFault.TheVariants as port_faults
use Rattle.port_rows.specs.declared.ported.Ported.{Ported}
use Rattle.command_ends.specs.Refusing.{◌>>=◌}
use Rattle.command_ends.specs.declared.refusal.Limited.TheVariants as limits
use Rattle.command_ends.specs.declared.refusal.Refusal.{Refusal}
use Rattle.command_ends.specs.declared.refusal.Refusal.TheVariants.{Design, Limit, Memory, PortClash}
use Rattle.command_inputs.specs.FaultName.{fault_name}
use Rattle.command_inputs.specs.declared.outcome.ReadDesign.{ReadDesign}

-- a fault of the design as a refusal
abbrev pub design_refusal : YalFile → DesignFault → Refusal
design_refusal file (faults.Limit Instances n) = Limit limits.Instances n
design_refusal file (faults.Limit Pins n) = Limit limits.Pins n
design_refusal file faults.Memory = Memory
design_refusal file fault = Design fault (fault_name file fault)

abbrev pub design_said : YalFile → Result Netlist DesignFault → Result Netlist Refusal
design_said file (Ok design) = Ok design
design_said file (Err fault) = Err (design_refusal file fault)

-- a fault of the design's ports as a refusal
abbrev pub port_refusal : PortFault → Refusal
port_refusal (port_faults.Limit Instances n) = Limit limits.Instances n
port_refusal (port_faults.Limit Pins n) = Limit limits.Pins n
port_refusal (port_faults.Clash name) = PortClash name
port_refusal port_faults.Memory = Memory

abbrev pub ported_said : Netlist → Result Ported PortFault → Result Designs Refusal
ported_said d (Ok ported) = Ok (ported_designs d ported)
ported_said d (Err fault) = Err (port_refusal fault)

-- from the design that a file says to the one that is drawn: the same, or where ports are wished for that with its ports
abbrev pub drawn_said : Bool → RuleValues → YalFile → Netlist → Result Designs Refusal
drawn_said false rules file d = Ok (bare_designs d)
drawn_said true rules file d = ported_said d (ported_of rules file d)

-- the designs that a file says under rules
unfoldable pub file_said : Bool → RuleValues → YalFile → Result ReadDesign Refusal
file_said ports rules file = do
  design ← design_said file (on_grid rules file)
  designs ← drawn_said ports rules file design
  Ok (record { file = file; designs = designs })

-- the signal word of a pin of the design that is drawn
abbrev pub drawn_word : Bool → YalFile → Pin → Option (List ℕ)
drawn_word false file pin = word_of (parent_calls file) pin
drawn_word true file pin = ported_word file pin
