-- the checked design of a file, or the first refusal
use Rattle.std.specs.Prelude.{ℕ, max, List, length, map, filter, fold, Bool, Result, Ok}
use Rattle.std.specs.List.{enumerate_from, list_any}
use Rattle.std.specs.Str.{bytes_eq}
use Rattle.limits.specs.declared.TheConstants.{MOST_INSTANCES, MOST_PINS}
use Rattle.tech_rules.specs.Rules.{RuleValues}
use Rattle.yal_reader.specs.declared.file.Call.{Call}
use Rattle.yal_reader.specs.declared.file.Module.{Module}
use Rattle.yal_reader.specs.declared.file.YalFile.{YalFile}
use Rattle.list_facts.specs.Names.{place_among}
use Rattle.netlist_core.specs.Answers.{◌>>=◌, unless, each}
use Rattle.netlist_core.specs.Calls.{only_parent, is_parent_module, calls_fault, over}
use Rattle.netlist_core.specs.Cells.{kind_of}
use Rattle.design_model.specs.Netlist.{Netlist}
use Rattle.netlist_core.specs.Signals.{PinWord, all_signals, nets_of, pin_in}
use Rattle.design_model.specs.declared.design.CellKind.{CellKind}
use Rattle.design_model.specs.declared.design.Inst.{Inst}
use Rattle.netlist_core.specs.declared.fault.Count.TheVariants.{Instances, Pins}
use Rattle.netlist_core.specs.declared.fault.DesignFault.{DesignFault}

-- the names of the modules that are called
abbrev pub called_names : List Call → List (List ℕ)
called_names calls = map (λ (c : Call). c.«module») calls

-- a numbered module is used where a call names it
abbrev pub is_used : List Call → ℕ × Module → Bool
is_used calls m = list_any (bytes_eq m.1.name) (called_names calls)

-- the used modules in the order of the file, each with its number in the file
unfoldable pub used_modules : List Module → List Call → List (ℕ × Module)
used_modules modules calls = filter (is_used calls) (enumerate_from 0 modules)

abbrev pub used_names : List (ℕ × Module) → List (List ℕ)
used_names used = map (λ (m : ℕ × Module). m.1.name) used

-- the kinds of the used modules, or the first refusal of one
unfoldable pub kinds_for : RuleValues → List (ℕ × Module) → Result (List CellKind) DesignFault
kinds_for rules used = each (kind_of rules) used

-- the greatest height of kinds, or 0 where there is none
abbrev pub greatest_height : List CellKind → ℕ
greatest_height kinds = fold max 0 (map (λ (k : CellKind). k.height) kinds)

-- an instance: its kind has the place of its module among the used modules
abbrev pub inst_in : List (List ℕ) → Call → Inst
inst_in names call = record { name = call.name; kind = place_among names call.«module» }

abbrev pub design_of : List (ℕ × Module) → List PinWord → List Call → List CellKind → Netlist
design_of used signals calls kinds = record {
  kinds = kinds;
  height = greatest_height kinds;
  instances = map (inst_in (used_names used)) calls;
  pins = map (pin_in (nets_of signals)) signals;
  nets = nets_of signals;
}

unfoldable pub used_design : RuleValues → List (ℕ × Module) → List PinWord → List Call → Result Netlist DesignFault
used_design rules used signals calls = do
  kinds ← kinds_for rules used
  Ok (design_of used signals calls kinds)

-- the design of these calls, or the first refusal: by the limits and the calls, then by the used modules
unfoldable pub calls_design : RuleValues → List Module → List Call → Result Netlist DesignFault
calls_design rules modules calls =
    unless (over Instances MOST_INSTANCES (length calls)) (
    unless (calls_fault modules calls) (
    unless (over Pins MOST_PINS (length (all_signals modules calls))) (
    used_design rules (used_modules modules calls) (all_signals modules calls) calls)))

-- the checked design of a file, or the first refusal
unfoldable pub on_grid : RuleValues → YalFile → Result Netlist DesignFault
on_grid rules file = do
  parent ← only_parent (filter is_parent_module file.modules)
  calls_design rules file.modules parent.calls
