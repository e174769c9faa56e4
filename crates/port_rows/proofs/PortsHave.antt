use Rattle.std.proofs.Common.{◌≡◌, ◌≤◌, ◌-◌, ◌^◌, ◌+◌, ℕ, List, length, Result, Ok, subst}
use Rattle.std.specs.Result.{IfOk}
use Rattle.tech_rules.specs.Rules.{RuleValues, ValidRules}
use Rattle.yal_reader.specs.Kept.{HasAtMost, IsKept, module_names}
use Rattle.yal_reader.specs.declared.file.YalFile.{YalFile}
use Rattle.design_model.specs.Netlist.{IsNetlist, Netlist}
use Rattle.design_model.specs.Room.{HasRoom}
use Rattle.design_model.specs.SameNet.{SameNet}
use Rattle.netlist_core.specs.OnGrid.{on_grid}
use Rattle.netlist_core.specs.SignalWords.{parent_calls}
use Rattle.netlist_core.proofs.HighKinds.{grid-high}
use Rattle.row_model.specs.Rows.{ArePlaced}
use Rattle.row_model.specs.declared.rows.Seat.{Seat}
use Rattle.port_rows.specs.Added.{with_ports}
use Rattle.port_rows.specs.PortNames.{PortNames, ports_in}
use Rattle.port_rows.specs.PortRows.{cells_in, HoldCells}
use Rattle.port_rows.specs.PortWords.{BearWords, ported_word}
use Rattle.port_rows.specs.Ported.{Agrees, ported_of, ported_with}
use Rattle.port_rows.specs.Ports.{north_ports, parent_lines, south_ports}
use Rattle.port_rows.specs.declared.fault.PortFault.{PortFault}
use Rattle.port_rows.specs.declared.ported.Ported.{Ported}
use Rattle.port_rows.proofs.GridLaws.{IsCalled, grid-called}
use Rattle.port_rows.proofs.NameLaws.{file-ports}
use Rattle.port_rows.proofs.PortsAnswer.{answer-has, cells-count, faultless-good, ports-none, ports-room, rows-hold}
use Rattle.port_rows.proofs.WordLaws.{ported-words, words-agree}

-- what a file's design with its ports has
pub record HasPorts (rules : RuleValues) (file : YalFile) (d : Netlist) (p : Ported) : Type 0 where
  pub words : BearWords (ported_word file) p.design
  pub nets : SameNet (ported_word file) p.design.pins
  pub high : HasRoom rules p.design
  pub cells : cells_in p ≡ length d.instances
  pub rows : (rows : List (List Seat)) → ArePlaced d rows → length rows ≤ 512 → HoldCells p rows
  pub none : p.south + p.north ≡ 0 → p.design ≡ d

-- the answer for the ports of a file
pub said-of : (rules : RuleValues) (file : YalFile) (d : Netlist) (ports : PortNames) (answer : Result Ported PortFault) → ports ≡ ports_in (parent_lines file)
    → Agrees answer (ported_with rules (module_names file.modules) d ports.south ports.north) → Agrees answer (ported_of rules file d)
unfolding ported_of
said-of rules file d ports answer is agrees =
    subst (λ (p : PortNames). Agrees answer (ported_with rules (module_names file.modules) d p.south p.north)) is agrees

-- and what it has where it is no refusal
pub answer-ports : (rules : RuleValues) → ValidRules rules → (file : YalFile) → IsKept file → HasAtMost (2 ^ 32 - 1) file → (d : Netlist) → IsNetlist d → on_grid rules file ≡ Ok d
    → (answer : Result Ported PortFault) → Agrees answer (ported_of rules file d) → IfOk answer (HasPorts rules file d)
unfolding ported_of
answer-ports rules valid file kept few d good on answer agrees =
    answer-has (HasPorts rules file d) rules (module_names file.modules) d south north answer (λ none. record {
      words = words;
      nets = words-agree (ported_word file) (with_ports rules d south north) (faultless-good rules valid d good (module_names file.modules) south north (file-ports file kept few) none) words;
      high = ports-room rules d south north (grid-high rules file d on);
      cells = cells-count rules d south north;
      rows = rows-hold rules d south north;
      none = ports-none rules d south north called.height;
    }) agrees
  where
    called : IsCalled (parent_calls file) d
    called = grid-called rules file d on

    south : List (List ℕ)
    south = south_ports (parent_lines file)

    north : List (List ℕ)
    north = north_ports (parent_lines file)

    words : BearWords (ported_word file) (with_ports rules d south north)
    words = ported-words rules d good (parent_calls file) called.instances called.words south north
