-- rules and a design that are what two texts say
use Rattle.std.specs.Prelude.{◌≡◌, ◌≤◌, ℕ, List, length, Bool, true, Ok, Option, Some}
use Rattle.tech_rules.specs.Rules.{RuleValues}
use Rattle.tech_rules.specs.RulesOf.{rules_of}
use Rattle.yal_reader.specs.Numbers.{numbers_of}
use Rattle.yal_reader.specs.YalReads.{yal_reads}
use Rattle.yal_reader.specs.declared.file.YalFile.{YalFile}
use Rattle.design_model.specs.Room.{HasRoom}
use Rattle.netlist_core.specs.OnGrid.{on_grid}
use Rattle.design_model.specs.SameNet.{SameNet}
use Rattle.limits.specs.declared.TheConstants.{MOST_ROWS}
use Rattle.row_model.specs.Rows.{ArePlaced}
use Rattle.row_model.specs.declared.rows.Seat.{Seat}
use Rattle.port_rows.specs.Designs.{placed_in}
use Rattle.port_rows.specs.PortRows.{HoldCells}
use Rattle.port_rows.specs.PortWords.{BearWords, ported_word}
use Rattle.port_rows.specs.declared.designs.Designs.{Designs}
use Rattle.layout_report.specs.MadeText.{made_text}
use Rattle.command_words.specs.Command.{Source, from_file, from_seed}
use Rattle.command_inputs.specs.Drawn.{drawn_said, drawn_word}
use Rattle.command_inputs.specs.Stated.{design_text, design_verdict, rules_verdict}
use Rattle.command_inputs.specs.declared.stages.Inputs.{Inputs}

-- designs are what a file says under rules: the file is on the grid, the nets of the design that is drawn are its pins of equal signal words, each cell has room for its
-- pins, and rows of the one that is placed can be drawn; a port's signal word is its name
pub record AreDesignsFor (rules : RuleValues) (ports : Bool) (file : YalFile) (designs : Designs) : Type 0 where
  pub checked : on_grid rules file ≡ Ok (placed_in designs)
  pub drawn : drawn_said ports rules file (placed_in designs) ≡ Ok designs
  pub nets : SameNet (drawn_word ports file) designs.drawn.design.pins
  pub words : ports ≡ true → BearWords (ported_word file) designs.drawn.design
  pub high : HasRoom rules designs.drawn.design
  pub rows : (rows : List (List Seat)) → ArePlaced (placed_in designs) rows → length rows ≤ MOST_ROWS → HoldCells designs.drawn rows

-- the text of a design from a source is this: the bytes that a file is told to hold, or the text that is made under the rules that a text states
abbrev pub IsSourceText : Source → (List ℕ → Option (List ℕ)) → List ℕ → List ℕ → Type 0
IsSourceText (from_file name) told stated bytes = told name ≡ Some bytes
IsSourceText (from_seed seed count) told stated bytes = (rules : RuleValues) → rules_of stated ≡ Ok rules → bytes ≡ made_text rules seed count

-- rules, a file and its designs are what the bytes of a rules file and of a design's file say
pub record AreInputsFrom (stated bytes : List ℕ) (ports : Bool) (inputs : Inputs) : Type 0 where
  pub states : rules_of stated ≡ Ok inputs.rules
  pub read : yal_reads bytes (numbers_of inputs.rules.version inputs.rules.decimals) ≡ Ok inputs.file
  pub is : AreDesignsFor inputs.rules ports inputs.file inputs.designs

-- rules, a file and its designs are what files say, as far as they are told: the rules file, and that of the design's source
pub record AreRead (rules : List ℕ) (source : Source) (ports : Bool) (told : List ℕ → Option (List ℕ)) (inputs : Inputs) : Type 0 where
  pub stated : (bytes : List ℕ) → told rules ≡ Some bytes → rules_verdict bytes ≡ Ok inputs.rules
  pub designed : (bytes : List ℕ) → design_text source told inputs.rules ≡ Some bytes
      → design_verdict inputs.rules ports bytes ≡ Ok (record { file = inputs.file; designs = inputs.designs })
  pub is : AreDesignsFor inputs.rules ports inputs.file inputs.designs
