-- the headline: what is written reads as a good layout of the design
use Rattle.std.specs.Prelude.{◌≡◌, ℕ, List, Bool, true, false, Ok}
use Rattle.tech_rules.specs.Rules.{RuleValues}
use Rattle.tech_rules.specs.RulesOf.{rules_of}
use Rattle.yal_reader.specs.Numbers.{numbers_of}
use Rattle.yal_reader.specs.YalReads.{yal_reads}
use Rattle.yal_reader.specs.declared.file.YalFile.{YalFile}
use Rattle.design_model.specs.Netlist.{Netlist}
use Rattle.netlist_core.specs.OnGrid.{on_grid}
use Rattle.design_model.specs.SameNet.{SameNet}
use Rattle.netlist_core.specs.SignalWords.{parent_calls, word_of}
use Rattle.port_rows.specs.PortWords.{BearWords, ported_word}
use Rattle.port_rows.specs.Ported.{ported_of}
use Rattle.port_rows.specs.declared.ported.Ported.{Ported}
use Rattle.cif_text.specs.ReadsAs.{ReadsAs}
use Rattle.command_jobs.specs.Written.{IsGoodText, StandAtEdges}
use Rattle.design_model.specs.Good.{Good}
use Rattle.geom_core.specs.declared.layout.Layout.{Layout}
use Rattle.label_reader.specs.ReadsByLabels.{ReadsByLabels}
use Rattle.layout_merge.specs.MergedLayout.{merged_layout}

-- this holds of the design of a file: the file is a design on the grid, whose nets are its pins of equal signal words
pub record IsGoodFor (rules : RuleValues) (file : YalFile) (holds : Netlist → Type 0) : Type 0 where
  pub design : Netlist
  pub checked : on_grid rules file ≡ Ok design
  pub nets : SameNet (word_of (parent_calls file)) design.pins
  pub good : holds design

-- this holds of the design of a file with the ports of its PARENT: the file is a design on the grid, which has these ports, each pin's net bears the pin's signal
-- word, that of a port being its name, and the nets are the pins of equal signal words
pub record IsGoodWithPorts (rules : RuleValues) (file : YalFile) (holds : Netlist → Type 0) : Type 0 where
  pub design : Netlist
  pub checked : on_grid rules file ≡ Ok design
  pub ported : Ported
  pub has : ported_of rules file design ≡ Ok ported
  pub words : BearWords (ported_word file) ported.design
  pub nets : SameNet (ported_word file) ported.design.pins
  pub good : holds ported.design

-- the same with ports where these are wished for
abbrev pub IsGoodSo : Bool → RuleValues → YalFile → (Netlist → Type 0) → Type 0
IsGoodSo false rules file holds = IsGoodFor rules file holds
IsGoodSo true rules file holds = IsGoodWithPorts rules file holds

-- and of the design of a text of YAL
pub record IsGoodOf (ports : Bool) (rules : RuleValues) (bytes : List ℕ) (holds : Netlist → Type 0) : Type 0 where
  pub file : YalFile
  pub read : yal_reads bytes (numbers_of rules.version rules.decimals) ≡ Ok file
  pub good : IsGoodSo ports rules file holds

-- a text reads as a layout, by the labels on the outline layer where these tell the cells
abbrev pub ReadsSo : Bool → RuleValues → List ℕ → Layout → Type 0
ReadsSo false rules text layout = ReadsAs text layout
ReadsSo true rules text layout = ReadsByLabels rules.outline.layer text layout

-- the layout that is judged: one that is read by labels stands for the one of the same areas
abbrev pub layout_so : Bool → RuleValues → Netlist → Layout → Layout
layout_so false rules d layout = layout
layout_so true rules d layout = merged_layout rules d layout

-- a text reads by its labels as a layout of the same areas as a good one of a design
pub record IsGoodByLabels (rules : RuleValues) (d : Netlist) (text : List ℕ) : Type 0 where
  pub layout : Layout
  pub reads : ReadsByLabels rules.outline.layer text layout
  pub good : Good rules d (merged_layout rules d layout)

abbrev pub IsGoodTextSo : Bool → RuleValues → List ℕ → Netlist → Type 0
IsGoodTextSo false rules text d = IsGoodText rules d text
IsGoodTextSo true rules text d = IsGoodByLabels rules d text

-- the bytes of the rules file state rules, those of the design's file are a design, and the text is a good layout of it under these rules, with the ports of its PARENT where
-- these are wished for, and by its labels where these tell the cells
pub record HeadlineSo (labels ports : Bool) (stated bytes text : List ℕ) : Type 0 where
  pub rules : RuleValues
  pub states : rules_of stated ≡ Ok rules
  pub good : IsGoodOf ports rules bytes (IsGoodTextSo labels rules text)

-- the headline: the text is a good layout as any reader of CIF takes it
abbrev pub Headline : Bool → List ℕ → List ℕ → List ℕ → Type 0
Headline ports stated bytes text = HeadlineSo false ports stated bytes text

-- and these ports stand at the edges: those of the lower edge in the lowest row, and those of the upper edge in the highest
abbrev pub PortedHeadline : List ℕ → List ℕ → List ℕ → Type 0
PortedHeadline stated bytes text =
    (h : Headline true stated bytes text) × StandAtEdges h.rules h.good.good.ported h.good.good.good.layout
