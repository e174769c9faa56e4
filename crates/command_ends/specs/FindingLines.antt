-- the lines for what is wrong with a layout, with the names of instances, cells and pins, and their count
use Rattle.std.specs.Prelude.{ℕ, List, [], ◌∷◌, ◌++◌, length, codes, Option, Some, None, slice_get}
use Rattle.std.specs.Fmt.{decimal}
use Rattle.geom_core.specs.declared.layout.Cell.{Cell}
use Rattle.geom_core.specs.declared.layout.Layout.{Layout}
use Rattle.design_model.specs.Netlist.{Netlist}
use Rattle.design_model.specs.PinOrder.{instance_terminals}
use Rattle.design_model.specs.declared.design.Inst.{Inst}
use Rattle.design_model.specs.declared.design.Pin.{Pin}
use Rattle.design_model.specs.declared.design.Terminal.{Terminal}
use Rattle.layout_check.specs.declared.finding.Finding.{Finding}
use Rattle.layout_check.specs.declared.finding.Finding.TheVariants.{Missing, Doubled, Strange, Drawing, Overlap, OutOfRow, Narrow, Close, BareCut, Opened, Short}
use Rattle.shelf_io.specs.Lines.{line}

abbrev pub instance_named : Option Inst → List ℕ
instance_named None = []
instance_named (Some i) = i.name

abbrev pub cell_named : Option Cell → List ℕ
cell_named None = []
cell_named (Some c) = c.name

abbrev pub terminal_named : Option Terminal → List ℕ
terminal_named None = []
terminal_named (Some t) = t.name

-- the names of an instance of a design, of a cell of a layout, and of a terminal of an instance, by their numbers
abbrev pub name_of_instance : Netlist → ℕ → List ℕ
name_of_instance d i = instance_named (slice_get d.instances i)

abbrev pub name_of_cell : Layout → ℕ → List ℕ
name_of_cell l c = cell_named (slice_get l.cells c)

abbrev pub name_of_terminal : Netlist → ℕ → ℕ → List ℕ
name_of_terminal d i t = terminal_named (slice_get (instance_terminals d i) t)

-- the words of a pin: its instance and its terminal
abbrev pub instance_of_pin : Netlist → Option Pin → List ℕ
instance_of_pin d None = []
instance_of_pin d (Some p) = name_of_instance d p.instance

abbrev pub terminal_of_pin : Netlist → Option Pin → List ℕ
terminal_of_pin d None = []
terminal_of_pin d (Some p) = name_of_terminal d p.instance p.terminal

-- a word and two pins
abbrev pub pin_words : Netlist → List ℕ → ℕ → ℕ → List (List ℕ)
pin_words d word p q =
    word ∷ instance_of_pin d (slice_get d.pins p) ∷ terminal_of_pin d (slice_get d.pins p)
    ∷ instance_of_pin d (slice_get d.pins q) ∷ terminal_of_pin d (slice_get d.pins q) ∷ []

-- the words of a finding
unfoldable pub finding_words : Netlist → Layout → Finding → List (List ℕ)
finding_words d l (Missing i) = codes "Missing" ∷ name_of_instance d i ∷ []
finding_words d l (Doubled c later) = codes "Doubled" ∷ name_of_cell l c ∷ []
finding_words d l (Strange c) = codes "Strange" ∷ name_of_cell l c ∷ []
finding_words d l (Drawing c) = codes "Drawing" ∷ name_of_cell l c ∷ []
finding_words d l (Overlap i j) = codes "Overlap" ∷ decimal i ∷ decimal j ∷ []
finding_words d l (OutOfRow i j) = codes "OutOfRow" ∷ decimal i ∷ decimal j ∷ []
finding_words d l (Narrow i) = codes "Narrow" ∷ decimal i ∷ []
finding_words d l (Close i j) = codes "Close" ∷ decimal i ∷ decimal j ∷ []
finding_words d l (BareCut i) = codes "BareCut" ∷ decimal i ∷ []
finding_words d l (Opened p q) = pin_words d (codes "Open") p q
finding_words d l (Short p q) = pin_words d (codes "Short") p q

-- a line for each finding
unfoldable pub finding_lines : Netlist → Layout → List Finding → List ℕ
finding_lines d l [] = []
finding_lines d l (f ∷ fs) = line (finding_words d l f) ++ finding_lines d l fs

-- what is printed of a layout that was judged: a line for each finding, and then their number
abbrev pub judged_text : Netlist → Layout → List Finding → List ℕ
judged_text d l findings = finding_lines d l findings ++ line (codes "findings" ∷ decimal (length findings) ∷ [])
