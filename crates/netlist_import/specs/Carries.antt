-- what a PARENT has to do with the netlist that it was made of
use Rattle.std.specs.Prelude.{◌≡◌, ◌↔◌, ◌<◌, ◌^◌, ℕ, false, List, [], length, Option, None, Some, slice_get}
use Rattle.blif_reader.specs.declared.file.BlifFile.{BlifFile}
use Rattle.blif_reader.specs.declared.file.BlifWord.{BlifWord}
use Rattle.blif_reader.specs.declared.file.Gate.{Gate}
use Rattle.blif_reader.specs.declared.file.Pin.{Pin}
use Rattle.blif_reader.specs.Kept.{IsKept}
use Rattle.list_facts.specs.Names.{place_among}
use Rattle.yal_reader.specs.Kept.{module_names}
use Rattle.yal_reader.specs.Lists.{is_among}
use Rattle.yal_reader.specs.declared.file.Call.{Call}
use Rattle.yal_reader.specs.declared.file.Module.{Module}
use Rattle.yal_reader.specs.declared.file.YalFile.{YalFile}
use Rattle.yal_writer.specs.Writable.{IsWritable}
use Rattle.netlist_import.specs.Calls.{name_of}
use Rattle.netlist_import.specs.Cells.{cell_named, terminal_names}
use Rattle.netlist_import.specs.Nets.{Joined}

-- the terminals of a cell, or none where there is no such cell
abbrev pub terminals_in : Option Module → List (List ℕ)
terminals_in None = []
terminals_in (Some m) = terminal_names m.lines

-- the word that a call gives to a terminal of its module
abbrev pub word_for : List Module → Call → List ℕ → Option (List ℕ)
word_for modules c name = slice_get c.signals (place_among (terminals_in (cell_named modules c.«module»)) name)

-- a pin of the gate of this number, which became this call
pub record IsPin (b : BlifFile) (m : Module) (n : ℕ) (c : Call) (p : Pin) : Type 0 where
  pub gate : Gate
  pub there : slice_get b.gates n ≡ Some gate
  pub call : slice_get m.calls n ≡ Some c
  pub place : ℕ
  pub stands : slice_get gate.pins place ≡ Some p

-- a terminal of the model
pub data IsTerminal (b : BlifFile) (t : BlifWord) : Type 0 where
  input : (n : ℕ) → slice_get b.inputs n ≡ Some t → IsTerminal b t
  output : (n : ℕ) → slice_get b.outputs n ≡ Some t → IsTerminal b t

-- a gate and the call that it became
pub record IsCall (n : ℕ) (g : Gate) (c : Call) : Type 0 where
  pub name : c.name ≡ name_of n g
  pub «module» : c.«module» ≡ g.«module»

-- the calls of a PARENT are the gates of the netlist in order; each pin has a word; two pins have one word exactly where the netlist joins their nets, and the
-- word of a pin is a terminal of the model exactly where its net is joined with that terminal
pub record Carries (b : BlifFile) (modules : List Module) (m : Module) : Type 0 where
  pub count : length m.calls ≡ length b.gates
  pub calls : (n : ℕ) (g : Gate) (c : Call) → slice_get b.gates n ≡ Some g → slice_get m.calls n ≡ Some c → IsCall n g c
  pub words : (n : ℕ) (c : Call) (p : Pin) → IsPin b m n c p → (w : List ℕ) × (word_for modules c p.terminal ≡ Some w)
  pub nets : (i j : ℕ) (c d : Call) (p q : Pin) → IsPin b m i c p → IsPin b m j d q → (word_for modules c p.terminal ≡ word_for modules d q.terminal) ↔ Joined b.joins p.net q.net
  pub terminals : (n : ℕ) (c : Call) (p : Pin) (t : BlifWord) → IsPin b m n c p → IsTerminal b t → (word_for modules c p.terminal ≡ Some t.text) ↔ Joined b.joins p.net t.text

-- a PARENT of a netlist that was read can be written behind its cells, none of which has its name
abbrev pub CanBeWritten : BlifFile → YalFile → Module → Type 0
CanBeWritten b cells m = IsKept b → length b.gates < 2 ^ 64 → IsWritable m × (is_among (module_names cells.modules) m.name ≡ false)
