-- gates as calls
use Rattle.std.specs.Prelude.{ℕ, List, [], ◌∷◌, ◌++◌, find, Bool, not, ◌||◌, codes, Option, None, Some, is_some, Result, Ok, if◌then◌else◌}
use Rattle.std.specs.Fmt.{decimal}
use Rattle.std.specs.List.{enumerate_from}
use Rattle.std.specs.Str.{bytes_eq}
use Rattle.read_base.specs.Steps.{◌>>=◌}
use Rattle.blif_reader.specs.declared.file.BlifWord.{BlifWord}
use Rattle.blif_reader.specs.declared.file.Gate.{Gate}
use Rattle.blif_reader.specs.declared.file.Pin.{Pin}
use Rattle.yal_reader.specs.Lists.{is_among}
use Rattle.yal_reader.specs.declared.file.Call.{Call}
use Rattle.yal_reader.specs.declared.file.Line.{Line}
use Rattle.yal_reader.specs.declared.file.Module.{Module}
use Rattle.netlist_import.specs.Cells.{cell_named, ground_word, power_word, supply_word, terminal_names}
use Rattle.netlist_import.specs.Faults.{each, refused}
use Rattle.netlist_import.specs.Nets.{Rename, renamed}
use Rattle.netlist_import.specs.declared.fault.ImportFlaw.{ImportFlaw}
use Rattle.netlist_import.specs.declared.fault.ImportKind.TheVariants as kinds

-- the name of an instance: that of its `.cname`, else `g` and the number of the gate, from 0
abbrev pub name_in : ℕ → Option BlifWord → List ℕ
name_in n None = codes "g" ++ decimal n
name_in n (Some w) = w.text

abbrev pub name_of : ℕ → Gate → List ℕ
name_of n g = name_in n g.name

-- where the name stands, or the module of a gate without one
abbrev pub name_place : ℕ → Option BlifWord → ℕ
name_place at None = at
name_place at (Some w) = w.at

-- whether a word is that of a power terminal
abbrev pub is_power_word : List ℕ → Bool
is_power_word w = bytes_eq w supply_word || bytes_eq w ground_word

-- the word of the net that a word of the text goes by, unless that is a power terminal's, or the net is constant and no gate drives it
unfoldable pub net_word : List (List ℕ) → List ℕ → List ℕ → ℕ → Result (List ℕ) ImportFlaw
net_word undriven word net at =
    if is_power_word net then refused kinds.Power word at else
    if is_among undriven net then refused kinds.Constant word at else Ok net

-- the pins are the module's, and none stands twice; seen are the terminals of the pins before
unfoldable pub fitting_pins : List (List ℕ) → List Line → List (List ℕ) → List Pin → Result (Unit {0}) ImportFlaw
fitting_pins terminals lines seen [] = Ok tt
fitting_pins terminals lines seen (p ∷ ps) =
    if not (is_among terminals p.terminal) then refused kinds.Pin p.terminal p.at else
    if is_some (power_word lines p.terminal) then refused kinds.Pin p.terminal p.at else
    if is_among seen p.terminal then refused kinds.Twice p.terminal p.at else
    fitting_pins terminals lines (seen ++ p.terminal ∷ []) ps

-- the pin at a terminal
abbrev pub pin_at : List Pin → List ℕ → Option Pin
pin_at pins name = find (λ (p : Pin). bytes_eq name p.terminal) pins

-- the word of the net of a pin, which a gate may lack
abbrev pub pin_word : List Rename → List (List ℕ) → List ℕ → ℕ → Option Pin → Result (List ℕ) ImportFlaw
pin_word rs undriven name at None = refused kinds.Missing name at
pin_word rs undriven name at (Some p) = net_word undriven p.net (renamed rs p.net) p.at

-- the word at a terminal, which is a power terminal with this word or none
abbrev pub word_at : List Rename → List (List ℕ) → Gate → List ℕ → Option (List ℕ) → Result (List ℕ) ImportFlaw
word_at rs undriven g name (Some w) = Ok w
word_at rs undriven g name None = pin_word rs undriven name g.at (pin_at g.pins name)

-- the word at a terminal of a cell with these lines
unfoldable pub terminal_word : List Rename → List (List ℕ) → List Line → Gate → List ℕ → Result (List ℕ) ImportFlaw
terminal_word rs undriven lines g name = word_at rs undriven g name (power_word lines name)

-- the words of a gate in the order of its cell's terminals
unfoldable pub words_of : List Rename → List (List ℕ) → List Line → Gate → Result (List (List ℕ)) ImportFlaw
words_of rs undriven lines g = do
  fits ← fitting_pins (terminal_names lines) lines [] g.pins
  each (terminal_word rs undriven lines g) (terminal_names lines)

-- the cell of a gate, or that there is none
abbrev pub found_cell : Gate → Option Module → Result Module ImportFlaw
found_cell g None = refused kinds.Cell g.«module» g.at
found_cell g (Some m) = Ok m

-- a gate with its number as a call
unfoldable pub call_of : List Module → List Rename → List (List ℕ) → ℕ × Gate → Result Call ImportFlaw
call_of modules rs undriven g = do
  m ← found_cell g.1 (cell_named modules g.1.«module»)
  words ← words_of rs undriven m.lines g.1
  Ok (record { name = name_of g.0 g.1; «module» = g.1.«module»; signals = words })

-- the gates as calls
abbrev pub calls_of : List Module → List Rename → List (List ℕ) → List Gate → Result (List Call) ImportFlaw
calls_of modules rs undriven gates = each (call_of modules rs undriven) (enumerate_from 0 gates)
