-- constant nets that no gate drives
use Rattle.std.specs.Prelude.{ℕ, List, filter, map, Bool, false, not, ◌&&◌, Option, None, Some}
use Rattle.std.specs.List.{list_any}
use Rattle.std.specs.Str.{bytes_eq}
use Rattle.blif_reader.specs.declared.file.BlifFile.{BlifFile}
use Rattle.blif_reader.specs.declared.file.BlifWord.{BlifWord}
use Rattle.blif_reader.specs.declared.file.Gate.{Gate}
use Rattle.blif_reader.specs.declared.file.Pin.{Pin}
use Rattle.yal_reader.specs.declared.file.Line.{Line}
use Rattle.yal_reader.specs.declared.file.Module.{Module}
use Rattle.netlist_import.specs.Cells.{cell_named, is_driving_line}
use Rattle.netlist_import.specs.Nets.{Rename, renamed, renames_of}

-- whether a pin of a gate with these lines drives the net that goes by this word
abbrev pub pin_drives : List Rename → List Line → List ℕ → Pin → Bool
pin_drives rs lines net p = bytes_eq net (renamed rs p.net) && list_any (is_driving_line p.terminal) lines

-- whether one of the pins does, where the gate's cell is this
abbrev pub pins_drive : List Rename → List ℕ → List Pin → Option Module → Bool
pins_drive rs net pins None = false
pins_drive rs net pins (Some m) = list_any (pin_drives rs m.lines net) pins

-- whether a gate drives this net
abbrev pub gate_drives : List Rename → List Module → List ℕ → Gate → Bool
gate_drives rs modules net g = pins_drive rs net g.pins (cell_named modules g.«module»)

-- whether one of these does
abbrev pub is_driven : List Rename → List Module → List Gate → List ℕ → Bool
is_driven rs modules gates net = list_any (gate_drives rs modules net) gates

-- the words of the constant nets that no gate drives
unfoldable pub undriven_in : List Rename → List Module → List Gate → List BlifWord → List (List ℕ)
undriven_in rs modules gates constants = filter (λ net. not (is_driven rs modules gates net)) (map (λ (c : BlifWord). renamed rs c.text) constants)

-- those of a netlist
abbrev pub undriven_of : BlifFile → List Module → List (List ℕ)
undriven_of b modules = undriven_in (renames_of b) modules b.gates b.constants
