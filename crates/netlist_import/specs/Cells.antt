-- the cells of a netlist, with their terminals
use Rattle.std.specs.Prelude.{ℕ, List, map, find, codes, Bool, true, false, ◌&&◌, Option, None, Some, if◌then◌else◌}
use Rattle.std.specs.List.{list_any}
use Rattle.std.specs.Str.{bytes_eq}
use Rattle.list_facts.specs.Names.{mentions}
use Rattle.yal_reader.specs.Kept.{is_standard}
use Rattle.yal_reader.specs.declared.file.Flow.{Flow}
use Rattle.yal_reader.specs.declared.file.Flow.TheVariants as flows
use Rattle.yal_reader.specs.declared.file.Line.{Line}
use Rattle.yal_reader.specs.declared.file.Module.{Module}

-- whether a module is the STANDARD one of this name
abbrev pub is_cell : List ℕ → Module → Bool
is_cell name m = is_standard m.kind && bytes_eq name m.name

-- the cell of this name
abbrev pub cell_named : List Module → List ℕ → Option Module
cell_named modules name = find (is_cell name) modules

-- the terminals of lines, in the order of their first mention
abbrev pub terminal_names : List Line → List (List ℕ)
terminal_names lines = mentions (map (λ (l : Line). l.name) lines)

-- flows of power, of ground, and those that drive a net
abbrev pub is_supply : Flow → Bool
is_supply flows.PWR = true
is_supply _ = false

abbrev pub is_ground : Flow → Bool
is_ground flows.GND = true
is_ground _ = false

abbrev pub is_driving : Flow → Bool
is_driving flows.O = true
is_driving flows.B = true
is_driving flows.PO = true
is_driving flows.PB = true
is_driving _ = false

-- whether a terminal has a line of such a flow
abbrev pub is_supply_line : List ℕ → Line → Bool
is_supply_line name l = bytes_eq name l.name && is_supply l.flow

abbrev pub is_ground_line : List ℕ → Line → Bool
is_ground_line name l = bytes_eq name l.name && is_ground l.flow

abbrev pub is_driving_line : List ℕ → Line → Bool
is_driving_line name l = bytes_eq name l.name && is_driving l.flow

-- the words of power terminals, which no netlist gives
abbrev pub supply_word : List ℕ
supply_word = codes "VDD"

abbrev pub ground_word : List ℕ
ground_word = codes "GND"

-- the word of a terminal that is a power terminal, and none of others
unfoldable pub power_word : List Line → List ℕ → Option (List ℕ)
power_word lines name =
    if list_any (is_supply_line name) lines then Some supply_word else
    if list_any (is_ground_line name) lines then Some ground_word else None
