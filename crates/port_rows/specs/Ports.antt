-- the ports of a PARENT's lines, and their sides
use Rattle.std.specs.Prelude.{ℕ, List, [], ◌∷◌, ◌++◌, filter, Bool, true, false, not, ◌&&◌, if◌then◌else◌}
use Rattle.std.specs.List.{list_any}
use Rattle.std.specs.Str.{bytes_eq}
use Rattle.yal_reader.specs.declared.file.Flow.{Flow}
use Rattle.yal_reader.specs.declared.file.Flow.TheVariants as flows
use Rattle.yal_reader.specs.declared.file.Line.{Line}
use Rattle.yal_reader.specs.declared.file.Module.{Module}
use Rattle.yal_reader.specs.declared.file.YalFile.{YalFile}
use Rattle.netlist_core.specs.Calls.{is_parent_module}
use Rattle.netlist_core.specs.Cells.{line_names, power_names}

abbrev pub lines_of_first : List Module → List Line
lines_of_first [] = []
lines_of_first (m ∷ ms) = m.lines

-- the lines of the first PARENT
abbrev pub parent_lines : YalFile → List Line
parent_lines file = lines_of_first (filter is_parent_module file.modules)

-- the flows that lead out of a module
abbrev pub leads_out : Flow → Bool
leads_out flows.O = true
leads_out flows.PO = true
leads_out _ = false

abbrev pub same_side : Bool → Bool → Bool
same_side true out = out
same_side false out = not out

-- the first line of each name but these
abbrev pub first_but : List (List ℕ) → List Line → List Line
first_but seen [] = []
first_but seen (l ∷ ls) = if list_any (bytes_eq l.name) seen then first_but seen ls else l ∷ first_but (seen ++ l.name ∷ []) ls

-- the first line of each name
unfoldable pub first_lines : List Line → List Line
first_lines lines = first_but [] lines

-- a first line is that of a port at the upper edge where it leads out, and at the lower one where it does not, and no line of its name is power
abbrev pub is_port : List (List ℕ) → Bool → Line → Bool
is_port power out l = not (list_any (bytes_eq l.name) power) && same_side (leads_out l.flow) out

-- the ports of a side among first lines
abbrev pub ports_among : List (List ℕ) → Bool → List Line → List (List ℕ)
ports_among power out firsts = line_names (filter (is_port power out) firsts)

-- the ports at the lower edge of the PARENT with these lines, in the order of their first mention
abbrev pub south_ports : List Line → List (List ℕ)
south_ports lines = ports_among (power_names lines) false (first_lines lines)

-- and those at its upper edge: their first lines lead out of it
abbrev pub north_ports : List Line → List (List ℕ)
north_ports lines = ports_among (power_names lines) true (first_lines lines)

-- the ports in the order of their instances
abbrev pub all_ports : List Line → List (List ℕ)
all_ports lines = south_ports lines ++ north_ports lines
