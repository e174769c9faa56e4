-- the PARENT of a netlist
use Rattle.std.specs.Prelude.{ℕ, List, [], ◌∷◌, ◌++◌, find, map, Bool, not, codes, Option, None, Some, Result, Ok, if◌then◌else◌}
use Rattle.std.specs.List.{enumerate_from}
use Rattle.std.specs.Str.{bytes_eq}
use Rattle.read_base.specs.Steps.{◌>>=◌}
use Rattle.blif_reader.specs.declared.file.BlifFile.{BlifFile}
use Rattle.blif_reader.specs.declared.file.BlifWord.{BlifWord}
use Rattle.blif_reader.specs.declared.file.Gate.{Gate}
use Rattle.yal_reader.specs.Kept.{is_parent, module_names}
use Rattle.yal_reader.specs.Lists.{is_among}
use Rattle.yal_reader.specs.Words.{spells}
use Rattle.yal_reader.specs.declared.file.Call.{Call}
use Rattle.yal_reader.specs.declared.file.Flow.{Flow}
use Rattle.yal_reader.specs.declared.file.Flow.TheVariants as flows
use Rattle.yal_reader.specs.declared.file.Kind.TheVariants as module_kinds
use Rattle.yal_reader.specs.declared.file.Line.{Line}
use Rattle.yal_reader.specs.declared.file.Module.{Module}
use Rattle.yal_reader.specs.declared.file.YalFile.{YalFile}
use Rattle.netlist_import.specs.Calls.{calls_of, name_of, name_place, net_word}
use Rattle.netlist_import.specs.Constants.{undriven_of}
use Rattle.netlist_import.specs.Faults.{refused}
use Rattle.netlist_import.specs.Nets.{Rename, renamed, renames_of}
use Rattle.netlist_import.specs.declared.fault.ImportFlaw.{ImportFlaw}
use Rattle.netlist_import.specs.declared.fault.ImportKind.TheVariants as kinds

-- whether a module is a PARENT
abbrev pub is_parent_module : Module → Bool
is_parent_module m = is_parent m.kind

-- the cells have no PARENT
abbrev pub no_parent : ℕ → Option Module → Result (Unit {0}) ImportFlaw
no_parent at None = Ok tt
no_parent at (Some m) = refused kinds.Parent m.name at

-- no module of the cells has the model's name
abbrev pub free_model : List Module → BlifWord → Result (Unit {0}) ImportFlaw
free_model modules model = if is_among (module_names modules) model.text then refused kinds.Model model.text model.at else Ok tt

-- a terminal of the model can stand as a line of a PARENT, with a net of its own, which goes by its word; seen are the words of those before
unfoldable pub fitting_terminal : List Rename → List (List ℕ) → List (List ℕ) → BlifWord → Result (List ℕ) ImportFlaw
fitting_terminal rs undriven seen t =
    if spells (codes "ENDIOLIST") t.text then refused kinds.Keyword t.text t.at else
    if is_among seen t.text then refused kinds.Net t.text t.at else
    if not (bytes_eq (renamed rs t.text) t.text) then refused kinds.Net t.text t.at else
    net_word undriven t.text t.text t.at

-- the words of terminals behind those of the terminals before, if all can stand
unfoldable pub fitting_terminals : List Rename → List (List ℕ) → List (List ℕ) → List BlifWord → Result (List (List ℕ)) ImportFlaw
fitting_terminals rs undriven seen [] = Ok seen
fitting_terminals rs undriven seen (t ∷ ts) = fitting_terminal rs undriven seen t >>= λ w. fitting_terminals rs undriven (seen ++ w ∷ []) ts

-- the name of an instance, and where it stands
abbrev pub instance_of : ℕ × Gate → BlifWord
instance_of g = record { text = name_of g.0 g.1; at = name_place g.1.at g.1.name }

-- those of all gates
abbrev pub instances_of : List Gate → List BlifWord
instances_of gates = map instance_of (enumerate_from 0 gates)

-- a name of an instance is new, and not that of the end of a network; seen are those before
unfoldable pub fitting_name : List (List ℕ) → BlifWord → Result (List ℕ) ImportFlaw
fitting_name seen name =
    if spells (codes "ENDNETWORK") name.text then refused kinds.Keyword name.text name.at else
    if is_among seen name.text then refused kinds.Name name.text name.at else Ok name.text

-- so are all names
unfoldable pub fitting_names : List (List ℕ) → List BlifWord → Result (Unit {0}) ImportFlaw
fitting_names seen [] = Ok tt
fitting_names seen (w ∷ ws) = fitting_name seen w >>= λ name. fitting_names (seen ++ name ∷ []) ws

-- the line of a terminal
abbrev pub line_of : Flow → BlifWord → Line
line_of flow t = record { name = t.text; flow = flow; spot = None }

-- the lines of the inputs and then of the outputs
abbrev pub lines_of : BlifFile → List Line
lines_of b = map (line_of flows.PI) b.inputs ++ map (line_of flows.PO) b.outputs

-- the PARENT with these calls
abbrev pub parent_with : BlifFile → List Call → Module
parent_with b calls = record { name = b.model.text; kind = module_kinds.Parent; corners = []; lines = lines_of b; calls = calls }

-- the terminals of the model can stand
unfoldable pub all_terminals : List Rename → List (List ℕ) → BlifFile → Result (List (List ℕ)) ImportFlaw
all_terminals rs undriven b = do
  inputs ← fitting_terminals rs undriven [] b.inputs
  fitting_terminals rs undriven inputs b.outputs

-- what is tested before the gates become calls
unfoldable pub tested : List Rename → List (List ℕ) → BlifFile → List Module → Result (Unit {0}) ImportFlaw
tested rs undriven b modules = do
  cells ← no_parent b.model.at (find is_parent_module modules)
  free ← free_model modules b.model
  terminals ← all_terminals rs undriven b
  fitting_names [] (instances_of b.gates)

-- the PARENT under renamings, where these constant nets are not driven
unfoldable pub parent_in : List Rename → List (List ℕ) → BlifFile → List Module → Result Module ImportFlaw
parent_in rs undriven b modules = do
  fits ← tested rs undriven b modules
  calls ← calls_of modules rs undriven b.gates
  Ok (parent_with b calls)

-- the PARENT of a netlist over the modules of its cells, or the first flaw
unfoldable pub parent_of : BlifFile → YalFile → Result Module ImportFlaw
parent_of b cells = parent_in (renames_of b) (undriven_of b cells.modules) b cells.modules
