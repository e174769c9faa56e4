-- a module as a cell kind, and why it is none
use Rattle.std.specs.Prelude.{ℕ, ℤ, ◌/◌, ◌%◌, ◌-ℤ◌, unsigned_abs, int_lt, nat_lt, ◌==◌, List, [], ◌∷◌, ◌++◌, map, filter, Bool, true, false, not, ◌&&◌, ◌||◌, if◌then◌else◌, Option, None, Some, Result, Ok}
use Rattle.std.specs.List.{list_any, list_all, filter_map}
use Rattle.std.specs.Option.{option_map}
use Rattle.std.specs.Ordering.{int_eq}
use Rattle.std.specs.Str.{bytes_eq, str_eq_ignore_ascii_case}
use Rattle.list_facts.specs.Names.{mentions, place_among}
use Rattle.tech_rules.specs.Rules.{RuleValues}
use Rattle.yal_reader.specs.Kept.{is_power}
use Rattle.yal_reader.specs.declared.file.Spot.{Spot}
use Rattle.yal_reader.specs.declared.file.Line.{Line}
use Rattle.yal_reader.specs.declared.file.Module.{Module}
use Rattle.netlist_core.specs.Answers.{◌>>=◌, unless, found}
use Rattle.netlist_core.specs.Outline.{outline_of}
use Rattle.design_model.specs.Room.{least_height}
use Rattle.design_model.specs.declared.design.Position.{Position}
use Rattle.design_model.specs.declared.design.Terminal.{Terminal}
use Rattle.design_model.specs.declared.design.CellKind.{CellKind}
use Rattle.netlist_core.specs.declared.cells.Grid.{Grid}
use Rattle.netlist_core.specs.declared.fault.DesignFault.{DesignFault}
use Rattle.netlist_core.specs.declared.fault.DesignFault.TheVariants as faults
use Rattle.netlist_core.specs.declared.outline.Outline.{Outline}
use Rattle.netlist_core.specs.declared.positions.Point.{Point}

-- the names of lines, and the lines that are power
abbrev pub line_names : List Line → List (List ℕ)
line_names lines = map (λ (l : Line). l.name) lines

abbrev pub power_lines : List Line → List Line
power_lines lines = filter (λ (l : Line). is_power l.flow) lines

-- the terminals' names in the order of their first mention, and those of the power terminals
abbrev pub terminal_names : List Line → List (List ℕ)
terminal_names lines = mentions (line_names lines)

abbrev pub power_names : List Line → List (List ℕ)
power_names lines = mentions (line_names (power_lines lines))

abbrev pub terminal_in : List (List ℕ) → List ℕ → Terminal
terminal_in power name = record { name = name; power = list_any (bytes_eq name) power }

-- the terminals of a module with these lines
abbrev pub terminals_of : List Line → List Terminal
terminals_of lines = map (terminal_in (power_names lines)) (terminal_names lines)

-- a line's spot with the number of its terminal, where that is no power terminal
abbrev pub spot_of : List (List ℕ) → List (List ℕ) → Line → Option (ℕ × Spot)
spot_of names power l =
    if list_any (bytes_eq l.name) power then None else option_map (λ (s : Spot). (place_among names l.name, s)) l.spot

abbrev pub spots_of : List Line → List (ℕ × Spot)
spots_of lines = filter_map (spot_of (terminal_names lines) (power_names lines)) lines

-- the column in whose middle an x lies, of so many columns of this pitch from the left side on
abbrev pub column_of : ℕ → ℕ → ℤ → ℤ → Option ℕ
column_of pitch columns left x =
    if int_lt x left then None else
    if unsigned_abs (x -ℤ left) % pitch == pitch / 2 && nat_lt (unsigned_abs (x -ℤ left) / pitch) columns
    then Some (unsigned_abs (x -ℤ left) / pitch) else None

-- the edge on which a y lies: whether it is the top one
abbrev pub edge_of : ℕ → ℤ → ℤ → Option Bool
edge_of height low y =
    if int_eq y low then Some false else
    if int_lt low y && (unsigned_abs (y -ℤ low) == height) then Some true else None

abbrev pub placed : ℕ → Option Bool → Option ℕ → Option Position
placed terminal (Some top) (Some column) = Some (record { terminal = terminal; top = top; column = column })
placed terminal (Some top) None = None
placed terminal None column = None

-- the position at a spot, where that is on the grid
abbrev pub position_of : ℕ → Outline → ℕ × Spot → Option Position
position_of pitch box spot =
    placed spot.0 (edge_of box.height box.low spot.1.y) (column_of pitch (box.width / pitch) box.left spot.1.x)

abbrev pub position_onto : Option Position → Option (List Position) → Option (List Position)
position_onto (Some p) (Some ps) = Some (p ∷ ps)
position_onto (Some p) None = None
position_onto None ps = None

-- the positions at spots, where all are on the grid
abbrev pub positions_of : ℕ → Outline → List (ℕ × Spot) → Option (List Position)
positions_of pitch box [] = Some []
positions_of pitch box (s ∷ ss) = position_onto (position_of pitch box s) (positions_of pitch box ss)

-- the same where the width is whole columns, too
unfoldable pub grid_positions : ℕ → Outline → List (ℕ × Spot) → Option (List Position)
grid_positions pitch box spots = if box.width % pitch == 0 then positions_of pitch box spots else None

abbrev pub point_of : Position → Point
point_of p = record { top = p.top; column = p.column }

abbrev pub same_top : Bool → Bool → Bool
same_top true b = b
same_top false b = not b

abbrev pub same_point : Point → Point → Bool
same_point p q = same_top p.top q.top && (p.column == q.column)

-- whether a position shares a point with an earlier one
abbrev pub clashes : List Point → List Position → Bool
clashes earlier [] = false
clashes earlier (p ∷ ps) = list_any (same_point (point_of p)) earlier || clashes (earlier ++ point_of p ∷ []) ps

-- a spot's layer is the word of the vertical layer, ASCII case aside
abbrev pub is_on_layer : List ℕ → ℕ × Spot → Bool
is_on_layer word spot = str_eq_ignore_ascii_case spot.1.layer word

-- what is wrong with the module with number n on the grid, whose outline this is
unfoldable pub kind_fault : RuleValues → ℕ → Outline → List (ℕ × Spot) → List Position → Option DesignFault
kind_fault rules n box spots positions =
    if nat_lt box.height (least_height rules) then Some (faults.TooLow n) else
    if clashes [] positions then Some (faults.PinClash n) else
    if list_all (is_on_layer rules.yal) spots then None else Some (faults.WrongLayer n)

-- the sides of a module with this outline, and its positions
abbrev pub grid_at : RuleValues → Outline → List Position → Grid
grid_at rules box positions = record { columns = box.width / rules.grid.column; height = box.height; positions = positions }

-- the same of the module with number n that has these corners and spots, or why it is no kind
unfoldable pub grid_of : RuleValues → ℕ → List ℤ → List (ℕ × Spot) → Result Grid DesignFault
grid_of rules n corners spots = do
  box ← found (faults.NoShape n) (outline_of corners)
  positions ← found (faults.OffGrid n) (grid_positions rules.grid.column box spots)
  unless (kind_fault rules n box spots positions) (Ok (grid_at rules box positions))

-- a module as a kind with these sides and positions
abbrev pub kind_at : Module → Grid → CellKind
kind_at m grid = record { name = m.name; columns = grid.columns; height = grid.height; terminals = terminals_of m.lines; positions = grid.positions }

-- the kind of a module with its number in the file, or why it is none
unfoldable pub kind_of : RuleValues → ℕ × Module → Result CellKind DesignFault
kind_of rules m = do
  grid ← grid_of rules m.0 m.1.corners (spots_of m.1.lines)
  Ok (kind_at m.1 grid)
