-- where positions are drawn, and the ties in cells
use Rattle.std.specs.Prelude.{◌≡◌, ◌<◌, ◌^◌, ℕ, zero, suc, ◌+◌, ◌==◌, List, [], ◌∷◌, ◌++◌, map, length, Option, None, Some, if◌then◌else◌, slice_get, slice_index}
use Rattle.std.specs.List.{position_or_len, range_with_len}
use Rattle.geom_core.specs.declared.layout.Cell.{Cell}
use Rattle.geom_core.specs.declared.layout.Layout.{Layout}
use Rattle.list_facts.specs.Names.{place_among}
use Rattle.design_model.specs.CellsMatch.{cell_names, instance_names}
use Rattle.design_model.specs.Netlist.{Netlist}
use Rattle.design_model.specs.declared.design.CellKind.{CellKind}
use Rattle.design_model.specs.declared.design.Inst.{Inst}
use Rattle.design_model.specs.declared.design.Pin.{Pin}
use Rattle.design_model.specs.declared.design.Position.{Position}

-- the first place at which a position of this terminal stands, or the number of positions where none does
abbrev pub first_place : List Position → ℕ → ℕ
first_place positions terminal = position_or_len (λ (p : Position). p.terminal == terminal) positions

-- that of each terminal of a kind
abbrev pub first_places : CellKind → List ℕ
first_places kind = map (first_place kind.positions) (range_with_len 0 (length kind.terminals))

-- the shape behind the outline of a cell, or 0 where there is no cell
abbrev pub behind_outline : Option Cell → ℕ
behind_outline None = 0
behind_outline (Some cell) = cell.first + 1

-- the shape of the first position of the first cell of this name
abbrev pub start_of : Layout → List ℕ → ℕ
start_of l name = behind_outline (slice_get l.cells (place_among (cell_names l) name))

-- that of the cell of each instance
abbrev pub starts_of : Layout → Netlist → List ℕ
starts_of l d = map (start_of l) (instance_names d)

abbrev pub positions_of_kind : Option CellKind → List Position
positions_of_kind None = []
positions_of_kind (Some kind) = kind.positions

abbrev pub positions_of_inst : List CellKind → Option Inst → List Position
positions_of_inst kinds None = []
positions_of_inst kinds (Some i) = positions_of_kind (slice_get kinds i.kind)

-- the positions of an instance's kind, or none where there is no such instance
abbrev pub positions_at : Netlist → ℕ → List Position
positions_at d instance = positions_of_inst d.kinds (slice_get d.instances instance)

-- the tie of a position at a place with the first of its terminal, where that is another
abbrev pub tie_of : ℕ → List Position → ℕ → Option Position → List (ℕ × ℕ)
tie_of start positions place None = []
tie_of start positions place (Some p) =
    if first_place positions p.terminal == place then [] else (start + first_place positions p.terminal, start + place) ∷ []

-- the ties of so many positions, of which the first is drawn by this shape
abbrev pub ties_in : ℕ → List Position → ℕ → List (ℕ × ℕ)
ties_in start positions zero = []
ties_in start positions (suc n) = ties_in start positions n ++ tie_of start positions n (slice_get positions n)

-- the ties in a cell
abbrev pub cell_ties : ℕ → List Position → List (ℕ × ℕ)
cell_ties start positions = ties_in start positions (length positions)

-- the ties in the cells of so many instances
abbrev pub ties_among : Netlist → List ℕ → ℕ → List (ℕ × ℕ)
ties_among d starts zero = []
ties_among d starts (suc n) = ties_among d starts n ++ cell_ties (slice_index starts n) (positions_at d n)

-- the shape of the first position of a pin
abbrev pub pin_shape : Netlist → List ℕ → Pin → ℕ
pin_shape d starts p = slice_index starts p.instance + first_place (positions_at d p.instance) p.terminal

-- a design, and tables of where its positions stand in kinds and in a layout
pub record Placing : Type 0 where
  pub design : Netlist
  pub firsts : List (List ℕ)
  pub starts : List ℕ

-- the tables are those of the design, in a layout of fewer than 2^32 shapes
pub record ArePlaces (p : Placing) : Type 0 where
  pub firsts : p.firsts ≡ map first_places p.design.kinds
  pub long : length p.starts ≡ length p.design.instances
  pub room : (n : ℕ) → n < length p.design.instances → slice_index p.starts n + length (positions_at p.design n) < 2 ^ 32
