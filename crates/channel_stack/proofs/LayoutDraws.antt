use Rattle.std.proofs.Common.{◌≡◌, refl, ap, sym, ◌∙◌, ℕ, suc, ◌+◌, List, ◌∷◌, ◌++◌, length, map, Some, Option, arith}
use Rattle.std.proofs.lemmas.List.Elements.{Contains-append_right}
use Rattle.std.specs.Prelude.{slice_get}
use Rattle.tech_rules.specs.Rules.{RuleValues, ValidRules}
use Rattle.design_model.specs.Netlist.{Netlist, IsNetlist}
use Rattle.design_model.specs.declared.design.CellKind.{CellKind}
use Rattle.design_model.specs.declared.design.Position.{Position}
use Rattle.design_model.specs.Room.{HasRoom}
use Rattle.channel_model.specs.declared.wiring.Wiring.{Wiring}
use Rattle.row_model.specs.Rows.{ArePlaced}
use Rattle.row_model.specs.Stands.{positions_in, positions_of}
use Rattle.row_model.specs.declared.rows.Seat.{Seat}
use Rattle.feed_cells.specs.Fed.{Fed, IsFed, cells_in, items_width}
use Rattle.feed_cells.specs.declared.fed.Item.{Item}
use Rattle.feed_cells.specs.declared.fed.Item.TheVariants.{Cell}
use Rattle.layout_laws.proofs.Plans.{plan_drawn, row_base}
use Rattle.channel_stack.specs.Layouts.{cell_at}
use Rattle.channel_stack.proofs.Planned.{cell_drawn, plan_of, upright_drawn, upright_of}
use Rattle.channel_stack.proofs.Shown.{DrawsSeat, DrawsSeats}
use Rattle.channel_stack.specs.Stack.{item_place}
use Rattle.channel_stack.proofs.KnownItems.{KnownCell, item-known}
use Rattle.channel_stack.proofs.LayoutCells.{CellStands, cell-stands}
use Rattle.channel_stack.proofs.LayoutShapes.{stack_layout}
use Rattle.std_laws.proofs.Members.{member-head, get-contains}
use Rattle.std_laws.proofs.Places.{map-at}
use Rattle.std_laws.proofs.Parts.{part-get}

-- a pin of a cell stands behind the cell's outline
pub upright-at : (r : RuleValues) (d : Netlist) (base left : ℕ) (s : Seat) (i : ℕ) (p : Position) → slice_get (positions_of d s.instance) i ≡ Some p
    → slice_get (cell_drawn r d base left s) (suc i) ≡ Some (upright_drawn r base left (upright_of r d s p))
upright-at r d base left s i p at =
    map-at (upright_drawn r base left) (map (upright_of r d s) (positions_of d s.instance)) i (upright_of r d s p) (map-at (upright_of r d s) (positions_of d s.instance) i p at)

-- each position of a seat's cell is drawn where it stands in the plan
pub seat-draws : (r : RuleValues) (d : Netlist) (fed : Fed) (ws : List Wiring) (k : ℕ) (front : List Item) (s : Seat) (known : KnownCell d s)
    → CellStands r d fed ws k front s known.inst known.kind → DrawsSeat r d fed ws (stack_layout r d fed ws) k front s
seat-draws r d fed ws k front s known c = record {
  cell = c.number;
  positions = λ i p at. record {
    shape = c.first + 1 + i;
    draws = record {
      copy = cell_at r known.inst known.kind (item_place r d (row_base r (plan_of r d fed ws) k) (items_width d front) (Cell s)) c.first;
      inst = known.inst;
      kind = known.kind;
      place = i;
      position = p;
      is_cell = c.at;
      is_instance = known.is_instance;
      named = refl;
      is_kind = known.is_kind;
      is_position = ap (λ (o : Option CellKind). slice_get (positions_in o) i) (sym known.is_kind_of) ∙ at;
      of_terminal = refl;
      number = refl;
    };
    at =
        part-get (plan_drawn r (plan_of r d fed ws)) c.first (cell_drawn r d (row_base r (plan_of r d fed ws) k) (items_width d front) s) c.part
        (suc i) (c.first + 1 + i) (upright_drawn r (row_base r (plan_of r d fed ws) k) (items_width d front) (upright_of r d s p))
        (upright-at r d (row_base r (plan_of r d fed ws) k) (items_width d front) s i p at) (omega arith);
  };
}

-- the instance and the kind of a row's cell
pub cell-known : (d : Netlist) → IsNetlist d → (fed : Fed) → ArePlaced d (cells_in fed.rows)
    → (k : ℕ) (front : List Item) (s : Seat) (back : List Item) → slice_get fed.rows k ≡ Some (front ++ Cell s ∷ back) → KnownCell d s
cell-known d is fed placed k front s back at =
    item-known d fed placed is (front ++ Cell s ∷ back) (get-contains fed.rows k (front ++ Cell s ∷ back) at) (Cell s)
    (Contains-append_right front (Cell s ∷ back) (Cell s) (member-head (Cell s) back))

-- the positions of all seats are drawn where they stand in the plan
pub stack-draws : (r : RuleValues) → ValidRules r → (d : Netlist) → IsNetlist d → HasRoom r d
    → (fed : Fed) → IsFed d fed → (ws : List Wiring) → length ws ≡ length fed.rows + 1 → DrawsSeats r d fed ws (stack_layout r d fed ws)
stack-draws r valid d is room fed from ws each = record {
  seat = λ k front s back within at.
      let known = cell-known d is fed from.placed k front s back at in
      seat-draws r d fed ws k front s known (cell-stands r valid d is room fed from ws each k front s back at known);
}
