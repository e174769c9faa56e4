use Rattle.geom_core.specs.declared.layout.Cell as layouts
use Rattle.std.proofs.Common.{◌≡◌, refl, ap, sym, ◌∙◌, subst, inl, inr, ℕ, suc, ◌+◌, ◌<◌, List, ◌∷◌, ◌++◌, length, map, take, drop, Bool, true, false, Some, None, Option, Contains, arith}
use Rattle.std.proofs.lemmas.Bool.{both_ways}
use Rattle.std.proofs.lemmas.List.{length-map}
use Rattle.std.proofs.lemmas.Option.{none-some, same_Some, slice_get_within}
use Rattle.std.specs.Option.{is_some}
use Rattle.std.specs.Prelude.{slice_get}
use Rattle.design_model.proofs.DesignPins.{pin-found}
use Rattle.geom_core.specs.declared.layout.Shape.{Shape}
use Rattle.tech_rules.specs.Rules.{RuleValues, ValidRules}
use Rattle.geom_core.specs.Moving.{moved_shape, turn_at}
use Rattle.design_model.specs.CellsMatch.{CellsMatch, IsCopyOf}
use Rattle.design_model.specs.Drawing.{drawing_of}
use Rattle.design_model.specs.Joined.{Draws, DrawsPin}
use Rattle.design_model.specs.Netlist.{Netlist, IsNetlist}
use Rattle.design_model.specs.declared.design.CellKind.{CellKind}
use Rattle.design_model.specs.declared.design.Inst.{Inst}
use Rattle.design_model.specs.declared.design.Pin.{Pin}
use Rattle.design_model.specs.Room.{HasRoom}
use Rattle.channel_model.specs.declared.wiring.Wiring.{Wiring}
use Rattle.wire_geom.specs.declared.drawn.Drawn.{Drawn}
use Rattle.row_model.specs.Stands.{edge_column, positions_in, positions_of}
use Rattle.row_model.specs.Widths.{kind_of}
use Rattle.row_model.specs.declared.rows.Seat.{Seat}
use Rattle.feed_cells.proofs.PinEdges.{pin-edge}
use Rattle.feed_cells.specs.Fed.{Fed, IsFed, items_width}
use Rattle.feed_cells.specs.declared.fed.Item.{Item}
use Rattle.feed_cells.specs.declared.fed.Item.TheVariants.{Cell}
use Rattle.pin_assign.proofs.EdgeLaws.{EdgePosition, edge-position}
use Rattle.layout_laws.proofs.Labels.{ShowsPins}
use Rattle.layout_laws.proofs.Plans.{plan_drawn, row_base}
use Rattle.channel_stack.specs.Layouts.{cell_at, wire_shapes}
use Rattle.channel_stack.proofs.Planned.{cell_drawn, net_at, net_found, plan_of, upright_drawn, upright_of}
use Rattle.channel_stack.proofs.Shown.{DrawsPosition, DrawsSeat}
use Rattle.channel_stack.specs.Stack.{item_place}
use Rattle.channel_stack.proofs.CellNames.{named-once, stack-names}
use Rattle.channel_stack.proofs.KnownItems.{KnownCell, SeatedAt, known-drawn, seated}
use Rattle.channel_stack.proofs.LayoutCells.{CellStands, cell-stands}
use Rattle.channel_stack.proofs.LayoutDraws.{cell-known, seat-draws, upright-at}
use Rattle.channel_stack.proofs.LayoutShapes.{stack-shapes, stack_layout}
use Rattle.std_laws.proofs.Members.{member-place}
use Rattle.std_laws.proofs.Parts.{part-get, part-map, part-taken}

-- a cell of the layout is that of an instance's seat
pub record IsCellOf (r : RuleValues) (d : Netlist) (fed : Fed) (ws : List Wiring) (number instance : ℕ) (copy : layouts.Cell) (inst : Inst) : Type 0 where
  pub row : ℕ
  pub front : List Item
  pub seat : Seat
  pub back : List Item
  pub at : slice_get fed.rows row ≡ Some (front ++ Cell seat ∷ back)
  pub own : seat.instance ≡ instance
  pub known : KnownCell d seat
  pub same_inst : known.inst ≡ inst
  pub stands : CellStands r d fed ws row front seat known.inst known.kind
  pub is : copy ≡ cell_at r known.inst known.kind (item_place r d (row_base r (plan_of r d fed ws) row) (items_width d front) (Cell seat)) stands.first

-- an instance with a kind is one of the design
kind-instance : (d : Netlist) (instance : ℕ) (kind : CellKind) → kind_of d instance ≡ Some kind → instance < length d.instances
kind-instance d instance kind is = by (slice_get d.instances instance) refl is
  where
    kind_in : Option Inst → Option CellKind
    kind_in None = None
    kind_in (Some i) = slice_get d.kinds i.kind

    by : (o : Option Inst) → slice_get d.instances instance ≡ o → kind_in o ≡ Some kind → instance < length d.instances
    by None at found = absurd (none-some kind found)
    by (Some inst) at found = slice_get_within d.instances instance inst at

-- a pin has a position
pin-position : (d : Netlist) (top : Bool) (p : Pin) → is_some (edge_column d top p) ≡ true → (own : ℕ) × EdgePosition d top p own
pin-position d top p has = by (edge_column d top p) refl has
  where
    by : (o : Option ℕ) → edge_column d top p ≡ o → is_some o ≡ true → (own : ℕ) × EdgePosition d top p own
    by None at some = absurd (both_ways false refl some)
    by (Some own) at some = (own, edge-position d top p own at)

-- the net of a pin is found by its instance and terminal
pub pin-net : (d : Netlist) → IsNetlist d → (p : Pin) → Contains d.pins p → net_at d p.instance p.terminal ≡ p.net
unfolding net_at
pin-net d is p listed = ap net_found (pin-found d is p listed)

module _ (r : RuleValues) (valid : ValidRules r) (d : Netlist) (is : IsNetlist d) (room : HasRoom r d)
    (fed : Fed) (from : IsFed d fed) (ws : List Wiring) (each : length ws ≡ length fed.rows + 1) where
  -- the cell with an instance's name is that of its seat
  pub cell-is : (number instance : ℕ) (copy : layouts.Cell) (inst : Inst) → slice_get (stack_layout r d fed ws).cells number ≡ Some copy
      → slice_get d.instances instance ≡ Some inst → copy.name ≡ inst.name → IsCellOf r d fed ws number instance copy inst
  cell-is number instance copy inst at_cell at_instance named =
      let seat : SeatedAt fed.rows instance = seated d fed from.placed instance (slice_get_within d.instances instance inst at_instance) in
      let known : KnownCell d seat.seat = cell-known d is fed from.placed seat.row seat.front seat.seat seat.back seat.at in
      let stands = cell-stands r valid d is room fed from ws each seat.row seat.front seat.seat seat.back seat.at known in
      let cell : layouts.Cell = cell_at r known.inst known.kind (item_place r d (row_base r (plan_of r d fed ws) seat.row) (items_width d seat.front) (Cell seat.seat)) stands.first in
      let same : known.inst ≡ inst = same_Some known.inst inst (sym known.is_instance ∙ ap (slice_get d.instances) seat.own ∙ at_instance) in
      let one : number ≡ stands.number = named-once r d is fed from ws each number stands.number copy cell at_cell stands.at (named ∙ sym (ap (λ (i : Inst). i.name) same)) in
      record {
        row = seat.row;
        front = seat.front;
        seat = seat.seat;
        back = seat.back;
        at = seat.at;
        own = seat.own;
        known = known;
        same_inst = same;
        stands = stands;
        is = same_Some copy cell (sym at_cell ∙ ap (slice_get (stack_layout r d fed ws).cells) one ∙ stands.at);
      }

  -- the kind of the cell's instance
  same-kind : (number instance : ℕ) (copy : layouts.Cell) (inst : Inst) (kind : CellKind) → slice_get d.kinds inst.kind ≡ Some kind
      → (c : IsCellOf r d fed ws number instance copy inst) → c.known.kind ≡ kind
  same-kind number instance copy inst kind is_kind c =
      same_Some c.known.kind kind (sym c.known.is_kind ∙ ap (λ (i : Inst). slice_get d.kinds i.kind) c.same_inst ∙ is_kind)

  -- the shape with a terminal's drawing is a vertical wire of the terminal's net
  pub stack-drawn : (cell instance terminal i : ℕ) → Draws d (stack_layout r d fed ws) cell instance terminal i
      → (a : Drawn) × (slice_get (plan_drawn r (plan_of r d fed ws)) i ≡ Some a) × (a.shape.layer ≡ r.vertical.layer) × (a.net ≡ net_at d instance terminal)
  stack-drawn cell instance terminal i dr =
      let c : IsCellOf r d fed ws cell instance dr.copy dr.inst = cell-is cell instance dr.copy dr.inst dr.is_cell dr.is_instance dr.named in
      let base : ℕ = row_base r (plan_of r d fed ws) c.row in
      let left : ℕ = items_width d c.front in
      let kind : c.known.kind ≡ dr.kind = same-kind cell instance dr.copy dr.inst dr.kind dr.is_kind c in
      let at : slice_get (positions_of d c.seat.instance) dr.place ≡ Some dr.position =
      ap (λ (o : Option CellKind). slice_get (positions_in o) dr.place) (c.known.is_kind_of ∙ ap (λ (k : CellKind). Some k) kind) ∙ dr.is_position in
      let first : dr.copy.first ≡ c.stands.first = ap (λ (x : layouts.Cell). x.first) c.is in
      let number : i ≡ c.stands.first + suc dr.place = (let n = dr.number in omega arith) in (
        upright_drawn r base left (upright_of r d c.seat dr.position),
        part-get (plan_drawn r (plan_of r d fed ws)) c.stands.first (cell_drawn r d base left c.seat) c.stands.part
            (suc dr.place) i (upright_drawn r base left (upright_of r d c.seat dr.position)) (upright-at r d base left c.seat dr.place dr.position at) number,
        refl,
        ap (λ (n : ℕ). net_at d n dr.position.terminal) c.own ∙ ap (net_at d instance) dr.of_terminal,
      )

  -- a pin with a position on an edge is drawn
  edge-shown : (top : Bool) (p : Pin) (own : ℕ) → EdgePosition d top p own → (i : ℕ) × DrawsPin d (stack_layout r d fed ws) p i
  edge-shown top p own e =
      let seat : SeatedAt fed.rows p.instance = seated d fed from.placed p.instance (kind-instance d p.instance e.kind e.is_kind) in
      let known : KnownCell d seat.seat = cell-known d is fed from.placed seat.row seat.front seat.seat seat.back seat.at in
      let stands = cell-stands r valid d is room fed from ws each seat.row seat.front seat.seat seat.back seat.at known in
      let draws : DrawsSeat r d fed ws (stack_layout r d fed ws) seat.row seat.front seat.seat = seat-draws r d fed ws seat.row seat.front seat.seat known stands in
      let at : slice_get (positions_of d seat.seat.instance) e.place ≡ Some e.position =
      ap (λ (n : ℕ). slice_get (positions_of d n) e.place) seat.own ∙ ap (λ (o : Option CellKind). slice_get (positions_in o) e.place) e.is_kind ∙ e.at in
      let drawn : DrawsPosition r d fed ws (stack_layout r d fed ws) seat.row seat.front seat.seat draws.cell e.position = draws.positions e.place e.position at in (
        drawn.shape,
        record {
          cell = draws.cell;
          draws =
              subst (λ (n : ℕ). Draws d (stack_layout r d fed ws) draws.cell n p.terminal drawn.shape) seat.own
              (subst (λ (n : ℕ). Draws d (stack_layout r d fed ws) draws.cell seat.seat.instance n drawn.shape) e.terminal drawn.draws);
        },
      )

  -- each pin is drawn
  pub stack-shown : (p : Pin) → Contains d.pins p → (i : ℕ) × DrawsPin d (stack_layout r d fed ws) p i
  stack-shown p listed =
      elim (pin-edge d is p listed) [
        | inl low ↦ (let e = pin-position d false p low in edge-shown false p e.0 e.1)
        | inr high ↦ (let e = pin-position d true p high in edge-shown true p e.0 e.1)
      ]

  -- the layout shows the pins of the design with their nets
  pub stack-shows : ShowsPins r d (stack_layout r d fed ws) (plan_drawn r (plan_of r d fed ws)) (net_at d)
  stack-shows = record {
    shapes = stack-shapes r valid d is room fed from ws each;
    drawn = stack-drawn;
    shown = stack-shown;
    nets = pin-net d is;
  }

  -- the shapes of a seat's cell are those of its kind, under the cell's turn
  cell-shapes : (k : ℕ) (front : List Item) (s : Seat) (known : KnownCell d s) → (c : CellStands r d fed ws k front s known.inst known.kind)
      → take (length (drawing_of r known.kind)) (drop c.first (stack_layout r d fed ws).shapes)
      ≡ map (moved_shape (turn_at (item_place r d (row_base r (plan_of r d fed ws) k) (items_width d front) (Cell s)))) (drawing_of r known.kind)
  cell-shapes k front s known c =
      let base : ℕ = row_base r (plan_of r d fed ws) k in
      let left : ℕ = items_width d front in
      let own : List Drawn = cell_drawn r d base left s in
      let turn : (Shape → Shape) = moved_shape (turn_at (item_place r d base left (Cell s))) in
      let drawn : map turn (drawing_of r known.kind) ≡ wire_shapes own = known-drawn r valid d room s known base 0 left in
      let many : length (drawing_of r known.kind) ≡ length (wire_shapes own) = sym (length-map (drawing_of r known.kind) turn) ∙ ap length drawn in
      ap (λ (n : ℕ). take n (drop c.first (stack_layout r d fed ws).shapes)) many
      ∙ ap (λ (l : List Shape). take (length (wire_shapes own)) (drop c.first l)) (stack-shapes r valid d is room fed from ws each)
      ∙ part-taken (wire_shapes (plan_drawn r (plan_of r d fed ws))) c.first (wire_shapes own)
      (part-map (λ (a : Drawn). a.shape) (plan_drawn r (plan_of r d fed ws)) c.first own c.part)
      ∙ sym drawn

  -- a cell with an instance's name is a copy of the instance's kind
  stack-copy : (number instance : ℕ) (cell : layouts.Cell) (inst : Inst) (kind : CellKind) → slice_get (stack_layout r d fed ws).cells number ≡ Some cell
      → slice_get d.instances instance ≡ Some inst → cell.name ≡ inst.name → slice_get d.kinds inst.kind ≡ Some kind
      → IsCopyOf r (stack_layout r d fed ws) kind cell
  stack-copy number instance cell inst kind at_cell at_instance named is_kind =
      let c : IsCellOf r d fed ws number instance cell inst = cell-is number instance cell inst at_cell at_instance named in
      subst (λ (k : CellKind). IsCopyOf r (stack_layout r d fed ws) k cell) (same-kind number instance cell inst kind is_kind c)
      (subst (λ (x : layouts.Cell). IsCopyOf r (stack_layout r d fed ws) c.known.kind x) (sym c.is)
      (record { symbol = refl; upright = refl; shapes = cell-shapes c.row c.front c.seat c.known c.stands }))

  -- the cells have the instances' names, each once, and each is a copy of its instance's kind
  pub stack-cells : CellsMatch r d (stack_layout r d fed ws)
  stack-cells = record {
    names = stack-names r d is fed from ws each;
    copies = λ cell inst kind has_cell has_inst named is_kind.
        let n = member-place (stack_layout r d fed ws).cells cell has_cell in
        let m = member-place d.instances inst has_inst in
        stack-copy n.0 m.0 cell inst kind n.1 m.1 named is_kind;
  }
