use Rattle.std.proofs.Common.{◌≡◌, ap, sym, ◌∙◌, subst, ℕ, ◌<◌, ◌≤◌, List, [], ◌∷◌, ◌++◌, length, map, Option, Some, None, Contains, arith, inl, inr}
use Rattle.std.proofs.lemmas.List.Elements.{All-contains, All-weaker}
use Rattle.std.proofs.lemmas.List.Sorted.{Contains-permutation, IsPermutation-sym}
use Rattle.std.specs.List.{AllByRecursion, range_with_len}
use Rattle.std.specs.Prelude.{slice_get}
use Rattle.tech_rules.specs.Rules.{RuleValues, ValidRules}
use Rattle.design_model.specs.Netlist.{Netlist, IsNetlist, IsKind, IsPosition}
use Rattle.design_model.specs.Drawing.{drawing_of}
use Rattle.design_model.specs.declared.design.CellKind.{CellKind}
use Rattle.design_model.specs.declared.design.Inst.{Inst}
use Rattle.design_model.specs.declared.design.Position.{Position}
use Rattle.design_model.specs.Room.{HasRoom}
use Rattle.design_model.proofs.RoomLaws.{kind-room}
use Rattle.geom_core.specs.Moving.{moved_shape, turn_at}
use Rattle.wire_geom.specs.declared.drawn.Drawn.{Drawn}
use Rattle.row_model.specs.Rows.{ArePlaced, all_instances, instances_in}
use Rattle.row_model.specs.Widths.{cell_height, height_of, kind_of}
use Rattle.row_model.specs.declared.rows.Seat.{Seat}
use Rattle.feed_cells.specs.Fed.{Fed, cells_in, seats_in}
use Rattle.feed_cells.specs.declared.fed.Item.{Item}
use Rattle.feed_cells.specs.declared.fed.Item.TheVariants.{Cell, Feed}
use Rattle.channel_stack.specs.Layouts.{item_shapes, kind_drawing}
use Rattle.channel_stack.proofs.Planned.{item_drawn}
use Rattle.channel_stack.specs.Stack.{item_place}
use Rattle.channel_stack.proofs.PlacedShapes.{cell-drawn, feed-drawn}
use Rattle.std_laws.proofs.Places.{at-place}
use Rattle.std_laws.proofs.Members.{map-cases, map-member, member-cases, member-head, member-tail, get-contains, member-place, Contains-flat_map, Contains-flat_map_cases}
use Rattle.std_laws.proofs.Every.{every-from-get}
use Rattle.std_laws.proofs.Ranges.{range-has, range-below}

-- the instance and the kind of a seat, which are of the design
pub record KnownCell (d : Netlist) (s : Seat) : Type 0 where
  pub inst : Inst
  pub kind : CellKind
  pub is_instance : slice_get d.instances s.instance ≡ Some inst
  pub is_kind : slice_get d.kinds inst.kind ≡ Some kind
  pub is_kind_of : kind_of d s.instance ≡ Some kind
  pub good : IsKind kind

-- an item has a drawing: a cell's instance is of the design
abbrev pub IsKnown : Netlist → Item → Type 0
IsKnown d (Cell s) = KnownCell d s
IsKnown d (Feed net) = Unit {0}

-- the kind of an instance
pub instance-known : (d : Netlist) → IsNetlist d → (s : Seat) (inst : Inst) → slice_get d.instances s.instance ≡ Some inst → KnownCell d s
instance-known d is s inst at =
    let kind = at-place d.kinds inst.kind (All-contains (λ (i : Inst). i.kind < length d.kinds) d.instances inst is.instances (get-contains d.instances s.instance inst at)) in
    record {
      inst = inst;
      kind = kind.0;
      is_instance = at;
      is_kind = kind.1;
      is_kind_of = ap (λ (o : Option Inst). kind_in o) at ∙ kind.1;
      good = All-contains IsKind d.kinds kind.0 is.kinds (get-contains d.kinds inst.kind kind.0 kind.1);
    }
  where
    kind_in : Option Inst → Option CellKind
    kind_in None = None
    kind_in (Some i) = slice_get d.kinds i.kind

-- a seat of a row is that of one of its cells
pub seat-in : (items : List Item) (s : Seat) → Contains items (Cell s) → Contains (seats_in items) s
seat-in [] s member = absurd (omega (arith, member.1))
seat-in (Feed net ∷ items) s member = elim (member-cases (Feed net) items (Cell s) member) [ inl same ↦ absurd (cc) | inr later ↦ seat-in items s later ]
seat-in (Cell t ∷ items) s member =
    elim (member-cases (Cell t) items (Cell s) member) [
      | inl same ↦ (let one : t ≡ s = cc in subst (λ (x : Seat). Contains (t ∷ seats_in items) x) one (member-head t (seats_in items)))
      | inr later ↦ member-tail t (seats_in items) s (seat-in items s later)
    ]

-- the items of a row before and behind the cell of a seat
pub record SeatSplit (items : List Item) (s : Seat) : Type 0 where
  pub front : List Item
  pub back : List Item
  pub is : items ≡ front ++ Cell s ∷ back

pub in-seat : (items : List Item) (s : Seat) → Contains (seats_in items) s → SeatSplit items s
in-seat [] s member = absurd (omega (arith, member.1))
in-seat (Feed net ∷ items) s member =
    let more = in-seat items s member in
    record { front = Feed net ∷ more.front; back = more.back; is = ap (λ (l : List Item). Feed net ∷ l) more.is }
in-seat (Cell t ∷ items) s member =
    elim (member-cases t (seats_in items) s member) [
      | inl same ↦ record { front = []; back = items; is = ap (λ (x : Seat). Cell x ∷ items) same }
      | inr later ↦
          let more = in-seat items s later in
          record { front = Cell t ∷ more.front; back = more.back; is = ap (λ (l : List Item). Cell t ∷ l) more.is }
    ]

-- where an instance of the design is seated
pub record SeatedAt (rows : List (List Item)) (instance : ℕ) : Type 0 where
  pub row : ℕ
  pub front : List Item
  pub seat : Seat
  pub back : List Item
  pub at : slice_get rows row ≡ Some (front ++ Cell seat ∷ back)
  pub own : seat.instance ≡ instance

-- a seat of a row seats its instance there
seated-in : (rows : List (List Item)) (items : List Item) (s : Seat) (instance : ℕ) → Contains rows items → Contains (seats_in items) s → s.instance ≡ instance
    → SeatedAt rows instance
seated-in rows items s instance row member own =
    let split : SeatSplit items s = in-seat items s member in
    let place : (k : ℕ) × (slice_get rows k ≡ Some items) = member-place rows items row in
    record {
      row = place.0;
      front = split.front;
      seat = s;
      back = split.back;
      at = subst (λ (l : List Item). slice_get rows place.0 ≡ Some l) split.is place.1;
      own = own;
    }

module _ (d : Netlist) (fed : Fed) (placed : ArePlaced d (cells_in fed.rows)) where
  -- each instance of the design is seated
  pub seated : (instance : ℕ) → instance < length d.instances → SeatedAt fed.rows instance
  seated instance within =
      let listed : Contains (all_instances (cells_in fed.rows)) instance =
      Contains-permutation (range_with_len 0 (length d.instances)) (all_instances (cells_in fed.rows)) instance placed.once (range-has (length d.instances) instance within) in
      let row = Contains-flat_map_cases instances_in (cells_in fed.rows) instance listed in
      let seat = map-cases (λ (s : Seat). s.instance) row.0 instance row.2 in
      let items = map-cases seats_in fed.rows row.0 row.1 in
      seated-in fed.rows items.0 seat.0 instance items.1 (subst (λ (l : List Seat). Contains l seat.0) (sym items.2) seat.1) seat.2

  -- the instance of a seat is one of the design
  pub seat-within : (items : List Item) (s : Seat) → Contains fed.rows items → Contains items (Cell s) → s.instance < length d.instances
  seat-within items s row member =
      let range : List ℕ = range_with_len 0 (length d.instances) in
      let all : List ℕ = all_instances (cells_in fed.rows) in
      let own : Contains (instances_in (seats_in items)) s.instance = map-member (λ (t : Seat). t.instance) (seats_in items) s (seat-in items s member) in
      let listed : Contains all s.instance =
      Contains-flat_map instances_in (cells_in fed.rows) (seats_in items) s.instance (map-member seats_in fed.rows items row) own in
      range-below (length d.instances) s.instance (Contains-permutation all range s.instance (IsPermutation-sym range all placed.once) listed)

  -- all items of the rows have drawings
  pub item-known : IsNetlist d → (items : List Item) → Contains fed.rows items → (item : Item) → Contains items item → IsKnown d item
  item-known is items row (Cell s) member =
      let inst = at-place d.instances s.instance (seat-within items s row member) in instance-known d is s inst.0 inst.1
  item-known is items row (Feed net) member = tt

  pub rows-known : IsNetlist d → AllByRecursion (AllByRecursion (IsKnown d)) fed.rows
  rows-known is =
      every-from-get (AllByRecursion (IsKnown d)) fed.rows
      (λ k items at. every-from-get (IsKnown d) items
      (λ j item there. item-known is items (get-contains fed.rows k items at) item (get-contains items j item there)))

-- the drawing of a cell's kind, copied to the cell's place, is that of the cell
pub known-drawn : (r : RuleValues) → ValidRules r → (d : Netlist) → HasRoom r d → (s : Seat)
    → (known : KnownCell d s) → (base height left : ℕ)
    → map (moved_shape (turn_at (item_place r d base left (Cell s)))) (drawing_of r known.kind)
    ≡ map (λ (a : Drawn). a.shape) (item_drawn r d base height left (Cell s))
known-drawn r valid d room s known base height left =
    let same : cell_height d s.instance ≡ known.kind.height = ap height_of known.is_kind_of in
    let high : r.grid.pin ≤ cell_height d s.instance = (let h = kind-room r d room known.inst.kind known.kind known.is_kind in omega (arith, same)) in
    cell-drawn r valid d s high known.kind base height left known.is_kind_of
    (All-weaker (IsPosition known.kind) (λ (p : Position). p.column < known.kind.columns) (λ p is. is.column) known.kind.positions known.good.positions)

-- the shapes of an item are those that are drawn for it
pub item-drawn : (r : RuleValues) → ValidRules r → (d : Netlist) → HasRoom r d → (item : Item) → IsKnown d item → (base height left : ℕ)
    → item_shapes r d height (record { item = item; place = item_place r d base left item }) ≡ map (λ (a : Drawn). a.shape) (item_drawn r d base height left item)
item-drawn r valid d room (Cell s) known base height left =
    ap (λ (o : Option CellKind). map (moved_shape (turn_at (item_place r d base left (Cell s)))) (kind_drawing r o)) known.is_kind_of
    ∙ known-drawn r valid d room s known base height left
item-drawn r valid d room (Feed net) known base height left = feed-drawn r valid d height net base left
