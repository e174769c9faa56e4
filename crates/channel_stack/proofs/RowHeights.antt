use Rattle.std.proofs.Common.{◌≡◌, refl, inl, inr, sym, ap, ◌∙◌, subst, ℕ, ◌+◌, ◌<◌, ◌≤◌, List, [], ◌∷◌, length, map, Some, Contains, arith}
use Rattle.std.proofs.lemmas.Option.{slice_get-map}
use Rattle.std.specs.Option.{option_map}
use Rattle.std.specs.Prelude.{slice_get}
use Rattle.tech_rules.specs.Rules.{RuleValues}
use Rattle.design_model.specs.Netlist.{Netlist, IsNetlist}
use Rattle.design_model.specs.Room.{HasRoom, least_height}
use Rattle.design_model.proofs.RoomLaws.{kind-highest, design-room, kind-room}
use Rattle.row_model.specs.Widths.{cell_height, height_of}
use Rattle.row_model.specs.declared.rows.Seat.{Seat}
use Rattle.channel_model.specs.declared.wiring.Wiring.{Wiring}
use Rattle.feed_cells.specs.Fed.{Fed, IsFed, cells_in, row_height, seats_in}
use Rattle.feed_cells.specs.declared.fed.Item.{Item}
use Rattle.feed_cells.specs.declared.fed.Item.TheVariants.{Cell}
use Rattle.row_model.specs.Rows.{ArePlaced}
use Rattle.channel_stack.proofs.KnownItems.{KnownCell, item-known, seat-in}
use Rattle.channel_stack.proofs.Planned.{height_of_row}
use Rattle.channel_stack.proofs.RowItems.{seat-item}
use Rattle.channel_stack.proofs.StackBounds.{heights-counted, heights-of, row-within}
use Rattle.channel_stack.specs.Stack.{stack_top}
use Rattle.std_laws.proofs.Every.{every-from-get, every-map}
use Rattle.std_laws.proofs.Greatest.{greatest-bound, greatest-few, greatest-first}
use Rattle.std_laws.proofs.Members.{get-contains, member-cases, member-head, member-tail}

-- no cell of a row is higher than the row
seat-within : (d : Netlist) (seats : List Seat) (s : Seat) → Contains seats s → cell_height d s.instance ≤ row_height d seats
seat-within d [] s member = absurd (omega (arith, member.1))
seat-within d (first ∷ seats) s member =
    elim (member-cases first seats s member) [
      | inl same ↦
          subst (λ (t : Seat). cell_height d t.instance ≤ row_height d (first ∷ seats)) same
          (greatest-first (cell_height d first.instance) (map (λ (t : Seat). cell_height d t.instance) seats))
      | inr later ↦
          greatest-bound (λ (t : Seat). cell_height d t.instance) (cell_height d first.instance) seats s later
    ]

pub cell-within : (d : Netlist) (items : List Item) (s : Seat) → Contains items (Cell s) → cell_height d s.instance ≤ height_of_row d items
cell-within d items s member = seat-within d (seats_in items) s (seat-in items s member)

-- a cell has the height of its kind
pub known-height : (d : Netlist) (s : Seat) (known : KnownCell d s) → cell_height d s.instance ≡ known.kind.height
known-height d s known = ap height_of known.is_kind_of

module _ (r : RuleValues) (d : Netlist) (good : IsNetlist d) (room : HasRoom r d) where
  known-room : (s : Seat) → KnownCell d s → least_height r ≤ cell_height d s.instance
  known-room s known =
      subst (λ (n : ℕ). least_height r ≤ n) (sym (known-height d s known)) (kind-room r d room known.inst.kind known.kind known.is_kind)

  module _ (fed : Fed) (placed : ArePlaced d (cells_in fed.rows)) (items : List Item) (row : Contains fed.rows items) where
    -- a cell of a row has room for its pins
    pub cell-room : (s : Seat) → Contains items (Cell s) → least_height r ≤ cell_height d s.instance
    cell-room s member = known-room s (item-known d fed placed good items row (Cell s) member)

    -- and so has the row
    pub row-room : 0 < length d.kinds → least_height r ≤ height_of_row d items
    row-room some = by (seats_in items) refl
      where
        by : (seats : List Seat) → seats_in items ≡ seats → least_height r ≤ row_height d (seats_in items)
        by [] none = subst (λ (l : List Seat). least_height r ≤ row_height d l) (sym none) (design-room r d good room some)
        by (s ∷ seats) is =
            let there : Contains (seats_in items) s = subst (λ (l : List Seat). Contains l s) (sym is) (member-head s seats) in
            omega (arith, cell-room s (seat-item items s there), seat-within d (seats_in items) s there)

-- no row is higher than the design
pub row-low : (d : Netlist) → IsNetlist d → (fed : Fed) → ArePlaced d (cells_in fed.rows) → (items : List Item) → Contains fed.rows items → height_of_row d items ≤ d.height
row-low d good fed placed items row = by (seats_in items) refl
  where
    cell-low : (s : Seat) → Contains (seats_in items) s → cell_height d s.instance ≤ d.height
    cell-low s member =
        let known : KnownCell d s = item-known d fed placed good items row (Cell s) (seat-item items s member) in
        omega (arith, known-height d s known, kind-highest d good known.inst.kind known.kind known.is_kind)

    by : (seats : List Seat) → seats_in items ≡ seats → row_height d (seats_in items) ≤ d.height
    by [] none = subst (λ (l : List Seat). row_height d l ≤ d.height) (sym none) (omega arith)
    by (s ∷ seats) is =
        subst (λ (l : List Seat). row_height d l ≤ d.height) (sym is)
        (greatest-few d.height (cell_height d s.instance) (map (λ (t : Seat). cell_height d t.instance) seats)
        (cell-low s (subst (λ (l : List Seat). Contains l s) (sym is) (member-head s seats)))
        (every-map (λ (n : ℕ). n ≤ d.height) (λ (t : Seat). cell_height d t.instance) seats
        (every-from-get (λ (t : Seat). cell_height d t.instance ≤ d.height) seats
        (λ k t at. cell-low t (subst (λ (l : List Seat). Contains l t) (sym is) (member-tail s seats t (get-contains seats k t at)))))))

-- the height of a row, among those of the rows with feeds
pub height-there : (d : Netlist) (fed : Fed) → IsFed d fed → (k : ℕ) (items : List Item) → slice_get fed.rows k ≡ Some items
    → slice_get fed.heights k ≡ Some (height_of_row d items)
height-there d fed is k items at =
    ap (λ (heights : List ℕ). slice_get heights k) (heights-of d fed is) ∙ slice_get-map (row_height d) (cells_in fed.rows) k
    ∙ ap (option_map (row_height d)) (slice_get-map seats_in fed.rows k ∙ ap (option_map seats_in) at)

-- a row is no higher than the stack
pub height-within : (r : RuleValues) (d : Netlist) (fed : Fed) (ws : List Wiring) → IsFed d fed → length ws ≡ length fed.rows + 1
    → (k : ℕ) (items : List Item) → slice_get fed.rows k ≡ Some items → height_of_row d items ≤ stack_top r fed.heights 0 ws
height-within r d fed ws is each k items at =
    row-within r fed.heights 0 ws k (height_of_row d items) (height-there d fed is k items at) (omega (arith, each, heights-counted d fed is))
