use Rattle.std.proofs.Common.{◌≡◌, ℕ, ◌+◌, ◌<◌, ◌≤◌, ◌++◌, List, [], ◌∷◌, length, map, sum, true, Some, Contains, ap, subst, ◌∙◌, refl, arith}
use Rattle.std.proofs.lemmas.Bool.{both_ways}
use Rattle.std.proofs.lemmas.Bool.Decides.{nat_tests}
use Rattle.std.proofs.lemmas.List.Elements.{Contains-append_right, recursion_from_All}
use Rattle.std.proofs.lemmas.List.Sums.{get_or-le-sum_by}
use Rattle.std.proofs.lemmas.Option.{slice_get_within}
use Rattle.std.specs.List.{AllByRecursion, list_any}
use Rattle.std.specs.Prelude.{◌==◌, slice_get, option_map}
use Rattle.std.specs.Option.{option_and_then}
use Rattle.row_model.specs.declared.stands.Stand.{Stand}
use Rattle.design_model.proofs.DesignPins.{pin-within}
use Rattle.design_model.specs.Netlist.{Netlist, IsNetlist}
use Rattle.design_model.specs.declared.design.CellKind.{CellKind}
use Rattle.design_model.specs.declared.design.Inst.{Inst}
use Rattle.design_model.specs.declared.design.Pin.{Pin}
use Rattle.row_model.specs.Stands.{stand_of}
use Rattle.row_model.specs.Widths.{cell_height, columns_of, height_of, kind_of, width_of}
use Rattle.row_model.specs.declared.rows.Seat.{Seat}
use Rattle.row_model.proofs.PlacedLaws.{IsWithin, rows-within}
use Rattle.row_model.proofs.StandLaws.{IsStand, stand-is, stand-there}
use Rattle.feed_cells.specs.Fed.{Fed, IsFed, cells_in, fed_row, fed_rows, item_width, items_width, seats_in}
use Rattle.feed_cells.proofs.Standing.{Stands, seated, feeding}
use Rattle.feed_cells.specs.declared.fed.Item.{Item}
use Rattle.feed_cells.specs.declared.fed.Item.TheVariants.{Cell, Feed}
use Rattle.feed_cells.proofs.FedLaws.{fed-row, fed-row-some, fed-width, item-stands, seat-stands}
use Rattle.channel_model.specs.declared.wiring.Wiring.{Wiring}
use Rattle.tech_rules.specs.Rules.{RuleValues}
use Rattle.channel_stack.specs.Stack.{stack_top}
use Rattle.channel_stack.proofs.KnownItems.{SeatedAt, seated as instance-seated}
use Rattle.channel_stack.proofs.Planned.{height_of_row}
use Rattle.channel_stack.proofs.RowHeights.{cell-within, height-within}
use Rattle.cif_writer.specs.FeedHeights.{feed_heights, is_feed}
use Rattle.cif_writer.proofs.HeightLaws.{feeds-there}
use Rattle.std_laws.proofs.Members.{find-member, map-member, member-head, member-place}
use Rattle.std_laws.proofs.Places.{at-place, map-at}
use Rattle.std_laws.proofs.Every.{every-from-get, every-get}

-- an item is at most as wide as its row
item-narrow : (d : Netlist) (items : List Item) (item : Item) → Contains items item → item_width d item ≤ items_width d items
item-narrow d items item member =
    let widths : List ℕ = map (item_width d) items in
    let width : Contains widths (item_width d item) = map-member (item_width d) items item member in
    subst (λ (n : ℕ). n ≤ sum widths) width.2 (get_or-le-sum_by (λ (n : ℕ). n) widths width.0 (item_width d item) width.1)

-- each instance is at most as wide as the widest row
pub instance-narrow : (d : Netlist) (fed : Fed) → IsFed d fed → (instance : ℕ) → instance < length d.instances → columns_of d instance ≤ fed.width
instance-narrow d fed is instance inside =
    let rows : List (List Seat) = cells_in fed.rows in
    let there : (stand : Stand) × (stand_of d rows instance ≡ Some stand) × (stand.row < length rows) = stand-there d rows instance is.placed inside in
    let stand : IsStand rows instance there.0 = stand-is d rows instance there.0 there.1 in
    let seats : List Seat = stand.front ++ stand.seat ∷ stand.back in
    let seat : Contains seats stand.seat = Contains-append_right stand.front (stand.seat ∷ stand.back) stand.seat (member-head stand.seat stand.back) in
    let items : List Item = fed_row d rows there.0.row seats in
    let row : slice_get (fed_rows d rows).rows there.0.row ≡ Some items =
    fed-row d rows there.0.row ∙ ap (option_map (fed_row d rows there.0.row)) stand.at in
    let wide : items_width d items ≤ (fed_rows d rows).width = fed-width d rows there.0.row items row in
    let own : columns_of d stand.seat.instance ≤ items_width d items =
    item-narrow d items (Cell stand.seat) (seat-stands d rows there.0.row seats stand.seat seat) in
    let same : columns_of d stand.seat.instance ≡ columns_of d instance = ap (columns_of d) stand.own in
    let width : fed.width ≡ (fed_rows d rows).width = ap (λ (f : Fed). f.width) is.is in
    omega arith

-- an instance of a kind
pub kind-called : (d : Netlist) → IsNetlist d → (n : ℕ) (k : CellKind) → slice_get d.kinds n ≡ Some k → (instance : ℕ) × (instance < length d.instances) × (kind_of d instance ≡ Some k)
kind-called d good n k at =
    let called = find-member (λ (i : Inst). i.kind == n) d.instances (good.called n (slice_get_within d.kinds n k at)) in
    let place : (m : ℕ) × (slice_get d.instances m ≡ Some called.0) = member-place d.instances called.0 called.1 in (
      place.0,
      slice_get_within d.instances place.0 called.0 place.1,
      ap (option_and_then (λ (i : Inst). slice_get d.kinds i.kind)) place.1 ∙ ap (slice_get d.kinds) (same-is called.0.kind called.2) ∙ at,
    )
  where
    same-is : (a : ℕ) → (a == n) ≡ true → a ≡ n
    same-is a test = grind (arith, nat_tests)

-- so is each kind, since an instance has it
pub kinds-narrow : (d : Netlist) (fed : Fed) → IsNetlist d → IsFed d fed → AllByRecursion (λ (k : CellKind). k.columns ≤ fed.width) d.kinds
kinds-narrow d fed good is =
    every-from-get (λ (k : CellKind). k.columns ≤ fed.width) d.kinds
    (λ n k at.
    let called = kind-called d good n k at in
    subst (λ (columns : ℕ). columns ≤ fed.width) (ap width_of called.2) (instance-narrow d fed is called.0 called.1))

-- and no higher than the stack
pub kinds-low : (r : RuleValues) (d : Netlist) (fed : Fed) (ws : List Wiring) → IsNetlist d → IsFed d fed → length ws ≡ length fed.rows + 1
    → AllByRecursion (λ (k : CellKind). k.height ≤ stack_top r fed.heights 0 ws) d.kinds
kinds-low r d fed ws good is each =
    every-from-get (λ (k : CellKind). k.height ≤ stack_top r fed.heights 0 ws) d.kinds
    (λ n k at.
    let called = kind-called d good n k at in
    let seat : SeatedAt fed.rows called.0 = instance-seated d fed is.placed called.0 called.1 in
    let items : List Item = seat.front ++ Cell seat.seat ∷ seat.back in
    let own : cell_height d seat.seat.instance ≡ k.height = ap (cell_height d) seat.own ∙ ap height_of called.2 in
    let row = cell-within d items seat.seat (Contains-append_right seat.front (Cell seat.seat ∷ seat.back) (Cell seat.seat) (member-head (Cell seat.seat) seat.back)) in
    omega (arith, own, row, height-within r d fed ws is each seat.row items seat.at))

-- a net has a pin, so that there is an instance and a kind
net-kind : (d : Netlist) → IsNetlist d → (net : ℕ) → 0 < net → net ≤ length d.nets → 0 < length d.kinds
net-kind d good net some few =
    let used = find-member (λ (p : Pin). p.net == net) d.pins (good.used net some few) in
    let place : (m : ℕ) × (slice_get d.pins m ≡ Some used.0) = member-place d.pins used.0 used.1 in
    let instance : (i : Inst) × (slice_get d.instances used.0.instance ≡ Some i) =
    at-place d.instances used.0.instance (pin-within d good place.0 used.0 place.1) in
    let kind : instance.0.kind < length d.kinds =
    every-get (λ (i : Inst). i.kind < length d.kinds) d.instances used.0.instance instance.0
    (recursion_from_All (λ (i : Inst). i.kind < length d.kinds) d.instances good.instances) instance.1 in
    omega arith

-- where there is a feed there is a kind
pub feed-kind : (d : Netlist) (fed : Fed) → IsNetlist d → IsFed d fed → (k : ℕ) (items : List Item) → slice_get fed.rows k ≡ Some items → list_any is_feed items ≡ true
    → 0 < length d.kinds
feed-kind d fed good is k items at any =
    let item = find-member is_feed items any in
    let seats = fed-row-some d (cells_in fed.rows) k items (subst (λ (f : Fed). slice_get f.rows k ≡ Some items) is.is at) in
    of item.0 item.2 k seats.0 (item-stands d (cells_in fed.rows) k seats.0 item.0 (subst (λ (l : List Item). Contains l item.0) seats.2 item.1))
  where
    of : (item : Item) → is_feed item ≡ true → (row : ℕ) (seats : List Seat) → Stands d (cells_in fed.rows) row seats item → 0 < length d.kinds
    of item test row seats (seated s member same) = absurd (both_ways (is_feed item) (ap is_feed same) test)
    of item test row seats (feeding net feed same) = net-kind d good net feed.some feed.few

-- an item of a row of this height: a cell's instance is one of the design's, and feeds have the row's height among theirs
abbrev pub IsThere : Netlist → List ℕ → ℕ → Item → Type 0
IsThere d tall height (Cell s) = s.instance < length d.instances
IsThere d tall height (Feed net) = Contains tall height

row-there : (d : Netlist) (tall : List ℕ) (height : ℕ) (items : List Item) → AllByRecursion (λ (s : Seat). s.instance < length d.instances) (seats_in items)
    → (list_any is_feed items ≡ true → Contains tall height) → AllByRecursion (IsThere d tall height) items
row-there d tall height [] all any = tt
row-there d tall height (Cell s ∷ items) all any = (all.0, row-there d tall height items all.1 any)
row-there d tall height (Feed net ∷ items) all any = (any refl, row-there d tall height items all (λ (more : list_any is_feed items ≡ true). any refl))

-- the items of rows with feeds are such
abbrev pub AreThere : Netlist → List ℕ → List (List Item) → Type 0
AreThere d tall rows = AllByRecursion (λ (items : List Item). AllByRecursion (IsThere d tall (height_of_row d items)) items) rows

pub items-there : (d : Netlist) (fed : Fed) → IsNetlist d → IsFed d fed → AreThere d (feed_heights fed) fed.rows
items-there d fed good is =
    every-from-get (λ (items : List Item). AllByRecursion (IsThere d (feed_heights fed) (height_of_row d items)) items) fed.rows
    (λ k items at.
    row-there d (feed_heights fed) (height_of_row d items) items
    (every-get (IsWithin (length d.instances) 20000) (cells_in fed.rows) k (seats_in items) (rows-within d (cells_in fed.rows) good is.placed) (map-at seats_in fed.rows k items at)).0
    (feeds-there d fed is k items at))
