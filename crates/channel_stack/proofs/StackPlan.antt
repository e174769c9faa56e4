use Rattle.row_model.specs.declared.rows.Seat as seats
use Rattle.std.proofs.Common.{◌≡◌, ◌∙◌, inl, inr, refl, sym, ap, subst, ℕ, ◌+◌, ◌<◌, ◌≤◌, List, [], ◌∷◌, ◌++◌, length, get_or, map, Some, Contains, arith}
use Rattle.std.proofs.lemmas.List.Elements.{All-contains, All-from_recursion, Contains-append_cases}
use Rattle.std.specs.Prelude.{◌==◌, slice_get}
use Rattle.design_model.proofs.DesignPins.{pin-within}
use Rattle.tech_rules.specs.Rules.{RuleValues, ValidRules}
use Rattle.design_model.specs.Netlist.{Netlist, IsNetlist}
use Rattle.design_model.specs.declared.design.Inst.{Inst}
use Rattle.design_model.specs.declared.design.Pin.{Pin}
use Rattle.design_model.specs.Room.{HasRoom, least_height}
use Rattle.channel_model.specs.declared.wiring.Wiring.{Wiring}
use Rattle.row_model.specs.Rows.{ArePlaced}
use Rattle.row_model.proofs.PlacedLaws.{IsWithin, rows-within}
use Rattle.feed_cells.specs.Fed.{Fed, cells_in, fed_rows}
use Rattle.feed_cells.proofs.Standing.{Stands, seated, feeding}
use Rattle.feed_cells.specs.declared.fed.Item.{Item}
use Rattle.feed_cells.specs.declared.fed.Item.TheVariants.{Cell, Feed}
use Rattle.feed_cells.proofs.FedLaws.{cells-fed, fed-row-some, item-stands}
use Rattle.feed_cells.proofs.RowFeedLaws.{fed-from}
use Rattle.pin_assign.specs.Tables.{table_of}
use Rattle.layout_laws.proofs.Plans.{IsPlan, row_base}
use Rattle.layout_laws.proofs.Seats.{IsSeat, Upright, UprightAt}
use Rattle.layout_laws.proofs.Uprights.{DrawUprights, DrawsUpright}
use Rattle.wire_geom.specs.declared.drawn.Drawn.{Drawn}
use Rattle.channel_stack.proofs.Planned.{height_at, item_wires, plan_of, risers_at, risers_in, row_at, row_drawn, seat_of, wiring_at}
use Rattle.channel_stack.specs.Routed.{AreWired}
use Rattle.channel_stack.proofs.PlanBases.{bases-next, wiring-there}
use Rattle.channel_stack.proofs.PlanEntries.{lower-net, upper-net}
use Rattle.channel_stack.proofs.PlanSeats.{IsInReach, cell-reach, cell-seat, feed-reach, feed-seat}
use Rattle.channel_stack.proofs.RowHeights.{cell-room, cell-within, row-room}
use Rattle.channel_stack.proofs.RowItems.{among-split, row-there, upright-stands, wire-of}
use Rattle.channel_stack.proofs.RowRisers.{riser-of}
use Rattle.channel_stack.proofs.RiserPins.{riser-drawn}
use Rattle.std_laws.proofs.Members.{find-member, get-contains, map-cases, member-place}
use Rattle.std_laws.proofs.Ranges.{image-at}
use Rattle.std_laws.proofs.Every.{every-get}

-- a design with an instance has a kind
kinds-some : (d : Netlist) → IsNetlist d → (instance : ℕ) → instance < length d.instances → 0 < length d.kinds
kinds-some d good instance within =
    let nothing : Inst = record { name = []; kind = 0 } in
    let inst : Inst = get_or d.instances instance nothing in
    let there : inst.kind < length d.kinds = good.instances instance nothing within in
    omega (arith, there)

module _ (d : Netlist) (good : IsNetlist d) (rows : List (List seats.Seat)) (placed : ArePlaced d rows) where
  -- what stands in a row is of an instance, or a feed for a net, which has pins of instances
  instance-of : (k : ℕ) (row : List seats.Seat) (item : Item) → slice_get rows k ≡ Some row → Stands d rows k row item → (instance : ℕ) × (instance < length d.instances)
  instance-of k row item at (seated s member is) =
      let all = every-get (IsWithin (length d.instances) 20000) rows k row (rows-within d rows good placed) at in (
        s.instance,
        All-contains (λ (t : seats.Seat). t.instance < length d.instances) row s
            (All-from_recursion (λ (t : seats.Seat). t.instance < length d.instances) row all.0) member,
      )
  instance-of k row item at (feeding net feed is) =
      let found = find-member (λ (p : Pin). p.net == net) d.pins (good.used net (omega (arith, feed.some)) feed.few) in
      let there = member-place d.pins found.0 found.1 in
      (found.0.instance, pin-within d good there.0 found.0 there.1)

  row-some : (k : ℕ) → k < length (fed_rows d rows).rows → (item : Item) → Contains (row_at (fed_rows d rows) k) item → 0 < length d.kinds
  row-some k within item member =
      let row = fed-row-some d rows k (row_at (fed_rows d rows) k) (row-there (fed_rows d rows) k within) in
      let stands = item-stands d rows k row.0 item (subst (λ (items : List Item). Contains items item) row.2 member) in
      let instance = instance-of k row.0 item row.1 stands in
      kinds-some d good instance.0 instance.1

-- the wires of a row's items lie within what the items take of the row
row-drawn : (r : RuleValues) → ValidRules r → (d : Netlist) (base height : ℕ) (items : List Item)
    → ((item : Item) → Contains items item → (wire : Upright) → Contains (item_wires r d height item) wire → IsInReach r d height item wire)
    → DrawUprights r base (map (seat_of r d height) items) (row_drawn r d base height 0 items)
row-drawn r valid d base height items are a member wired =
    let w = wire-of r d height base valid items 0 a member wired in
    let here : Contains items w.item = subst (λ (xs : List Item). Contains xs w.item) (sym w.is) (among-split w.front w.back w.item) in
    let in_reach = are w.item here w.wire w.member in
    record {
      upright = in_reach.reach;
      column = w.from + w.wire.column;
      low = w.wire.low;
      high = w.wire.high;
      from = in_reach.from;
      to = in_reach.to;
      long = in_reach.long;
      at = subst (λ (xs : List Item). UprightAt in_reach.reach (w.from + w.wire.column) 0 (map (seat_of r d height) xs)) (sym w.is)
          (upright-stands r d height w.front w.item w.back 0 (w.from + w.wire.column) in_reach.reach in_reach.member (omega (arith, w.begins, in_reach.column)));
      layer = ap (λ (x : Drawn). x.shape.layer) w.drawn;
      rect = ap (λ (x : Drawn). x.shape.rect) w.drawn;
      net = ap (λ (x : Drawn). x.net) w.drawn ∙ in_reach.net;
    }

module _ (r : RuleValues) (valid : ValidRules r) (d : Netlist) (good : IsNetlist d) (tall : HasRoom r d) (rows : List (List seats.Seat)) (placed : ArePlaced d rows) where
  abbrev rows_of : Fed
  rows_of = fed_rows d rows

  abbrev tall_of : ℕ → ℕ
  tall_of k = height_at d (fed_rows d rows) k

  fed-placed : ArePlaced d (cells_in (fed_rows d rows).rows)
  fed-placed = subst (ArePlaced d) (sym (cells-fed d rows)) placed

  row-listed : (k : ℕ) → k < length (fed_rows d rows).rows → Contains (fed_rows d rows).rows (row_at (fed_rows d rows) k)
  row-listed k within = get-contains (fed_rows d rows).rows k (row_at (fed_rows d rows) k) (row-there (fed_rows d rows) k within)

  -- a row in which something stands has room
  row-tall : (k : ℕ) → k < length (fed_rows d rows).rows → (item : Item) → Contains (row_at (fed_rows d rows) k) item → least_height r ≤ tall_of k
  row-tall k within item member =
      row-room r d good tall rows_of fed-placed (row_at rows_of k) (row-listed k within) (row-some d good rows placed k within item member)

  -- what stands in a row is a seat of it, and draws within it
  item-seat : (k : ℕ) → k < length (fed_rows d rows).rows → (item : Item) → Contains (row_at (fed_rows d rows) k) item → IsSeat r (tall_of k) (seat_of r d (tall_of k) item)
  item-seat k within (Cell s) member =
      cell-seat r valid d good (tall_of k) s (cell-room r d good tall rows_of fed-placed (row_at rows_of k) (row-listed k within) s member)
      (cell-within d (row_at rows_of k) s member)
  item-seat k within (Feed net) member = feed-seat r valid d good (tall_of k) net (row-tall k within (Feed net) member)

  item-reach : (k : ℕ) → k < length (fed_rows d rows).rows → (item : Item) → Contains (row_at (fed_rows d rows) k) item
      → (wire : Upright) → Contains (item_wires r d (tall_of k) item) wire → IsInReach r d (tall_of k) item wire
  item-reach k within (Cell s) member =
      cell-reach r valid d (tall_of k) s (cell-room r d good tall rows_of fed-placed (row_at rows_of k) (row-listed k within) s member)
      (cell-within d (row_at rows_of k) s member)
  item-reach k within (Feed net) member = feed-reach r valid d (tall_of k) net (row-tall k within (Feed net) member)

  -- a riser lies within what its cell takes of the row
  row-riser : (ws : List Wiring) → length ws ≡ length (fed_rows d rows).rows + 1 → (k : ℕ) → k < length (fed_rows d rows).rows
      → (a : Drawn) → Contains (risers_at (risers_in r d (fed_rows d rows) ws) k) a
      → DrawsUpright r (row_base r (plan_of r d (fed_rows d rows) ws) k) (map (seat_of r d (tall_of k)) (row_at (fed_rows d rows) k)) a
  row-riser ws each k within a rises =
      let it = riser-of r d rows_of (fed-from d rows rows_of placed refl) ws each k within a rises in
      let items : List Item = it.front ++ Cell it.seat ∷ it.back in
      riser-drawn r d good rows_of k (row_base r (plan_of r d rows_of ws) k) (tall_of k) a it valid
      (cell-room r d good tall rows_of fed-placed items (get-contains rows_of.rows k items it.at) it.seat (among-split it.front it.back (Cell it.seat)))

  -- the rows and channels of a wired design are a plan
  pub stack-plan : (ws : List Wiring) → AreWired d (fed_rows d rows) ws → IsPlan r (plan_of r d (fed_rows d rows) ws)
  stack-plan ws wired_all =
      let fed : Fed = fed_rows d rows in
      record {
        wired = λ k within.
            wired_all.wired k (table_of d fed k) (wiring_at ws k)
            (image-at (table_of d fed) 0 (length fed.rows + 1) k (omega arith) ∙ ap (λ (n : ℕ). Some (table_of d fed n)) (omega arith))
            (wiring-there ws k (omega (arith, within, wired_all.each)));
        tall = λ k within seat member.
            let found = map-cases (seat_of r d (tall_of k)) (row_at fed k) seat member in
            let room = row-tall k within found.0 found.1 in
            omega (arith, room);
        next = λ k within. bases-next r d 0 ws fed.rows k within (omega (arith, within, wired_all.each));
        seated = λ k within seat member.
            let found = map-cases (seat_of r d (tall_of k)) (row_at fed k) seat member in
            subst (IsSeat r (tall_of k)) found.2 (item-seat k within found.0 found.1);
        drawn = λ k within a member wired.
            elim (Contains-append_cases (row_drawn r d (row_base r (plan_of r d fed ws) k) (tall_of k) 0 (row_at fed k)) (risers_at (risers_in r d fed ws) k) a member) [
              | inl own ↦ row-drawn r valid d (row_base r (plan_of r d fed ws) k) (tall_of k) (row_at fed k) (item-reach k within) a own wired
              | inr rises ↦ row-riser ws wired_all.each k within a rises
            ];
        top_entries = λ k within column net entry. lower-net r d good fed k within column net entry;
        bottom_entries = λ k within column net entry. upper-net r d good fed k within column net entry;
      }
