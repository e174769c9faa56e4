use Rattle.std.proofs.Common.{◌≡◌, refl, sym, ap, ◌∙◌, subst, ℕ, zero, suc, ◌+◌, ◌-◌, ◌<◌, ◌≤◌, List, [], ◌∷◌, ◌++◌, length, get_or, Some, Contains, arith}
use Rattle.std.proofs.lemmas.List.{length-map}
use Rattle.std.proofs.lemmas.List.FromFn.{length-range_with_len}
use Rattle.std.proofs.lemmas.Option.{get_or_from_slice_get, same_Some, slice_get_read, slice_get_within}
use Rattle.std.specs.List.{range_with_len}
use Rattle.std.specs.Prelude.{slice_get, slice_index, unwrap_or}
use Rattle.tech_rules.specs.Rules.{RuleValues}
use Rattle.design_model.specs.Netlist.{Netlist}
use Rattle.channel_model.specs.declared.wiring.Wiring.{Wiring}
use Rattle.feed_cells.specs.Fed.{Fed, IsFed, cells_in, fed_rows, items_width}
use Rattle.feed_cells.specs.declared.fed.Item.{Item}
use Rattle.feed_cells.specs.declared.fed.Item.TheVariants.{Cell}
use Rattle.feed_cells.proofs.FedLaws.{fed-width}
use Rattle.pin_assign.specs.Tables.{table_of, tables_of}
use Rattle.channel_model.specs.Pins.{Pins}
use Rattle.pin_assign.proofs.WidthLaws.{table-bottom_length}
use Rattle.layout_laws.specs.Heights.{channel_height}
use Rattle.layout_laws.proofs.Plans.{row_base}
use Rattle.wire_geom.specs.declared.drawn.Drawn.{Drawn}
use Rattle.channel_stack.specs.Risers.{AreRisers, IsRiser, risers_along, row_risers}
use Rattle.channel_stack.specs.Stack.{channel_bases, row_bases}
use Rattle.channel_stack.proofs.Planned.{height_at, plan_of, risers_at, risers_in, row_at, wiring_at}
use Rattle.channel_stack.proofs.RiserLaws.{along-listed, along-of, cell_riser}
use Rattle.channel_stack.proofs.RowHeights.{height-there}
use Rattle.channel_stack.proofs.RowItems.{row-is, row-there}
use Rattle.channel_stack.proofs.StackBounds.{heights-counted, heights-of}
use Rattle.std_laws.proofs.Ranges.{image-at}

-- a row stands on its channel
row-edge : (r : RuleValues) (heights : List ℕ) (base : ℕ) (ws : List Wiring) (k : ℕ) → k < length heights → length ws ≡ length heights + 1
    → slice_index (row_bases r heights base ws) k ≡ slice_index (channel_bases r heights base ws) k + channel_height r (wiring_at ws k)
row-edge r [] base ws k within each = absurd (omega (arith, within))
row-edge r (h ∷ heights) base [] k within each = absurd (omega (arith, each))
row-edge r (h ∷ heights) base (w ∷ ws) zero within each = refl
row-edge r (h ∷ heights) base (w ∷ ws) (suc k) within each = row-edge r heights (base + channel_height r w + h) ws k (omega (arith, within)) (omega (arith, each))

-- a channel has as many entries above a row as the widest row has columns
pub entries-above : (d : Netlist) (fed : Fed) → IsFed d fed → (k : ℕ) → length (table_of d fed (suc k)).bottom ≡ fed.width
entries-above d fed from k =
    ap (λ (f : Fed). length (table_of d f (suc k)).bottom) from.is ∙ table-bottom_length d (cells_in fed.rows) (suc k) ∙ ap (λ (f : Fed). f.width) (sym from.is)

-- a row is no wider than the list of the entries above it
pub row-covered : (d : Netlist) (fed : Fed) → IsFed d fed → (k : ℕ) (items : List Item) → slice_get fed.rows k ≡ Some items
    → items_width d items ≤ length (table_of d fed (suc k)).bottom
row-covered d fed from k items at =
    let own : slice_get (fed_rows d (cells_in fed.rows)).rows k ≡ Some items = subst (λ (f : Fed). slice_get f.rows k ≡ Some items) from.is at in
    let narrow = fed-width d (cells_in fed.rows) k items own in
    let long = entries-above d fed from k in
    omega (arith, narrow, long, ap (λ (f : Fed). f.width) from.is)

-- there is one channel more than there are rows
pub channels-counted : (d : Netlist) (fed : Fed) (channels : List Pins) → channels ≡ tables_of d fed → length channels ≡ length fed.rows + 1
channels-counted d fed channels are =
    ap length are ∙ length-map (range_with_len 0 (length fed.rows + 1)) (table_of d fed) ∙ length-range_with_len 0 (length fed.rows + 1)

-- the channel above row k
pub channel-above : (d : Netlist) (fed : Fed) (channels : List Pins) (k : ℕ) (pins : Pins) → channels ≡ tables_of d fed → k < length fed.rows → pins ≡ get_or channels (k + 1) pins
    → pins ≡ table_of d fed (suc k)
channel-above d fed channels k pins are within read =
    let place : 0 + (k + 1) ≡ suc k = omega arith in
    same_Some pins (table_of d fed (suc k))
    (sym (slice_get_read channels (length channels) (k + 1) pins refl (omega (arith, within, channels-counted d fed channels are)) read)
    ∙ ap (λ (l : List Pins). slice_get l (k + 1)) are
    ∙ image-at (table_of d fed) 0 (length fed.rows + 1) (k + 1) (omega (arith, within)) ∙ ap (λ (n : ℕ). Some (table_of d fed n)) place)

-- the items that are read at a row's place
pub row-read : (fed : Fed) (rows : List (List Item)) (k : ℕ) (there items : List Item) → rows ≡ fed.rows → k < length fed.rows → there ≡ get_or rows k there → items ≡ there
    → slice_get fed.rows k ≡ Some items
row-read fed rows k there items are within read same =
    ap (λ (l : List (List Item)). slice_get l k) (sym are) ∙ slice_get_read rows (length rows) k there refl (omega (arith, within, ap length are)) read
    ∙ ap (λ (l : List Item). Some l) (sym same)

-- the risers along a row's items, by the row's height and the entries above it
pub along-row : (r : RuleValues) (d : Netlist) (fed : Fed) (bases : List ℕ) (k : ℕ) (heights nets : List ℕ) (items : List Item)
    → heights ≡ fed.heights → nets ≡ (table_of d fed (suc k)).bottom → slice_get fed.rows k ≡ Some items
    → risers_along r d (slice_index bases k) (slice_index heights k) 0 nets items ≡ row_risers r d fed bases k
along-row r d fed bases k heights nets items tall over at =
    ap (λ (l : List ℕ). risers_along r d (slice_index bases k) (slice_index l k) 0 nets items) tall
    ∙ ap (λ (l : List ℕ). risers_along r d (slice_index bases k) (slice_index fed.heights k) 0 l items) over
    ∙ ap (λ (l : List Item). risers_along r d (slice_index bases k) (slice_index fed.heights k) 0 (table_of d fed (suc k)).bottom l) (sym (row-is fed k items at))

module _ (r : RuleValues) (d : Netlist) (fed : Fed) (from : IsFed d fed) (ws : List Wiring) (each : length ws ≡ length fed.rows + 1) where
  abbrev floor_of : ℕ → ℕ
  floor_of k = row_base r (plan_of r d fed ws) k

  pub row-floor : (k : ℕ) → k < length fed.rows → slice_index (row_bases r fed.heights 0 ws) k ≡ floor_of k
  row-floor k within =
      row-edge r fed.heights 0 ws k (omega (arith, within, heights-counted d fed from)) (omega (arith, each, heights-counted d fed from))
      ∙ ap (λ (heights : List ℕ). slice_index (channel_bases r heights 0 ws) k + channel_height r (wiring_at ws k)) (heights-of d fed from)

  pub row-tall : (k : ℕ) → k < length fed.rows → slice_index fed.heights k ≡ height_at d fed k
  row-tall k within = get_or_from_slice_get fed.heights k (height_at d fed k) 0 (height-there d fed from k (row_at fed k) (row-there fed k within))

  -- the risers of row k are those along its items
  risers-along : (k : ℕ) → k < length fed.rows
      → risers_at (risers_in r d fed ws) k ≡ risers_along r d (floor_of k) (height_at d fed k) 0 (table_of d fed (suc k)).bottom (row_at fed k)
  risers-along k within =
      let place : 0 + k ≡ k = omega arith in
      ap (λ o. unwrap_or o []) (image-at (row_risers r d fed (row_bases r fed.heights 0 ws)) 0 (length fed.rows) k within)
      ∙ ap (row_risers r d fed (row_bases r fed.heights 0 ws)) place
      ∙ ap (λ (n : ℕ). risers_along r d n (slice_index fed.heights k) 0 (table_of d fed (suc k)).bottom (row_at fed k)) (row-floor k within)
      ∙ ap (λ (n : ℕ). risers_along r d (floor_of k) n 0 (table_of d fed (suc k)).bottom (row_at fed k)) (row-tall k within)

  -- each riser of row k is one of an entry, and each entry over a cell lower than the row has its riser
  pub riser-of : (k : ℕ) → k < length fed.rows → (a : Drawn) → Contains (risers_at (risers_in r d fed ws) k) a → IsRiser r d fed k (floor_of k) (height_at d fed k) a
  riser-of k within a member =
      let o =
      along-of r d (floor_of k) (height_at d fed k) 0 (table_of d fed (suc k)).bottom (row_at fed k) a (row-covered d fed from k (row_at fed k) (row-there fed k within))
      (subst (λ (l : List Drawn). Contains l a) (risers-along k within) member) in
      let place : 0 + items_width d o.front + o.column ≡ items_width d o.front + o.column = omega arith in
      record {
        front = o.front;
        seat = o.seat;
        back = o.back;
        at = row-there fed k within ∙ ap (λ (l : List Item). Some l) o.among;
        lower = o.lower;
        column = items_width d o.front + o.column;
        from = omega arith;
        to = omega (arith, o.within);
        entry = (o.some, o.there);
        is = o.is ∙ ap (λ (n : ℕ). cell_riser r d (floor_of k) (height_at d fed k) o.seat n a.net) place;
      }

  pub riser-listed : (k : ℕ) → k < length fed.rows → (a : Drawn) → IsRiser r d fed k (floor_of k) (height_at d fed k) a → Contains (risers_at (risers_in r d fed ws) k) a
  riser-listed k within a it =
      let own : ℕ = it.column - items_width d it.front in
      let place : items_width d it.front + own ≡ it.column = omega (arith, it.from) in
      let again : 0 + items_width d it.front + own ≡ it.column = omega (arith, it.from) in
      let items : List Item = it.front ++ Cell it.seat ∷ it.back in
      let listed =
      along-listed r d (floor_of k) (height_at d fed k) 0 (table_of d fed (suc k)).bottom it.front it.seat it.back own a.net (row-covered d fed from k items it.at) it.lower
      (omega (arith, it.from, it.to)) it.entry.0 (ap (slice_index (table_of d fed (suc k)).bottom) place ∙ it.entry.1) in
      subst (λ (l : List Drawn). Contains l a) (sym (risers-along k within))
      (subst (λ (l : List Item). Contains (risers_along r d (floor_of k) (height_at d fed k) 0 (table_of d fed (suc k)).bottom l) a) (sym (row-is fed k items it.at))
      (subst (Contains (risers_along r d (floor_of k) (height_at d fed k) 0 (table_of d fed (suc k)).bottom items))
      (ap (λ (n : ℕ). cell_riser r d (floor_of k) (height_at d fed k) it.seat n a.net) again ∙ sym it.is) listed))

  -- the risers of the stack are just those of its rows' cells
  pub risers-are : AreRisers r d fed (row_bases r fed.heights 0 ws) (risers_in r d fed ws)
  risers-are = record {
    each = length-map (range_with_len 0 (length fed.rows)) (row_risers r d fed (row_bases r fed.heights 0 ws)) ∙ length-range_with_len 0 (length fed.rows);
    are = λ k rise a at member.
        let inside = within k rise at in
        subst (λ (n : ℕ). IsRiser r d fed k n (slice_index fed.heights k) a) (sym (row-floor k inside))
        (subst (λ (n : ℕ). IsRiser r d fed k (floor_of k) n a) (sym (row-tall k inside))
        (riser-of k inside a (subst (λ (l : List Drawn). Contains l a) (sym (there k rise at)) member)));
    all = λ k rise a at it.
        let inside = within k rise at in
        subst (λ (l : List Drawn). Contains l a) (there k rise at)
        (riser-listed k inside a
        (subst (λ (n : ℕ). IsRiser r d fed k (floor_of k) n a) (row-tall k inside)
        (subst (λ (n : ℕ). IsRiser r d fed k n (slice_index fed.heights k) a) (row-floor k inside) it)));
  }
    where
      within : (k : ℕ) (rise : List Drawn) → slice_get (risers_in r d fed ws) k ≡ Some rise → k < length fed.rows
      within k rise at =
          omega (
            arith,
            slice_get_within (risers_in r d fed ws) k rise at,
            length-map (range_with_len 0 (length fed.rows)) (row_risers r d fed (row_bases r fed.heights 0 ws)) ∙ length-range_with_len 0 (length fed.rows),
          )

      there : (k : ℕ) (rise : List Drawn) → slice_get (risers_in r d fed ws) k ≡ Some rise → risers_at (risers_in r d fed ws) k ≡ rise
      there k rise at = ap (λ o. unwrap_or o []) at
