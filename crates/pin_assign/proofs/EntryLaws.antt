use Rattle.std.proofs.Common.{◌≡◌, ◌<◌, ℕ, zero, suc, ◌+◌, ◌-◌, List, [], ◌∷◌, length, get_or, Bool, true, Some, refl, ap, sym, ◌∙◌, inl, inr, arith, Contains, length-append}
use Rattle.std.proofs.lemmas.Bool.{cases_lt}
use Rattle.std.proofs.lemmas.Bool.Decides.{nat_tests}
use Rattle.std.proofs.lemmas.List.{get_or_append_left, get_or-append_right}
use Rattle.std.proofs.lemmas.List.FromFn.{get_or-map-range_with_len}
use Rattle.std.specs.List.{find}
use Rattle.design_model.specs.Netlist.{Netlist, IsNetlist}
use Rattle.design_model.specs.declared.design.Pin.{Pin}
use Rattle.row_model.specs.Stands.{edge_column, turned_column}
use Rattle.row_model.specs.Widths.{columns_of}
use Rattle.row_model.specs.declared.rows.Seat.{Seat}
use Rattle.feed_cells.specs.Fed.{item_width}
use Rattle.feed_cells.specs.declared.fed.Item.{Item}
use Rattle.feed_cells.specs.declared.fed.Item.TheVariants.{Cell, Feed}
use Rattle.pin_assign.specs.Entering.{enters}
use Rattle.pin_assign.proofs.EntryForms.{EntryOf}
use Rattle.pin_assign.proofs.Sources.{IsOver, IsPinOver, Source, SourceEnters, StandsOver, first_over, later_over, of_feed, of_pin, source_net}
use Rattle.pin_assign.specs.Tables.{enters_in, item_entries, net_in, row_entries}
use Rattle.pin_assign.proofs.CauseLaws.{over-once, own-turned}
use Rattle.pin_assign.proofs.EdgeLaws.{turned-within}
use Rattle.pin_assign.proofs.WidthLaws.{item-length}
use Rattle.std_laws.proofs.Members.{find-passes, find-some}

-- a net among the entries of items side by side, the first of which begins in column `left`, that stands in a column of their row
pub record HasNet (entries : List ℕ) (left at net : ℕ) : Type 0 where
  pub column : ℕ
  pub place : left + column ≡ at
  pub within : column < length entries
  pub there : get_or entries column 0 ≡ net

module _ (d : Netlist) (rows : List (List Seat)) (top : Bool) (channel : ℕ) where
  -- a pin that enters in a column of a seated cell stands over the cell in this column, and the other way round
  enters-parts : (s : Seat) (left column : ℕ) (p : Pin) → Contains d.pins p → enters_in d rows top channel s column p ≡ true
      → IsPinOver d top p s left (left + column) × (enters d rows p channel ≡ true)
  enters-parts s left column p listed is =
      let own : (own : ℕ) × (edge_column d top p ≡ Some own) × (turned_column s.mirror (columns_of d s.instance) own ≡ column) = grind (arith, nat_tests) in
      (record { listed = listed; instance = grind (arith, nat_tests); own = own.0; edge = own.1; place = omega (arith, own.2) }, grind (arith, nat_tests))

  enters-from : (s : Seat) (left column : ℕ) (p : Pin) → IsPinOver d top p s left (left + column) → enters d rows p channel ≡ true → enters_in d rows top channel s column p ≡ true
  enters-from s left column p h entering = grind (arith, nat_tests, h.instance, h.edge, h.place)

  -- an entry of an item has its cause there
  item-cause : (item : Item) (items : List Item) (left column at net : ℕ) → left + column ≡ at → 0 < net → column < item_width d item
      → get_or (item_entries d rows top channel item) column 0 ≡ net → EntryOf d rows top channel (item ∷ items) left at net
  item-cause (Cell s) items left column at net place some within is =
      let found : (p : Pin) × (find (enters_in d rows top channel s column) d.pins ≡ Some p) × (p.net ≡ net) =
      grind (arith, get_or-map-range_with_len (λ (c : ℕ). net_in (find (enters_in d rows top channel s c) d.pins)) 0 (columns_of d s.instance) column column 0 within (omega arith)) in
      let passes = find-passes (enters_in d rows top channel s column) d.pins found.0 found.1 in
      let parts = enters-parts s left column found.0 passes.1 passes.0 in
      record { cause = of_pin found.0; stands = first_over (rw (sym place) parts.0); entering = parts.1; of_net = found.2 }
  item-cause (Feed own) items left zero at net place some within is =
      record { cause = of_feed net; stands = first_over (is, omega arith); entering = tt; of_net = refl }
  item-cause (Feed own) items left (suc column) at net place some within is = absurd (omega arith)

  -- an entry along a row has its cause there
  pub row-cause : (items : List Item) (left column at net : ℕ) → left + column ≡ at → 0 < net
      → get_or (row_entries d rows top channel (Some items)) column 0 ≡ net → EntryOf d rows top channel items left at net
  row-cause [] left column at net place some is = absurd (omega arith)
  row-cause (item ∷ items) left column at net place some is =
      let width : length (item_entries d rows top channel item) ≡ item_width d item = item-length d rows top channel item in
      elim (cases_lt column (item_width d item)) [
        | inl here ↦ item-cause item items left column at net place some here
            (sym (get_or_append_left (item_entries d rows top channel item) (row_entries d rows top channel (Some items)) 0 column (omega arith)) ∙ is)
        | inr there ↦
            let e = row-cause items (left + item_width d item) (column - item_width d item) at net (omega arith) some
            (sym (get_or-append_right (item_entries d rows top channel item) (row_entries d rows top channel (Some items)) (item_width d item) column 0 width there) ∙ is) in
            record { cause = e.cause; stands = later_over e.stands; entering = e.entering; of_net = e.of_net }
      ]

  module _ (good : IsNetlist d) where
    -- a pin that enters in a column of its cell is the one whose net stands there
    pin-effect : (s : Seat) (left column : ℕ) (p : Pin) → IsPinOver d top p s left (left + column) → enters d rows p channel ≡ true
        → net_in (find (enters_in d rows top channel s column) d.pins) ≡ p.net
    pin-effect s left column p h entering =
        let found = find-some (enters_in d rows top channel s column) d.pins p h.listed (enters-from s left column p h entering) in
        let passes = find-passes (enters_in d rows top channel s column) d.pins found.0 found.1 in
        let same = over-once d good top (of_pin found.0) (of_pin p) (Cell s) left (left + column) (enters-parts s left column found.0 passes.1 passes.0).0 h in
        ap net_in found.1 ∙ ap source_net same

    -- a cause over an item that enters the channel leaves its net there
    item-effect : (cause : Source) (item : Item) (left at : ℕ) → IsOver d top cause item left at → SourceEnters d rows channel cause
        → HasNet (item_entries d rows top channel item) left at (source_net cause)
    item-effect (of_pin p) (Cell s) left at h entering =
        let column : ℕ = turned_column s.mirror (columns_of d s.instance) h.own in
        let within : column < columns_of d s.instance = turned-within s.mirror (columns_of d s.instance) h.own (own-turned d good top p s left at h) in
        record {
          column = column;
          place = h.place;
          within = omega (arith, item-length d rows top channel (Cell s));
          there = get_or-map-range_with_len (λ (c : ℕ). net_in (find (enters_in d rows top channel s c) d.pins)) 0 (columns_of d s.instance) column column 0 within (omega arith)
              ∙ pin-effect s left column p (rw h.place h) entering;
        }
    item-effect (of_pin p) (Feed own) left at h entering = absurd h
    item-effect (of_feed net) (Cell s) left at h entering = absurd h
    item-effect (of_feed net) (Feed own) left at h entering = record { column = 0; place = omega (arith, h.1); within = omega arith; there = h.0 }

    -- and so does one along a row
    pub row-effect : (cause : Source) (items : List Item) (left at : ℕ) → StandsOver d top cause items left at → SourceEnters d rows channel cause
        → HasNet (row_entries d rows top channel (Some items)) left at (source_net cause)
    row-effect cause items left at (first_over {item = item} {items = rest} h) entering =
        let e = item-effect cause item left at h entering in
        record {
          column = e.column;
          place = e.place;
          within = omega (arith, e.within, length-append (item_entries d rows top channel item) (row_entries d rows top channel (Some rest)));
          there = get_or_append_left (item_entries d rows top channel item) (row_entries d rows top channel (Some rest)) 0 e.column e.within ∙ e.there;
        }
    row-effect cause items left at (later_over {item = item} {items = rest} h) entering =
        let e = row-effect cause rest (left + item_width d item) at h entering in
        let width = item-length d rows top channel item in
        record {
          column = item_width d item + e.column;
          place = omega (arith, e.place);
          within = omega (arith, width, e.within, length-append (item_entries d rows top channel item) (row_entries d rows top channel (Some rest)));
          there = get_or-append_right (item_entries d rows top channel item) (row_entries d rows top channel (Some rest)) (item_width d item) (item_width d item + e.column) 0 width (omega arith)
              ∙ rw (let back : item_width d item + e.column - item_width d item ≡ e.column = omega arith in back) e.there;
        }
