use Rattle.std.proofs.Common.{◌≡◌, ◌≤◌, ◌==◌, ℕ, List, [], ◌∷◌, map, filter, fold, length, Bool, true, false, ◌&&◌, Option, None, Some, cond, slice_get, refl, ap, sym, ◌∙◌, arith, inl, inr}
use Rattle.std.proofs.lemmas.Bool.{cases_lt}
use Rattle.std.proofs.lemmas.Bool.Decides.{nat_tests}
use Rattle.std.proofs.Math.Path.{fun_ext}
use Rattle.std.proofs.lemmas.List.Elements.{recursion_from_All}
use Rattle.std.proofs.lemmas.Option.{slice_get_past}
use Rattle.std.specs.List.{AllByRecursion, find, flat_map, range_with_len}
use Rattle.std.specs.Option.{option_and_then}
use Rattle.list_facts.specs.Lists.{list_there}
use Rattle.channel_model.specs.Pins.{IsChannel}
use Rattle.design_model.specs.Netlist.{IsNetlist, Netlist}
use Rattle.design_model.specs.declared.design.Inst.{Inst}
use Rattle.design_model.specs.declared.design.Pin.{Pin}
use Rattle.row_model.specs.Stands.{edge_column}
use Rattle.row_model.specs.Widths.{columns_of, width_of}
use Rattle.row_model.specs.declared.rows.Seat.{Seat}
use Rattle.feed_cells.specs.Fed.{Fed, IsFed, cells_in}
use Rattle.feed_cells.specs.declared.fed.Item.{Item}
use Rattle.feed_cells.specs.declared.fed.Item.TheVariants.{Cell, Feed}
use Rattle.pin_assign.specs.Entering.{enters}
use Rattle.feed_cells.specs.Placement.{placed_pin}
use Rattle.feed_cells.specs.declared.placement.PlacedPin.{PlacedPin}
use Rattle.row_model.specs.PinPlaces.{pin_place_at}
use Rattle.pin_assign.specs.Tabled.{AreTabled, is_laid, laid, laid_entries, of_instance, tabled_entries}
use Rattle.pin_assign.specs.Tables.{cell_entries, enters_in, is_in_column, item_entries, net_in, padded, row_below, row_entries, table_of}
use Rattle.pin_assign.proofs.ChannelLaws.{table-channel}
use Rattle.std_laws.proofs.Every.{every-filtered}
use Rattle.std_laws.proofs.Members.{find-filter}
use Rattle.std_laws.proofs.Images.{filter-map}

-- an entry, or another where it is none
abbrev entry_or : ℕ → ℕ → ℕ
entry_or net other = cond (net == 0) other net

module _ (d : Netlist) (rows : List (List Seat)) (s : Seat) (top : Bool) (channel column : ℕ) where
  abbrev lay_on : ℕ → PlacedPin → ℕ
  lay_on net a = laid s.mirror (columns_of d s.instance) top channel column net a

  abbrev lies : Pin → Bool
  lies p = is_in_column (edge_column d top p) s.mirror (columns_of d s.instance) column && enters d rows p channel

  -- a pin is laid where it enters
  lays-same : (p : Pin) → is_laid s.mirror (columns_of d s.instance) top channel column (placed_pin d rows p) ≡ lies p
  unfolding placed_pin enters pin_place_at
  lays-same p = grind arith

  -- the entry of a pin, and those behind it
  lay-step : (net : ℕ) (is : Bool) (p : Pin) (more : Option Pin) → (p.net == 0) ≡ false
      → entry_or (cond (net == 0 && is) p.net net) (net_in more) ≡ entry_or net (net_in (cond is (Some p) more))
  lay-step net is p more some = grind (arith, nat_tests)

  -- pins, laid one by one, leave what a search for the first of a column finds
  laid-found : (net : ℕ) (ps : List Pin) → AllByRecursion (λ (p : Pin). (p.net == 0) ≡ false) ps
      → fold lay_on net (map (placed_pin d rows) ps) ≡ entry_or net (net_in (find lies ps))
  unfolding placed_pin pin_place_at
  laid-found net [] some = grind (arith, nat_tests)
  laid-found net (p ∷ ps) some =
      laid-found (lay_on net (placed_pin d rows p)) ps some.1 ∙ lay-step net _ p (find lies ps) some.0
      ∙ ap (λ (b : Bool). entry_or net (net_in (cond b (Some p) (find lies ps)))) (lays-same p)

  -- and those of a cell among all what the definition finds
  cell-found : (ps : List Pin) → AllByRecursion (λ (p : Pin). (p.net == 0) ≡ false) ps
      → fold lay_on 0 (of_instance s.instance (map (placed_pin d rows) ps)) ≡ net_in (find (enters_in d rows top channel s column) ps)
  unfolding placed_pin pin_place_at
  cell-found ps some =
      ap (fold lay_on 0) (filter-map (λ (a : PlacedPin). a.place.pin.instance == s.instance) (placed_pin d rows) ps)
      ∙ laid-found 0 (filter (λ (p : Pin). p.instance == s.instance) ps) (every-filtered (λ (p : Pin). (p.net == 0) ≡ false) (λ (p : Pin). p.instance == s.instance) ps some)
      ∙ ap net_in (find-filter lies (λ (p : Pin). p.instance == s.instance) ps)

-- the nets of pins are not 0
nets-some : (d : Netlist) → IsNetlist d → AllByRecursion (λ (p : Pin). (p.net == 0) ≡ false) d.pins
nets-some d good = recursion_from_All (λ (p : Pin). (p.net == 0) ≡ false) d.pins (λ k p within. grind (arith, nat_tests, good.nets k p within))

module _ (d : Netlist) (good : IsNetlist d) (rows : List (List Seat)) (table : List (List PlacedPin)) (tabled : AreTabled d rows table) (top : Bool) (channel : ℕ) where
  cell-pins : (s : Seat) (pins : List PlacedPin) → pins ≡ of_instance s.instance (map (placed_pin d rows) d.pins)
      → laid_entries s.mirror (columns_of d s.instance) top channel pins ≡ cell_entries d rows top channel s
  unfolding laid_entries
  cell-pins s pins is =
      ap (λ (f : ℕ → ℕ). map f (range_with_len 0 (columns_of d s.instance)))
      (fun_ext (λ n. ap (fold (laid s.mirror (columns_of d s.instance) top channel n) 0) is ∙ cell-found d rows s top channel n d.pins (nets-some d good)))

  -- there is no cell without an instance
  no-columns : (instance : ℕ) → length d.instances ≤ instance → columns_of d instance ≡ 0
  no-columns instance past =
      ap (λ (o : Option Inst). width_of (option_and_then (λ (i : Inst). slice_get d.kinds i.kind) o)) (slice_get_past d.instances instance past)

  cell-same : (s : Seat) → laid_entries s.mirror (columns_of d s.instance) top channel (list_there (slice_get table s.instance)) ≡ cell_entries d rows top channel s
  unfolding laid_entries
  cell-same s =
      elim (cases_lt s.instance (length d.instances)) [
        | inl within ↦ cell-pins s (list_there (slice_get table s.instance)) (ap list_there (tabled.each s.instance within))
        | inr past ↦ rw (no-columns s.instance past) refl
      ]

  -- the entries of a row by a table are those of the definition
  item-same : (item : Item) → tabled_entries d table top channel item ≡ item_entries d rows top channel item
  unfolding tabled_entries
  item-same (Cell s) = cell-same s
  item-same (Feed net) = refl

  pub row-same : (row : Option (List Item)) → flat_map (tabled_entries d table top channel) (list_there row) ≡ row_entries d rows top channel row
  row-same None = refl
  row-same (Some items) = ap (λ (f : Item → List ℕ). flat_map f items) (fun_ext item-same)

-- the lists of a channel by a table are those of its table
pub table-made : (d : Netlist) → IsNetlist d → (fed : Fed) (table : List (List PlacedPin)) → AreTabled d (cells_in fed.rows) table → (channel : ℕ) (top bottom : List ℕ)
    → top ≡ padded fed.width (flat_map (tabled_entries d table false channel) (list_there (slice_get fed.rows channel)))
    → bottom ≡ padded fed.width (flat_map (tabled_entries d table true channel) (list_there (row_below fed.rows channel)))
    → record { top = top; bottom = bottom } ≡ table_of d fed channel
unfolding table_of
table-made d good fed table tabled channel top bottom top_is bottom_is =
    rw (
      top_is,
      bottom_is,
      row-same d good (cells_in fed.rows) table tabled false channel (slice_get fed.rows channel),
      row-same d good (cells_in fed.rows) table tabled true channel (row_below fed.rows channel),
    ) refl

-- and make a channel
pub channel-made : (d : Netlist) → IsNetlist d → (fed : Fed) → IsFed d fed → fed.width ≤ 4000000 → (table : List (List PlacedPin)) → AreTabled d (cells_in fed.rows) table
    → (channel : ℕ) (top bottom : List ℕ)
    → top ≡ padded fed.width (flat_map (tabled_entries d table false channel) (list_there (slice_get fed.rows channel)))
    → bottom ≡ padded fed.width (flat_map (tabled_entries d table true channel) (list_there (row_below fed.rows channel)))
    → IsChannel (record { top = top; bottom = bottom })
channel-made d good fed fed_is few table tabled channel top bottom top_is bottom_is =
    rw (table-made d good fed table tabled channel top bottom top_is bottom_is ∙ ap (λ (f : Fed). table_of d f channel) fed_is.is)
    (table-channel d good (cells_in fed.rows) fed_is.placed channel (rw (sym fed_is.is) few))

pub ruleset made_laws = table-made
