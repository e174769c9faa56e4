use Rattle.std.specs.List.{range_with_len, AllByRecursion, find}
use Rattle.std.proofs.Common.{◌≡◌, ℕ, zero, suc, ◌+◌, ◌<◌, ◌≤◌, map, Some, ap, ◌∙◌, arith, List, [], ◌∷◌, fold, min, max, true, refl, ◌-◌, ◌==◌, ◌&&◌, filter, length, Bool, not, Option, is_some, slice_get, ap₂}
use Rattle.std.proofs.lemmas.Bool.Decides.{nat_tests}
use Rattle.std.proofs.Math.Path.{fun_ext}
use Rattle.std.proofs.lemmas.List.Elements.{recursion_from_All}
use Rattle.design_model.proofs.DesignPins.{nets-few}
use Rattle.design_model.specs.Netlist.{Netlist, IsNetlist}
use Rattle.design_model.specs.declared.design.Pin.{Pin}
use Rattle.row_model.specs.PinPlaces.{pin_column, pin_place, pin_place_at}
use Rattle.row_model.specs.Stands.{column_of, row_of}
use Rattle.row_model.specs.declared.rows.Seat.{Seat}
use Rattle.row_model.specs.declared.places.PinPlace.{PinPlace}
use Rattle.feed_cells.specs.NetTables.{at_net}
use Rattle.feed_cells.specs.Crossings.{crossing_of, crossing_of_pins, highest, lowest, pins_of, all_nets, crossed_rows, is_across}
use Rattle.feed_cells.specs.Feeds.{middle_of, middle_of_pins, is_fed, is_pin, passes, through_pin}
use Rattle.feed_cells.specs.Spans.{crossing_in, joined, middle_in, span_of}
use Rattle.feed_cells.specs.Channels.{first_channel}
use Rattle.feed_cells.specs.Placement.{first_through, net_place, net_place_in, nets_among, of_net, placed_by, placed_pin, placed_with, through_at}
use Rattle.feed_cells.specs.RowFeeds.{is_fed_by}
use Rattle.feed_cells.specs.declared.crossing.Crossing.{Crossing}
use Rattle.feed_cells.specs.declared.crossing.Crossing.TheVariants.{Alone, One, Many}
use Rattle.feed_cells.specs.declared.net_places.NetPlace.{NetPlace}
use Rattle.feed_cells.specs.declared.placement.PlacedPin.{PlacedPin}
use Rattle.std_laws.proofs.Ranges.{image-at, range-bounds, image-more}
use Rattle.std_laws.proofs.Images.{filter-map, map-map, map-same}
use Rattle.std_laws.proofs.Every.{every-weaker}

-- what a list of the images of nets has for a net
pub at_net-image : {A : Type 0} (f : ℕ → A) (count net : ℕ) → 0 < net → net ≤ count → at_net (map f (range_with_len 1 count)) net ≡ Some (f net)
at_net-image f count zero some few = absurd (omega arith)
at_net-image f count (suc n) some few =
    image-at f 1 count n (omega arith) ∙ ap (λ (m : ℕ). Some (f m)) (let same : 1 + n ≡ suc n = omega arith in same)

pub ruleset range_laws = image-more

module _ (d : Netlist) (rows : List (List Seat)) where
  -- two pins and more reach as far as the greatest and the least of their numbers
  span-many : (floor ceiling left right : ℕ) (ps : List Pin)
      → fold joined (Some (record { many = true; floor = floor; ceiling = ceiling; left = left; right = right })) (map (pin_place d rows) ps)
      ≡ Some (record {
        many = true;
        floor = fold max floor (map (lowest d rows) ps);
        ceiling = fold min ceiling (map (highest d rows) ps);
        left = fold min left (map (column_of d rows) ps);
        right = fold max right (map (column_of d rows) ps);
      })
  unfolding pin_place_at pin_column column_of
  span-many floor ceiling left right [] = refl
  span-many floor ceiling left right (p ∷ ps) =
      span-many (max floor (lowest d rows p)) (min ceiling (highest d rows p)) (min left (column_of d rows p)) (max right (column_of d rows p)) ps

  spans : (ps : List Pin) → (crossing_in (span_of (map (pin_place d rows) ps)) ≡ crossing_of_pins d rows ps) × (middle_in (span_of (map (pin_place d rows) ps)) ≡ middle_of_pins d rows ps)
  unfolding pin_place_at pin_column column_of
  spans [] = (refl, refl)
  spans (p ∷ []) = (refl, refl)
  spans (p ∷ q ∷ ps) = (ap crossing_in (span-many _ _ _ _ ps), ap middle_in (span-many _ _ _ _ ps))

-- how far a net's pins reach gives its crossing
pub span-crossing : (d : Netlist) (rows : List (List Seat)) (net : ℕ) → crossing_in (span_of (map (pin_place d rows) (pins_of d net))) ≡ crossing_of d rows net
unfolding crossing_of
span-crossing d rows net = (spans d rows (pins_of d net)).0

-- and its middle
pub span-middle : (d : Netlist) (rows : List (List Seat)) (net : ℕ) → middle_in (span_of (map (pin_place d rows) (pins_of d net))) ≡ middle_of d rows net
unfolding middle_of
span-middle d rows net = (spans d rows (pins_of d net)).1

pub ruleset span_laws = (span-crossing, span-middle)

-- a net crosses each of the rows that it crosses
rows-across : (c : Crossing) → AllByRecursion (λ (row : ℕ). is_across c row ≡ true) (crossed_rows c)
rows-across Alone = tt
rows-across (One b) = tt
rows-across (Many lo hi) =
    every-weaker (λ (row : ℕ). (lo ≤ row) × (row < lo + (hi - lo))) (λ (row : ℕ). is_across (Many lo hi) row ≡ true) (λ row h. grind (arith, nat_tests)) (crossed_rows (Many lo hi))
    (range-bounds lo (hi - lo))

-- what a list of the images of these rows has for one of them
crossed-at : {A : Type 0} (f : ℕ → A) (c : Crossing) (row : ℕ) → is_across c row ≡ true → slice_get (map f (crossed_rows c)) (row - first_channel c) ≡ Some (f row)
crossed-at f c row across = grind (arith, nat_tests, image-at)

module _ (d : Netlist) (rows : List (List Seat)) where
  -- the first of a net's pins that passes a row
  first-passes : (net row : ℕ) (ps : List Pin) → first_through (map (pin_place d rows) (filter (λ (p : Pin). p.net == net) ps)) row ≡ find (passes d rows net row) ps
  unfolding pin_place_at
  first-passes net row [] = refl
  first-passes net row (p ∷ ps) = grind (arith, first-passes net row ps)

  through-passes : (net row : ℕ) → is_across (crossing_of d rows net) row ≡ true → first_through (map (pin_place d rows) (pins_of d net)) row ≡ through_pin d rows net row
  through-passes net row across = grind (arith, first-passes net row d.pins)

  abbrev net_with : Crossing → ℕ → List (Option Pin) → NetPlace
  net_with c m t = record { crossing = c; middle = m; through = t }

  -- a net by where its pins stand is as it is to be
  net-placed : (net : ℕ) → net_place_in (map (pin_place d rows) (pins_of d net)) ≡ net_place d rows net
  net-placed net =
      ap₂ (λ (c : Crossing) (m : ℕ). net_with c m (map (first_through (map (pin_place d rows) (pins_of d net))) (crossed_rows c))) (span-crossing d rows net) (span-middle d rows net)
      ∙ ap (net_with (crossing_of d rows net) (middle_of d rows net))
      (map-same (λ (row : ℕ). is_across (crossing_of d rows net) row ≡ true) (first_through (map (pin_place d rows) (pins_of d net))) (through_pin d rows net)
      (through-passes net) (crossed_rows (crossing_of d rows net)) (rows-across (crossing_of d rows net)))

  of-net-places : (net : ℕ) (ps : List Pin) → of_net net (map (pin_place d rows) ps) ≡ map (pin_place d rows) (filter (λ (p : Pin). p.net == net) ps)
  unfolding pin_place_at
  of-net-places net ps = filter-map (λ (e : PinPlace). e.pin.net == net) (pin_place d rows) ps

  pub nets-placed : nets_among (map (pin_place d rows) d.pins) (length d.nets) ≡ map (net_place d rows) (all_nets d)
  nets-placed = ap (λ (f : ℕ → NetPlace). map f (all_nets d)) (fun_ext (λ n. ap net_place_in (of-net-places n d.pins) ∙ net-placed n))

  -- the through pin of a net in a row, by where the net stands
  pub through-at : (net row : ℕ) → through_at (net_place d rows net) row ≡ through_pin d rows net row
  through-at net row = grind (arith, crossed-at (through_pin d rows net) (crossing_of d rows net) row)

  -- and whether it crosses the row by a feed
  pub fed-as : (net row : ℕ) → is_fed_by (net_place d rows net) row ≡ is_fed d rows row net
  fed-as net row = ap (λ (o : Option Pin). is_across (crossing_of d rows net) row && not (is_some o)) (through-at net row)

  -- a pin by where its net stands is placed as it is to be
  pin-placed : (p : Pin) → (0 < p.net) × (p.net ≤ length d.nets) → placed_by (map (net_place d rows) (all_nets d)) (pin_place d rows p) ≡ placed_pin d rows p
  unfolding placed_pin pin_place_at
  pin-placed p within =
      ap (λ (o : Option NetPlace). placed_with o (pin_place d rows p)) (at_net-image (net_place d rows) (length d.nets) p.net within.0 within.1)
      ∙ ap (λ (o : Option Pin). pin_with (is_pin p o)) (through-at p.net (row_of d rows p.instance))
    where
      pin_with : Bool → PlacedPin
      pin_with b = record { place = pin_place d rows p; crossing = crossing_of d rows p.net; through = b }

  pub pins-placed : IsNetlist d → map (placed_by (map (net_place d rows) (all_nets d))) (map (pin_place d rows) d.pins) ≡ map (placed_pin d rows) d.pins
  pins-placed good =
      map-map (pin_place d rows) (placed_by (map (net_place d rows) (all_nets d))) d.pins
      ∙ map-same (λ (p : Pin). (0 < p.net) × (p.net ≤ length d.nets)) (λ (p : Pin). placed_by (map (net_place d rows) (all_nets d)) (pin_place d rows p)) (placed_pin d rows)
      pin-placed d.pins (recursion_from_All (λ (p : Pin). (0 < p.net) × (p.net ≤ length d.nets)) d.pins good.nets)

pub ruleset placed_laws = (nets-placed, pins-placed, nets-few)
