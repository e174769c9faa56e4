use Rattle.std.specs.List.{range_with_len}
use Rattle.std.specs.List.Sorted.{IsNonDecreasingBy}
use Rattle.std.proofs.Common.{◌≡◌, ℕ, ◌+◌, ◌<◌, ◌≤◌, ◌==◌, ◌&&◌, get_or, zero, suc, List, [], ◌∷◌, ◌++◌, map, filter, length, Bool, Option, Some, slice_get, arith, refl, ap, ap₂, ◌∙◌, cond, sym, subst}
use Rattle.std.proofs.Math.Path.{fun_ext}
use Rattle.std.proofs.lemmas.List.FromFn.{length-map-range_with_len}
use Rattle.list_facts.specs.Lists.{list_there}
use Rattle.design_model.specs.Netlist.{Netlist}
use Rattle.design_model.proofs.DesignPins.{nets-few}
use Rattle.row_model.specs.Widths.{columns_of}
use Rattle.row_model.specs.declared.rows.Seat.{Seat}
use Rattle.row_model.specs.Rows.{ArePlaced}
use Rattle.feed_cells.specs.Crossings.{all_nets, is_in}
use Rattle.feed_cells.specs.Fed.{fed_row, items_from, Fed, IsFed, cells_in, fed_rows, nets_in}
use Rattle.feed_cells.specs.Feeds.{feed_place, is_fed, lefts_of}
use Rattle.feed_cells.specs.Placement.{net_place}
use Rattle.feed_cells.specs.RowFeeds.{is_at_place, laid, nets_fed}
use Rattle.feed_cells.specs.declared.fed.Item.{Item}
use Rattle.feed_cells.specs.declared.fed.Item.TheVariants.{Cell, Feed}
use Rattle.feed_cells.specs.declared.net_places.NetPlace.{NetPlace}
use Rattle.feed_cells.specs.Sizes.{count_in}
use Rattle.feed_cells.proofs.FedLaws.{lefts-long, cells-fed}
use Rattle.feed_cells.proofs.PlacementLaws.{at_net-image, fed-as}
use Rattle.std_laws.proofs.Counts.{length-filter-map}

-- the nets that cross a row by a feed, by where all nets stand, are those that are to
fed-nets : (d : Netlist) (rows : List (List Seat)) (row net n : ℕ) → nets_fed row net (map (net_place d rows) (range_with_len net n)) ≡ filter (is_fed d rows row) (range_with_len net n)
fed-nets d rows row net zero = refl
fed-nets d rows row net (suc n) = ap₂ (λ (b : Bool) (nets : List ℕ). cond b (net ∷ nets) nets) (fed-as d rows net row) (fed-nets d rows row (net + 1) n)

pub nets-fed : (d : Netlist) (rows : List (List Seat)) (row : ℕ) → nets_fed row 1 (map (net_place d rows) (all_nets d)) ≡ filter (is_fed d rows row) (all_nets d)
nets-fed d rows row = fed-nets d rows row 1 (length d.nets)

abbrev feeds_there : Option (List ℕ) → List Item
feeds_there o = map Feed (list_there o)

-- a table that has the feeds of each place lays a row as it is defined
laid-from : (d : Netlist) (rows : List (List Seat)) (row : ℕ) (all : List Seat) (table : List (List ℕ))
    → ((place : ℕ) → place ≤ length all
    → slice_get table place ≡ Some (filter (λ (net : ℕ). is_fed d rows row net && feed_place d rows all net == place) (all_nets d)))
    → (place : ℕ) (rest : List Seat) → place + length rest ≤ length all → laid table place rest ≡ items_from d rows row all place rest
laid-from d rows row all table has place [] within = ap feeds_there (has place (omega arith))
laid-from d rows row all table has place (s ∷ rest) within =
    ap₂ (λ (feeds behind : List Item). feeds ++ (Cell s ∷ behind)) (ap feeds_there (has place (omega arith)))
    (laid-from d rows row all table has (place + 1) rest (omega arith))

-- those that stand at a place among the nets that cross a row are the nets that cross it and stand there
placed-across : (d : Netlist) (rows : List (List Seat)) (row : ℕ) (seats : List Seat) (place net n : ℕ) → 0 < net → net + n ≤ length d.nets + 1
    → filter (is_at_place (map (net_place d rows) (all_nets d)) (lefts_of d 0 seats) place) (filter (is_fed d rows row) (range_with_len net n))
    ≡ filter (λ (m : ℕ). is_fed d rows row m && feed_place d rows seats m == place) (range_with_len net n)
placed-across d rows row seats place net zero some within = refl
placed-across d rows row seats place net (suc n) some within =
    grind (arith, placed-across d rows row seats place (net + 1) n (omega arith) (omega arith), at_net-image (net_place d rows) (length d.nets) net some (omega arith))

-- a row that is laid by tables is the row with its feeds
pub row-fed : (d : Netlist) (rows : List (List Seat)) (row : ℕ) (seats : List Seat) (across : List ℕ) (nets : List NetPlace) (lefts : List ℕ) (table : List (List ℕ))
    → nets ≡ map (net_place d rows) (all_nets d) → across ≡ filter (is_fed d rows row) (all_nets d) → lefts ≡ lefts_of d 0 seats
    → ((place : ℕ) → place ≤ length lefts → slice_get table place ≡ Some (filter (is_at_place nets lefts place) across))
    → laid table 0 seats ≡ fed_row d rows row seats
row-fed d rows row seats across nets lefts table nets_are across_are lefts_are has =
    let long : length lefts ≡ length seats = ap length lefts_are ∙ lefts-long d 0 seats in
    laid-from d rows row seats table
    (λ place within. has place (omega arith)
    ∙ ap (λ (ns : List NetPlace). Some (filter (is_at_place ns lefts place) across)) nets_are
    ∙ ap₂ (λ (ls acs : List ℕ). Some (filter (is_at_place (map (net_place d rows) (all_nets d)) ls place) acs)) lefts_are across_are
    ∙ ap (λ (ns : List ℕ). Some ns) (placed-across d rows row seats place 1 (length d.nets) (omega arith) (omega arith)))
    0 seats (omega arith)

-- the first columns of a row begin from its first on
lefts-above : (d : Netlist) (left : ℕ) (seats : List Seat) (j e : ℕ) → j < length (lefts_of d left seats) → left ≤ get_or (lefts_of d left seats) j e
lefts-above d left [] j e below = absurd (omega arith)
lefts-above d left (s ∷ seats) zero e below = omega arith
lefts-above d left (s ∷ seats) (suc j) e below = omega (arith, lefts-above d (left + columns_of d s.instance) seats j e (omega arith))

-- and do not fall
pub lefts-rise : (d : Netlist) (left : ℕ) (seats : List Seat) → IsNonDecreasingBy (λ (n : ℕ). n) (lefts_of d left seats)
lefts-rise d left [] i j e order below = absurd (omega arith)
lefts-rise d left (s ∷ seats) zero zero e order below = omega arith
lefts-rise d left (s ∷ seats) zero (suc j) e order below = lefts-above d left (s ∷ seats) (suc j) e below
lefts-rise d left (s ∷ seats) (suc i) zero e order below = absurd (omega arith)
lefts-rise d left (s ∷ seats) (suc i) (suc j) e order below = lefts-rise d (left + columns_of d s.instance) seats i j e (omega arith) (omega arith)

-- the nets of each channel are those that stand in it
pub counts-nets : (d : Netlist) (rows : List (List Seat)) (channels : List ℕ) → map (count_in (map (net_place d rows) (all_nets d))) channels ≡ map (λ (c : ℕ). length (nets_in d rows c)) channels
counts-nets d rows channels =
    ap (λ (f : ℕ → ℕ). map f channels) (fun_ext (λ channel. length-filter-map (net_place d rows) (λ (place : NetPlace). is_in place.crossing channel) (all_nets d)))

-- placed rows with their feeds are the rows with feeds of their cells
pub fed-from : (d : Netlist) (rows : List (List Seat)) (fed : Fed) → ArePlaced d rows → fed ≡ fed_rows d rows → IsFed d fed
fed-from d rows fed placed is =
    let cells : cells_in fed.rows ≡ rows = ap (λ (f : Fed). cells_in f.rows) is ∙ cells-fed d rows in
    record { placed = subst (ArePlaced d) (sym cells) placed; is = is ∙ ap (fed_rows d) (sym cells) }

pub ruleset fed_laws = (nets-few, length-map-range_with_len)

pub ruleset row_laws = (lefts-long, lefts-rise, row-fed)
