use Rattle.std.proofs.Common.{◌≡◌, ◌≤◌, ◌+◌, ◌++◌, ℕ, zero, suc, inl, inr, refl, sym, ap, ap₂, ◌∙◌, arith, List, [], ◌∷◌, eqb, ltb, ◌&&◌, Some, Contains, length, filter, map}
use Rattle.std.proofs.lemmas.Bool.{and_from, and_parts, cases_eq, eq-eqb}
use Rattle.std.proofs.lemmas.List.Elements.{Contains-append_cases, Contains-append_left, Contains-append_right, filter_map-append}
use Rattle.std.proofs.lemmas.List.Sums.{count_by-le-length}
use Rattle.std.proofs.lemmas.Option.{get_or_from_slice_get, slice_get_within}
use Rattle.std.specs.List.{slice_get}
use Rattle.std.specs.Option.{option_map}
use Rattle.design_model.specs.Netlist.{Netlist}
use Rattle.row_model.specs.Widths.{columns_of}
use Rattle.row_model.specs.declared.rows.Seat.{Seat}
use Rattle.feed_cells.specs.Crossings.{all_nets}
use Rattle.feed_cells.specs.Fed.{cells_in, fed_from, fed_row, fed_rows, feeds_at, items_from, items_width, seat_in, seats_in}
use Rattle.feed_cells.specs.Feeds.{feed_place, is_fed, lefts_of, middle_of}
use Rattle.feed_cells.proofs.Standing.{IsFeed, Stands, seated, feeding}
use Rattle.feed_cells.specs.declared.fed.Item.{Item}
use Rattle.feed_cells.specs.declared.fed.Item.TheVariants.{Cell, Feed}
use Rattle.std_laws.proofs.Greatest.{greatest-bound}
use Rattle.std_laws.proofs.Members.{contains-range, range-contains, filter-from, filter-member, map-cases, map-member, member-cases, member-head, member-tail}

-- the nets whose feeds stand in a row at a place
abbrev nets_at : Netlist → List (List Seat) → ℕ → List Seat → ℕ → List ℕ
nets_at d rows row seats place = filter (λ (net : ℕ). is_fed d rows row net && eqb (feed_place d rows seats net) place) (all_nets d)

-- feeds have no seats
feeds-seatless : (nets : List ℕ) → seats_in (map Feed nets) ≡ []
feeds-seatless [] = refl
feeds-seatless (n ∷ nets) = feeds-seatless nets

-- the seats of a row with its feeds
items-seats : (d : Netlist) (rows : List (List Seat)) (row : ℕ) (seats : List Seat) (place : ℕ) (rest : List Seat)
    → seats_in (items_from d rows row seats place rest) ≡ rest
items-seats d rows row seats place [] = feeds-seatless (nets_at d rows row seats place)
items-seats d rows row seats place (s ∷ rest) =
    filter_map-append seat_in (feeds_at d rows row seats place) (Cell s ∷ items_from d rows row seats (place + 1) rest)
    ∙ ap₂ (λ (front back : List Seat). front ++ (s ∷ back)) (feeds-seatless (nets_at d rows row seats place)) (items-seats d rows row seats (place + 1) rest)

from-cells : (d : Netlist) (rows : List (List Seat)) (row : ℕ) (rest : List (List Seat)) → cells_in (fed_from d rows row rest) ≡ rest
from-cells d rows row [] = refl
from-cells d rows row (seats ∷ rest) = grind (arith, items-seats d rows row seats 0 seats, from-cells d rows (row + 1) rest)

-- the cells of rows with their feeds are those rows
pub cells-fed : (d : Netlist) (rows : List (List Seat)) → cells_in (fed_rows d rows).rows ≡ rows
unfolding fed_rows
cells-fed d rows = from-cells d rows 0 rows

-- each row with its feeds is that of the row at its number
fed_from-at : (d : Netlist) (rows : List (List Seat)) (first : ℕ) (rest : List (List Seat)) (k row : ℕ) → row ≡ first + k
    → slice_get (fed_from d rows first rest) k ≡ option_map (fed_row d rows row) (slice_get rest k)
fed_from-at d rows first [] k row is = refl
fed_from-at d rows first (seats ∷ rest) zero row is = grind arith
fed_from-at d rows first (seats ∷ rest) (suc k) row is = fed_from-at d rows (first + 1) rest k row (omega arith)

pub fed-row : (d : Netlist) (rows : List (List Seat)) (row : ℕ) → slice_get (fed_rows d rows).rows row ≡ option_map (fed_row d rows row) (slice_get rows row)
unfolding fed_rows
fed-row d rows row = fed_from-at d rows 0 rows row row (omega arith)

pub fed-row-some : (d : Netlist) (rows : List (List Seat)) (row : ℕ) (items : List Item) → slice_get (fed_rows d rows).rows row ≡ Some items
    → (seats : List Seat) × (slice_get rows row ≡ Some seats) × (items ≡ fed_row d rows row seats)
fed-row-some d rows row items at = grind (arith, fed-row d rows row)

fed_from-long : (d : Netlist) (rows : List (List Seat)) (row : ℕ) (rest : List (List Seat)) → length (fed_from d rows row rest) ≡ length rest
fed_from-long d rows row [] = refl
fed_from-long d rows row (seats ∷ rest) = ap suc (fed_from-long d rows (row + 1) rest)

-- there are as many rows with feeds as rows
pub fed-long : (d : Netlist) (rows : List (List Seat)) → length (fed_rows d rows).rows ≡ length rows
unfolding fed_rows
fed-long d rows = fed_from-long d rows 0 rows

feed-stands : (d : Netlist) (rows : List (List Seat)) (row : ℕ) (seats rest : List Seat) (place : ℕ) (item : Item) → Contains (feeds_at d rows row seats place) item
    → Stands d rows row rest item
feed-stands d rows row seats rest place item member =
    let from = map-cases Feed (nets_at d rows row seats place) item member in
    let kept = filter-from _ (all_nets d) from.0 from.1 in
    let ranged = contains-range 1 (length d.nets) from.0 kept.0 in
    feeding from.0 (record { fed = (and_parts _ _ kept.1).0; some = ranged.0; few = omega (arith, ranged.1) }) (sym from.2)

items-stand : (d : Netlist) (rows : List (List Seat)) (row : ℕ) (seats : List Seat) (place : ℕ) (rest : List Seat) (item : Item)
    → Contains (items_from d rows row seats place rest) item → Stands d rows row rest item
items-stand d rows row seats place [] item member = feed-stands d rows row seats [] place item member
items-stand d rows row seats place (s ∷ rest) item member =
    elim (Contains-append_cases (feeds_at d rows row seats place) (Cell s ∷ items_from d rows row seats (place + 1) rest) item member) [
      | inl feed ↦ feed-stands d rows row seats (s ∷ rest) place item feed
      | inr other ↦ elim (member-cases (Cell s) (items_from d rows row seats (place + 1) rest) item other) [
        | inl same ↦ seated s (member-head s rest) (sym same)
        | inr later ↦ elim (items-stand d rows row seats (place + 1) rest item later) [
          | seated t listed is ↦ seated t (member-tail s rest t listed) is
          | feeding net feed is ↦ feeding net feed is
        ]
      ]
    ]

pub item-stands : (d : Netlist) (rows : List (List Seat)) (row : ℕ) (seats : List Seat) (item : Item) → Contains (fed_row d rows row seats) item
    → Stands d rows row seats item
item-stands d rows row seats item member = items-stand d rows row seats 0 seats item member

-- each seat of a row stands in the row with its feeds
items-seat : (d : Netlist) (rows : List (List Seat)) (row : ℕ) (seats : List Seat) (place : ℕ) (rest : List Seat) (s : Seat) → Contains rest s
    → Contains (items_from d rows row seats place rest) (Cell s)
items-seat d rows row seats place [] s member = absurd (omega (arith, member.1))
items-seat d rows row seats place (t ∷ rest) s member =
    Contains-append_right (feeds_at d rows row seats place) (Cell t ∷ items_from d rows row seats (place + 1) rest) (Cell s)
    (elim (member-cases t rest s member) [
      | inl same ↦ rw (sym same) (member-head (Cell t) (items_from d rows row seats (place + 1) rest))
      | inr later ↦ member-tail (Cell t) _ (Cell s) (items-seat d rows row seats (place + 1) rest s later)
    ])

pub seat-stands : (d : Netlist) (rows : List (List Seat)) (row : ℕ) (seats : List Seat) (s : Seat) → Contains seats s → Contains (fed_row d rows row seats) (Cell s)
seat-stands d rows row seats s member = items-seat d rows row seats 0 seats s member

-- and so does each feed, from its place on
feed-among : (d : Netlist) (rows : List (List Seat)) (row : ℕ) (seats : List Seat) (place net : ℕ) → IsFeed d rows row net → feed_place d rows seats net ≡ place
    → Contains (feeds_at d rows row seats place) (Feed net)
feed-among d rows row seats place net feed at =
    map-member Feed (nets_at d rows row seats place) net
    (filter-member _ (all_nets d) net (range-contains 1 (length d.nets) net feed.some (omega (arith, feed.few))) (and_from _ _ feed.fed (eq-eqb _ place at)))

items-feed : (d : Netlist) (rows : List (List Seat)) (row : ℕ) (seats : List Seat) (place : ℕ) (rest : List Seat) (net at : ℕ) → IsFeed d rows row net
    → feed_place d rows seats net ≡ at → place ≤ at → at ≤ place + length rest → Contains (items_from d rows row seats place rest) (Feed net)
items-feed d rows row seats place [] net at feed is from to = feed-among d rows row seats place net feed (is ∙ omega arith)
items-feed d rows row seats place (s ∷ rest) net at feed is from to =
    elim (cases_eq at place) [
      | inl here ↦ Contains-append_left (feeds_at d rows row seats place) _ (Feed net) (feed-among d rows row seats place net feed (is ∙ here))
      | inr later ↦
          Contains-append_right (feeds_at d rows row seats place) (Cell s ∷ items_from d rows row seats (place + 1) rest) (Feed net)
          (member-tail (Cell s) _ (Feed net) (items-feed d rows row seats (place + 1) rest net at feed is (omega arith) (omega arith)))
    ]

-- a row has as many first columns as seats
pub lefts-long : (d : Netlist) (left : ℕ) (seats : List Seat) → length (lefts_of d left seats) ≡ length seats
lefts-long d left [] = refl
lefts-long d left (s ∷ seats) = ap suc (lefts-long d (left + columns_of d s.instance) seats)

pub feed-there : (d : Netlist) (rows : List (List Seat)) (row : ℕ) (seats : List Seat) (net : ℕ) → IsFeed d rows row net → Contains (fed_row d rows row seats) (Feed net)
feed-there d rows row seats net feed =
    items-feed d rows row seats 0 seats net (feed_place d rows seats net) feed refl (omega arith)
    (omega (arith, count_by-le-length (λ (left : ℕ). ltb left (middle_of d rows net)) (lefts_of d 0 seats), lefts-long d 0 seats))

-- no row with its feeds is wider than the widest
pub fed-width : (d : Netlist) (rows : List (List Seat)) (row : ℕ) (items : List Item) → slice_get (fed_rows d rows).rows row ≡ Some items
    → items_width d items ≤ (fed_rows d rows).width
unfolding fed_rows
fed-width d rows row items at =
    greatest-bound (items_width d) 0 (fed_from d rows 0 rows) items
    (row, slice_get_within (fed_from d rows 0 rows) row items at, get_or_from_slice_get (fed_from d rows 0 rows) row items items at)
