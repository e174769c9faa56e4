use Rattle.std.proofs.Common.{◌≡◌, ◌<◌, ◌≤◌, ℕ, zero, suc, ◌+◌, ◌-◌, ◌*◌, ◌/◌, ◌^◌, List, [], ◌∷◌, ◌++◌, length, map, sum, Bool, true, false, cond, Option, None, Some, refl, ap, ap₂, sym, ◌∙◌, arith, length-append}
use Rattle.std.proofs.Math.Nat.{mul-le-mul_left}
use Rattle.std.proofs.lemmas.Bool.Decides.{nat_tests}
use Rattle.std.proofs.lemmas.List.FromFn.{length-range_with_len}
use Rattle.std.proofs.lemmas.List.Sums.{sum_by-cons}
use Rattle.std.proofs.lemmas.List.{length-map}
use Rattle.std.proofs.lemmas.Option.{same_Some}
use Rattle.std.specs.List.{filter, find, range_with_len, AllByRecursion}
use Rattle.std.specs.Option.{option_map}
use Rattle.std.specs.Prelude.{nat_eq}
use Rattle.design_model.specs.Netlist.{IsNetlist, IsPosition, Netlist}
use Rattle.design_model.specs.declared.design.CellKind.{CellKind}
use Rattle.design_model.specs.declared.design.Pin.{Pin}
use Rattle.design_model.specs.declared.design.Position.{Position}
use Rattle.row_board.specs.Cost.{cost_of, difference, net_cost, pins_of_net, spread, target_of, unevenness}
use Rattle.row_model.specs.Rows.{all_instances, ArePlaced, instances_in}
use Rattle.row_model.specs.Stands.{column_at, column_in, column_of, first_column, positions_in, row_in, row_of, stand_of, turned_column}
use Rattle.row_board.specs.Weights.{AreFew, Weighing}
use Rattle.row_model.specs.Widths.{all_columns, columns_of, kind_of, row_width}
use Rattle.row_model.specs.declared.rows.Seat.{Seat}
use Rattle.row_model.specs.Stand.{Stand}
use Rattle.row_board.proofs.CostLaws.{net-pins-within}
use Rattle.row_model.proofs.PlacedLaws.{placed-distinct, placed-length}
use Rattle.row_board.proofs.PlaceLaws.{row-short, width-few}
use Rattle.row_model.proofs.SeatLaws.{seat-stands}
use Rattle.row_model.proofs.StandLaws.{stand-is, stand-there}
use Rattle.row_model.proofs.WidthLaws.{columns-few, kind-good}
use Rattle.std_laws.proofs.Every.{every-from-get, every-map, every-weaker}
use Rattle.std_laws.proofs.Members.{all-get, contains-get, find-passes}
use Rattle.std_laws.proofs.Sums.{sum-small, sum-none, sum-both, sum-few}
use Rattle.std_laws.proofs.Greatest.{greatest-few}

spread-few : (most : ℕ) (ns : List ℕ) → AllByRecursion (λ (n : ℕ). n ≤ most) ns → 2 * spread ns ≤ most * length ns
spread-few most [] all = omega arith
spread-few most (n ∷ []) all = omega arith
spread-few most (n ∷ (m ∷ ns)) all =
    let top = greatest-few most n (m ∷ ns) all.0 all.1 in
    let two : most * 2 ≤ most * length (n ∷ (m ∷ ns)) = mul-le-mul_left most (omega arith) in
    omega (arith, top, two)

-- the column of a terminal in its cell is at most 100,000,000
first-few : (d : Netlist) → IsNetlist d → (p : Pin) (c : ℕ) → first_column d p ≡ Some c → c ≤ 100000000
first-few d good p c is = by (kind_of d p.instance) refl is
  where
    found : (k : CellKind) → kind_of d p.instance ≡ Some k → (o : Option Position) → find (λ (a : Position). nat_eq a.terminal p.terminal) k.positions ≡ o
        → option_map (λ (a : Position). a.column) o ≡ Some c → c ≤ 100000000
    found k kind None at is = cc
    found k kind (Some a) at is =
        let has = find-passes (λ (a : Position). nat_eq a.terminal p.terminal) k.positions a at in
        let own = kind-good d good p.instance k kind in
        let within = all-get (IsPosition k) k.positions has.1.0 a own.positions (contains-get k.positions a has.1) in
        let same : a.column ≡ c = same_Some a.column c is in
        omega (arith, within.column, own.few, same)

    by : (o : Option CellKind) → kind_of d p.instance ≡ o → column_in (find (λ (a : Position). nat_eq a.terminal p.terminal) (positions_in o)) ≡ Some c → c ≤ 100000000
    by None kind is = cc
    by (Some k) kind is = found k kind (find (λ (a : Position). nat_eq a.terminal p.terminal) k.positions) refl is

turned-few : (m : Bool) (columns c : ℕ) → columns ≤ 100000000 → c ≤ 100000000 → turned_column m columns c ≤ 100000000
turned-few true columns c wide few = omega arith
turned-few false columns c wide few = few

-- a pin's column is at most 2,000,100,000,000, and its row at most 513
left-few : (d : Netlist) (rows : List (List Seat)) → IsNetlist d → ArePlaced d rows → (i : ℕ) (s : Stand) → stand_of d rows i ≡ Some s → s.left ≤ 2000000000000
left-few d rows good placed i s there =
    let is = stand-is d rows i s there in
    let here = seat-stands d rows (placed-distinct d rows placed) s.row is.front is.back is.seat is.at in
    let same : record { row = s.row; left = row_width d is.front; mirror = is.seat.mirror } ≡ s = same_Some _ s (sym here ∙ ap (stand_of d rows) is.own ∙ there) in
    let short = row-short d rows good placed s.row (is.front ++ is.seat ∷ is.back) is.at in
    omega (arith, ap (λ (a : Stand). a.left) same, width-few d good is.front, short, length-append is.front (is.seat ∷ is.back))

column-few : (d : Netlist) (rows : List (List Seat)) → IsNetlist d → ArePlaced d rows → (p : Pin) → p.instance < length d.instances → column_of d rows p ≤ 2000100000000
unfolding column_of
column-few d rows good placed p within = by (stand_of d rows p.instance) refl (first_column d p) refl
  where
    by : (o : Option Stand) → stand_of d rows p.instance ≡ o → (f : Option ℕ) → first_column d p ≡ f → column_at o (columns_of d p.instance) f ≤ 2000100000000
    by None none f first = omega arith
    by (Some s) there None first = omega (arith, left-few d rows good placed p.instance s there)
    by (Some s) there (Some c) first =
        omega (arith, left-few d rows good placed p.instance s there, turned-few s.mirror (columns_of d p.instance) c (columns-few d good p.instance) (first-few d good p c first))

row-few : (d : Netlist) (rows : List (List Seat)) → ArePlaced d rows → (p : Pin) → p.instance < length d.instances → row_of d rows p.instance ≤ 513
row-few d rows placed p within =
    let there = stand-there d rows p.instance placed within in
    omega (arith, ap row_in there.1, there.2, placed.few)

-- twice what a net costs
net-few : (d : Netlist) (rows : List (List Seat)) (w : Weighing) → IsNetlist d → ArePlaced d rows → AreFew w → (net : ℕ) → 2 * net_cost d rows w net ≤ 2000100513000 * length (pins_of_net d net)
unfolding net_cost
net-few d rows w good placed few net =
    let columns = spread-few 2000100000000 (map (column_of d rows) (pins_of_net d net))
    (every-map (λ (n : ℕ). n ≤ 2000100000000) (column_of d rows) (pins_of_net d net)
    (every-weaker (λ (p : Pin). p.instance < length d.instances) (λ (p : Pin). column_of d rows p ≤ 2000100000000) (column-few d rows good placed) (pins_of_net d net) (net-pins-within d good net))) in
    let lines = spread-few 513 (map (λ (p : Pin). row_of d rows p.instance) (pins_of_net d net))
    (every-map (λ (n : ℕ). n ≤ 513) (λ (p : Pin). row_of d rows p.instance) (pins_of_net d net)
    (every-weaker (λ (p : Pin). p.instance < length d.instances) (λ (p : Pin). row_of d rows p.instance ≤ 513) (row-few d rows placed) (pins_of_net d net) (net-pins-within d good net))) in
    let weighed = mul-le-mul_left (spread (map (λ (p : Pin). row_of d rows p.instance) (pins_of_net d net))) few.row_cost in
    omega (arith, columns, lines, weighed, length-map (pins_of_net d net) (column_of d rows), length-map (pins_of_net d net) (λ (p : Pin). row_of d rows p.instance))

once : (k a n : ℕ) → sum (map (λ (m : ℕ). cond (nat_eq k m) 1 0) (range_with_len a n)) ≤ 1
once k a zero = omega arith
once k a (suc n) = by (once k (a + 1) n) (nat_eq k a) refl
  where
    off : (m : ℕ) → k ≡ a → a + 1 ≤ m → cond (nat_eq k m) (suc zero) 0 ≡ zero
    off m same low = let test : nat_eq k m ≡ false = grind (arith, nat_tests) in ap (λ (b : Bool). cond b (suc zero) 0) test

    by : sum (map (λ (m : ℕ). cond (nat_eq k m) 1 0) (range_with_len (a + 1) n)) ≤ 1 → (b : Bool) → nat_eq k a ≡ b
        → sum (map (λ (m : ℕ). cond (nat_eq k m) 1 0) (range_with_len a (suc n))) ≤ 1
    by rest true test =
        let same : k ≡ a = grind (arith, nat_tests) in
        let gone = sum-none (λ (m : ℕ). cond (nat_eq k m) 1 0) (a + 1) n (λ m low. off m same low) in
        let one : cond (nat_eq k a) (suc zero) 0 ≡ suc zero = ap (λ (b : Bool). cond b (suc zero) 0) test in
        omega (arith, gone, one, sum_by-cons (λ (n : ℕ). n) (cond (nat_eq k a) 1 0) (map (λ (m : ℕ). cond (nat_eq k m) 1 0) (range_with_len (a + 1) n)))
    by rest false test =
        let none : cond (nat_eq k a) (suc zero) 0 ≡ zero = ap (λ (b : Bool). cond b (suc zero) 0) test in
        omega (arith, rest, none, sum_by-cons (λ (n : ℕ). n) (cond (nat_eq k a) 1 0) (map (λ (m : ℕ). cond (nat_eq k m) 1 0) (range_with_len (a + 1) n)))

shares : (ps : List Pin) (a n : ℕ) → sum (map (λ (net : ℕ). length (filter (λ (p : Pin). nat_eq p.net net) ps)) (range_with_len a n)) ≤ length ps
shares [] a n = omega (arith, sum-none (λ (net : ℕ). 0) a n (λ k low. refl))
shares (p ∷ ps) a n =
    let rest = shares ps a n in
    let split = ap sum (each (range_with_len a n)) ∙ sum-both (λ (net : ℕ). cond (nat_eq p.net net) 1 0) (λ (net : ℕ). length (filter (λ (p : Pin). nat_eq p.net net) ps)) (range_with_len a n) in
    omega (arith, rest, split, once p.net a n)
  where
    one : (net : ℕ) → length (filter (λ (p : Pin). nat_eq p.net net) (p ∷ ps)) ≡ cond (nat_eq p.net net) 1 0 + length (filter (λ (p : Pin). nat_eq p.net net) ps)
    one net = by (nat_eq p.net net)
      where
        by : (b : Bool) → length (cond b (p ∷ filter (λ (p : Pin). nat_eq p.net net) ps) (filter (λ (p : Pin). nat_eq p.net net) ps)) ≡ cond b 1 0 + length (filter (λ (p : Pin). nat_eq p.net net) ps)
        by true = omega arith
        by false = omega arith

    each : (ns : List ℕ) → map (λ (net : ℕ). length (filter (λ (p : Pin). nat_eq p.net net) (p ∷ ps))) ns
        ≡ map (λ (net : ℕ). cond (nat_eq p.net net) 1 0 + length (filter (λ (p : Pin). nat_eq p.net net) ps)) ns
    each [] = refl
    each (n ∷ ns) = ap₂ (λ (x : ℕ) (xs : List ℕ). x ∷ xs) (one n) (each ns)

nets-few : (d : Netlist) (rows : List (List Seat)) (w : Weighing) → IsNetlist d → ArePlaced d rows → AreFew w
    → sum (map (net_cost d rows w) (range_with_len 1 (length d.nets))) ≤ 200010051300000000
nets-few d rows w good placed few =
    let all = sum-few (net_cost d rows w) (λ (net : ℕ). length (pins_of_net d net)) 2000100513000 (range_with_len 1 (length d.nets)) (net-few d rows w good placed few) in
    omega (arith, all, shares d.pins 1 (length d.nets), good.few_pins)

-- how much all rows miss the target
widths-sum : (d : Netlist) → IsNetlist d → (rows : List (List Seat)) → sum (map (row_width d) rows) ≤ 100000000 * length (all_instances rows)
widths-sum d good [] = omega arith
widths-sum d good (seats ∷ rows) =
    omega (
      arith,
      widths-sum d good rows,
      width-few d good seats,
      length-append (instances_in seats) (all_instances rows),
      length-map seats (λ (s : Seat). s.instance),
      sum_by-cons (λ (n : ℕ). n) (row_width d seats) (map (row_width d) rows),
    )

misses-few : (d : Netlist) (target : ℕ) (rows : List (List Seat)) → sum (map (λ (seats : List Seat). difference (row_width d seats) target) rows) ≤ sum (map (row_width d) rows) + target * length rows
misses-few d target [] = omega arith
misses-few d target (seats ∷ rows) =
    omega (
      arith,
      misses-few d target rows,
      sum_by-cons (λ (n : ℕ). n) (row_width d seats) (map (row_width d) rows),
      sum_by-cons (λ (n : ℕ). n) (difference (row_width d seats) target) (map (λ (seats : List Seat). difference (row_width d seats) target) rows),
    )

all-few : (d : Netlist) → IsNetlist d → all_columns d ≤ 100000000 * length d.instances
unfolding all_columns
all-few d good =
    omega (
      arith,
      sum-small 100000000 (map (columns_of d) (range_with_len 0 (length d.instances)))
          (every-map (λ (n : ℕ). n ≤ 100000000) (columns_of d) (range_with_len 0 (length d.instances))
          (every-from-get (λ (n : ℕ). columns_of d n ≤ 100000000) (range_with_len 0 (length d.instances)) (λ k n at. columns-few d good n))),
      length-map (range_with_len 0 (length d.instances)) (columns_of d),
      length-range_with_len 0 (length d.instances),
    )

target-few : (all rows : ℕ) → 0 < rows → (all + (rows - 1)) / rows * rows ≤ all + rows
target-few all rows some = omega arith

uneven-few : (d : Netlist) (rows : List (List Seat)) → IsNetlist d → ArePlaced d rows → unevenness d rows ≤ 4000000000514
uneven-few d rows good placed =
    omega (
      arith,
      misses-few d (target_of d (length rows)) rows,
      widths-sum d good rows,
      placed-length d rows placed,
      good.few_instances,
      all-few d good,
      target-few (all_columns d) (length rows) placed.some,
      placed.few,
    )

-- what placed rows cost
pub cost-few : (d : Netlist) (rows : List (List Seat)) (w : Weighing) → IsNetlist d → ArePlaced d rows → AreFew w → cost_of d rows w < 2 ^ 58
unfolding cost_of
cost-few d rows w good placed few =
    let nets = nets-few d rows w good placed few in
    let uneven = uneven-few d rows good placed in
    let weighed = mul-le-mul_left (unevenness d rows) few.length_cost in
    omega (arith, nets, uneven, weighed)
