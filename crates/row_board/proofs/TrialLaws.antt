use Rattle.std.proofs.Common.{◌≡◌, ◌<◌, ◌≤◌, ℕ, ◌+◌, ◌-◌, ◌*◌, List, [], ◌∷◌, length, map, sum, Bool, true, false, cond, Option, None, Some, refl, ap, ap₂, sym, ◌∙◌, arith}
use Rattle.std.proofs.lemmas.Bool.Decides.{nat_tests}
use Rattle.std.proofs.lemmas.List.Elements.{recursion_from_All}
use Rattle.std.specs.List.{range_with_len}
use Rattle.std.specs.Prelude.{nat_eq, nat_lt}
use Rattle.design_model.specs.Netlist.{IsNetlist, Netlist}
use Rattle.design_model.specs.declared.design.Pin.{Pin}
use Rattle.row_model.specs.Changes.{swapped}
use Rattle.row_board.specs.Cost.{difference, net_cost, pins_of_net, spread}
use Rattle.row_board.specs.Extreme.{across, alone_at_end, at_end, extreme_of}
use Rattle.row_board.specs.NetCosts.{table_costs}
use Rattle.row_board.specs.NetPins.{cost_by, measured, net_pin, offset_of, pin_column, pin_row, pin_with_net}
use Rattle.row_board.specs.Standings.{standing_in, standing_of, traded}
use Rattle.row_model.specs.Stands.{column_at, column_of, first_column, row_in, row_of}
use Rattle.row_board.specs.Trial.{ends_net, ends_net_alone, instances_instead, longer_pins, marked_in, net_columns, shifted_from, shifted_seats, shorter_pins}
use Rattle.row_board.specs.Weights.{Weighing}
use Rattle.row_model.specs.Widths.{columns_of}
use Rattle.row_board.specs.Spot.{Spot}
use Rattle.row_model.specs.Stand.{Stand}
use Rattle.row_model.specs.declared.rows.Seat.{Seat}
use Rattle.row_board.specs.declared.extreme.Side.TheVariants.{Low, High}
use Rattle.row_board.specs.declared.net_pins.NetPin.{NetPin}
use Rattle.row_board.proofs.CostLaws.{net-pins-within}
use Rattle.row_board.proofs.EdgeLaws.{spread-shifted}
use Rattle.row_board.proofs.HitLaws.{hits}
use Rattle.row_board.proofs.NearLaws.{left_by, right_by, shifted, IsShifted, IsTrial}
use Rattle.row_board.proofs.ShareLaws.{marked-hits, marked_hits, shares-by}
use Rattle.std_laws.proofs.Every.{every-passes, every-weaker}
use Rattle.std_laws.proofs.Images.{map-map, map-same}
use Rattle.std_laws.proofs.Ranges.{range-bounds}
use Rattle.std_laws.proofs.Sums.{sum-both, sum-cons, sum-under}
use Rattle.std_laws.proofs.Tests.{nat_eq-equal, nat_lt-is-above, nat_lt-not-above}

-- a pin is shifted as its instance is
column-shifted : (d : Netlist) (new : List (List Seat)) (trial : List Spot) (p : Pin) (right left : ℕ) → IsShifted d new trial p.instance right left
    → pin_column trial (net_pin d p) + right ≡ column_of d new p + left
unfolding column_of
column-shifted d new trial p right left is =
    let one : pin_column trial (net_pin d p)
    ≡ is.standing.left + cond is.standing.mirror (offset_of true (columns_of d p.instance) (first_column d p)) (offset_of false (columns_of d p.instance) (first_column d p)) =
    ap (λ (s : Spot). s.left + cond s.mirror (offset_of true (columns_of d p.instance) (first_column d p)) (offset_of false (columns_of d p.instance) (first_column d p))) (ap standing_in is.told) in
    let three = ap (λ (o : Option Stand). column_at o (columns_of d p.instance) (first_column d p)) is.stand in
    omega (arith, one, by (first_column d p) is.standing.mirror, three, is.shift)
  where
    by : (o : Option ℕ) (m : Bool) → is.column + cond m (offset_of true (columns_of d p.instance) o) (offset_of false (columns_of d p.instance) o)
        ≡ column_at (Some (record { row = is.standing.row; left = is.column; mirror = m })) (columns_of d p.instance) o
    by None true = omega arith
    by None false = omega arith
    by (Some column) true = refl
    by (Some column) false = refl

row-same : (d : Netlist) (new : List (List Seat)) (trial : List Spot) (p : Pin) (right left : ℕ) → IsShifted d new trial p.instance right left
    → pin_row trial (net_pin d p) ≡ row_of d new p.instance
row-same d new trial p right left is = ap (λ (s : Spot). s.row) (ap standing_in is.told) ∙ sym (ap row_in is.stand)

-- by how much a shifted pin may make its net shorter, and surely makes it longer
abbrev shortens : Netlist → List Spot → (ℕ → ℕ) → (ℕ → ℕ) → Pin → ℕ
shortens d trial right left p = ends_net d trial Low (pin_with_net d p) * right p.instance + ends_net d trial High (pin_with_net d p) * left p.instance

abbrev lengthens : Netlist → List Spot → (ℕ → ℕ) → (ℕ → ℕ) → Pin → ℕ
lengthens d trial right left p = ends_net_alone d trial High (pin_with_net d p) * right p.instance + ends_net_alone d trial Low (pin_with_net d p) * left p.instance

-- so a net that costs so much by the table costs at least so much in the rows
net-shifted : (d : Netlist) (new : List (List Seat)) (w : Weighing) (trial : List Spot) (right left : ℕ → ℕ) → IsNetlist d
    → ((i : ℕ) → i < length d.instances → IsShifted d new trial i (right i) (left i)) → (net : ℕ)
    → cost_by d w trial net + sum (map (lengthens d trial right left) (pins_of_net d net)) ≤ net_cost d new w net + sum (map (shortens d trial right left) (pins_of_net d net))
unfolding measured net_cost
net-shifted d new w trial right left good near net =
    let all = net-pins-within d good net in
    let f = λ (p : Pin). pin_column trial (net_pin d p) in
    let ps = pins_of_net d net in
    let named = map-map (net_pin d) (pin_column trial) ps in
    let same = ap₂ (λ (columns lines : List ℕ). spread columns + w.row_cost * spread lines) named
    (map-map (net_pin d) (pin_row trial) ps
    ∙ map-same (λ (p : Pin). p.instance < length d.instances) (λ (p : Pin). pin_row trial (net_pin d p)) (λ (p : Pin). row_of d new p.instance)
    (λ p below. row-same d new trial p (right p.instance) (left p.instance) (near p.instance below)) ps all) in
    let far = spread-shifted f (column_of d new) (λ (p : Pin). right p.instance) (λ (p : Pin). left p.instance) ps
    (every-weaker (λ (p : Pin). p.instance < length d.instances) (λ (p : Pin). f p + right p.instance ≡ column_of d new p + left p.instance)
    (λ p below. column-shifted d new trial p (right p.instance) (left p.instance) (near p.instance below)) ps all) in
    let own = every-weaker (λ (p : Pin). nat_eq p.net net ≡ true) (λ (p : Pin). p.net ≡ net) (λ p test. nat_eq-equal p.net net test) ps (every-passes (λ (p : Pin). nat_eq p.net net) d.pins) in
    let shorter = ap sum (map-same (λ (p : Pin). p.net ≡ net) (shortens d trial right left)
    (λ (p : Pin). at_end (extreme_of Low (map f ps)) (f p) * right p.instance + at_end (extreme_of High (map f ps)) (f p) * left p.instance)
    (λ p is. ap (λ (l : List ℕ). at_end (extreme_of Low l) (f p) * right p.instance + at_end (extreme_of High l) (f p) * left p.instance) (ap (net_columns d trial) is ∙ named)) ps own) in
    let longer = ap sum (map-same (λ (p : Pin). p.net ≡ net) (lengthens d trial right left)
    (λ (p : Pin). alone_at_end (extreme_of High (map f ps)) (f p) * right p.instance + alone_at_end (extreme_of Low (map f ps)) (f p) * left p.instance)
    (λ p is. ap (λ (l : List ℕ). alone_at_end (extreme_of High l) (f p) * right p.instance + alone_at_end (extreme_of Low l) (f p) * left p.instance) (ap (net_columns d trial) is ∙ named)) ps own) in
    omega (arith, same, far, shorter, longer)

pub nets-shifted : (d : Netlist) (new : List (List Seat)) (w : Weighing) (trial : List Spot) (right left : ℕ → ℕ) → IsNetlist d
    → ((i : ℕ) → i < length d.instances → IsShifted d new trial i (right i) (left i))
    → sum (table_costs d w trial) + sum (map (lengthens d trial right left) d.pins)
    ≤ sum (map (net_cost d new w) (range_with_len 0 (length d.nets + 1))) + sum (map (shortens d trial right left) d.pins)
nets-shifted d new w trial right left good near =
    let nets = range_with_len 0 (length d.nets + 1) in
    let each = sum-under (λ (net : ℕ). (0 ≤ net) × (net < 0 + (length d.nets + 1))) (λ (net : ℕ). cost_by d w trial net + sum (map (lengthens d trial right left) (pins_of_net d net)))
    (λ (net : ℕ). net_cost d new w net + sum (map (shortens d trial right left) (pins_of_net d net)))
    (λ net within. net-shifted d new w trial right left good near net) nets (range-bounds 0 (length d.nets + 1)) in
    let split = sum-both (cost_by d w trial) (λ (net : ℕ). sum (map (lengthens d trial right left) (pins_of_net d net))) nets in
    let split' = sum-both (net_cost d new w) (λ (net : ℕ). sum (map (shortens d trial right left) (pins_of_net d net))) nets in
    let within = every-weaker (λ (p : Pin). (0 < p.net) × (p.net ≤ length d.nets)) (λ (p : Pin). (0 ≤ p.net) × (p.net < 0 + (length d.nets + 1)))
    (λ p is. (omega arith, omega (arith, is.1))) d.pins (recursion_from_All (λ (p : Pin). (0 < p.net) × (p.net ≤ length d.nets)) d.pins good.nets) in
    omega (
      arith,
      each,
      split,
      split',
      shares-by (lengthens d trial right left) d.pins 0 (length d.nets + 1) within,
      shares-by (shortens d trial right left) d.pins 0 (length d.nets + 1) within,
    )

-- two marks of each pin, one for each way in which it may be shifted, where either of two lists of instances is shifted one way
both-ways : (d : Netlist) (one two : ℕ × NetPin → ℕ) (u v : ℕ) (ms ns : List ℕ) (ps : List Pin)
    → sum (map (λ (p : Pin). one (pin_with_net d p) * (u * hits ms p.instance + v * hits ns p.instance) + two (pin_with_net d p) * (v * hits ms p.instance + u * hits ns p.instance)) ps)
    ≡ u * (marked_hits d one ms ps + marked_hits d two ns ps) + v * (marked_hits d one ns ps + marked_hits d two ms ps)
both-ways d one two u v ms ns [] = omega arith
both-ways d one two u v ms ns (p ∷ ps) =
    omega (
      arith,
      both-ways d one two u v ms ns ps,
      sum-cons (one (pin_with_net d p) * (u * hits ms p.instance + v * hits ns p.instance) + two (pin_with_net d p) * (v * hits ms p.instance + u * hits ns p.instance))
          (map (λ (p : Pin). one (pin_with_net d p) * (u * hits ms p.instance + v * hits ns p.instance) + two (pin_with_net d p) * (v * hits ms p.instance + u * hits ns p.instance)) ps),
      ap (λ (n : ℕ). u * n) (more one ms),
      ap (λ (n : ℕ). v * n) (more one ns),
      ap (λ (n : ℕ). v * n) (more two ms),
      ap (λ (n : ℕ). u * n) (more two ns),
    )
  where
    more : (mark : ℕ × NetPin → ℕ) (is : List ℕ) → marked_hits d mark is (p ∷ ps) ≡ mark (pin_with_net d p) * hits is p.instance + marked_hits d mark is ps
    more mark is = sum-cons (mark (pin_with_net d p) * hits is p.instance) (map (λ (p : Pin). mark (pin_with_net d p) * hits is p.instance) ps)

-- which of two marks counts in which list, where one of two widths is greater
ways : (u ca cb x y x' y' m n : ℕ) → (ca < cb → (m ≡ x) × (n ≡ y)) → (cb < ca → (m ≡ y') × (n ≡ x')) → u ≡ difference ca cb → (cb - ca) * (x + y) + (ca - cb) * (x' + y') ≡ u * (m + n)
ways u ca cb x y x' y' m n wide narrow is = by (nat_lt ca cb) refl (nat_lt cb ca) refl
  where
    by : (b : Bool) → nat_lt ca cb ≡ b → (c : Bool) → nat_lt cb ca ≡ c → (cb - ca) * (x + y) + (ca - cb) * (x' + y') ≡ u * (m + n)
    by true test c other =
        let less : ca < cb = grind (arith, nat_tests) in
        let none : ca - cb ≡ 0 = omega (arith, less) in
        let all : u ≡ cb - ca = omega (arith, is, less) in
        ap (λ (k : ℕ). (cb - ca) * (x + y) + k * (x' + y')) none ∙ sym (ap₂ (λ (k l : ℕ). k * l) all (ap₂ (λ (k l : ℕ). k + l) (wide less).0 (wide less).1) ∙ omega arith)
    by false test true other =
        let less : cb < ca = grind (arith, nat_tests) in
        let none : cb - ca ≡ 0 = omega (arith, less) in
        let all : u ≡ ca - cb = omega (arith, is, less) in
        ap (λ (k : ℕ). k * (x + y) + (ca - cb) * (x' + y')) none ∙ sym (ap₂ (λ (k l : ℕ). k * l) all (ap₂ (λ (k l : ℕ). k + l) (narrow less).0 (narrow less).1) ∙ omega arith)
    by false test false other =
        let same : ca ≡ cb = grind (arith, nat_tests) in
        let none : cb - ca ≡ 0 = omega (arith, same) in
        let none' : ca - cb ≡ 0 = omega (arith, same) in
        let flat : u ≡ 0 = omega (arith, is, same) in
        let nothing : 0 * (x + y) + 0 * (x' + y') ≡ 0 * (m + n) = omega arith in
        ap₂ (λ (k l : ℕ). k * (x + y) + l * (x' + y')) none none' ∙ nothing ∙ sym (ap (λ (k : ℕ). k * (m + n)) flat)

-- what all nets cost by the table of the trade, at most
pub trial-costs : (d : Netlist) (rows : List (List Seat)) (w : Weighing) (standings : List Spot) (a b : ℕ) → IsTrial d rows standings a b
    → sum (table_costs d w (traded a b standings))
    + difference (columns_of d a) (columns_of d b)
    * (longer_pins d rows (traded a b standings) a b (standing_of standings a) (standing_of standings b) + longer_pins d rows (traded a b standings) b a (standing_of standings b) (standing_of standings a))
    ≤ sum (map (net_cost d (swapped a b rows) w) (range_with_len 0 (length d.nets + 1)))
    + difference (columns_of d a) (columns_of d b)
    * (shorter_pins d rows (traded a b standings) a b (standing_of standings a) (standing_of standings b) + shorter_pins d rows (traded a b standings) b a (standing_of standings b) (standing_of standings a))
trial-costs d rows w standings a b h =
    let one = standing_of standings a in
    let other = standing_of standings b in
    let t = traded a b standings in
    let ca = columns_of d a in
    let cb = columns_of d b in
    let ms = instances_instead a b (shifted_seats rows one other) in
    let ns = instances_instead b a (shifted_seats rows other one) in
    let all = nets-shifted d (swapped a b rows) w t (right_by d rows a b one other) (left_by d rows a b one other) h.good (shifted d rows standings a b h) in
    let shorter = both-ways d (ends_net d t Low) (ends_net d t High) (cb - ca) (ca - cb) ms ns d.pins in
    let longer = both-ways d (ends_net_alone d t High) (ends_net_alone d t Low) (cb - ca) (ca - cb) ms ns d.pins in
    let shorter_ways = ways (difference ca cb) ca cb (marked_hits d (ends_net d t Low) ms d.pins) (marked_hits d (ends_net d t High) ns d.pins)
    (marked_hits d (ends_net d t Low) ns d.pins) (marked_hits d (ends_net d t High) ms d.pins) (shorter_pins d rows t a b one other) (shorter_pins d rows t b a other one)
    (λ less. (
      ap (λ (x : Bool). marked_in d (ends_net d t (shifted_from x)) ms) (nat_lt-is-above ca cb less) ∙ marked-hits d (ends_net d t Low) ms,
      ap (λ (x : Bool). marked_in d (ends_net d t (shifted_from x)) ns) (nat_lt-not-above cb ca (omega (arith, less))) ∙ marked-hits d (ends_net d t High) ns,
    ))
    (λ less. (
      ap (λ (x : Bool). marked_in d (ends_net d t (shifted_from x)) ms) (nat_lt-not-above ca cb (omega (arith, less))) ∙ marked-hits d (ends_net d t High) ms,
      ap (λ (x : Bool). marked_in d (ends_net d t (shifted_from x)) ns) (nat_lt-is-above cb ca less) ∙ marked-hits d (ends_net d t Low) ns,
    )) refl in
    let longer_ways = ways (difference ca cb) ca cb (marked_hits d (ends_net_alone d t High) ms d.pins) (marked_hits d (ends_net_alone d t Low) ns d.pins)
    (marked_hits d (ends_net_alone d t High) ns d.pins) (marked_hits d (ends_net_alone d t Low) ms d.pins) (longer_pins d rows t a b one other) (longer_pins d rows t b a other one)
    (λ less. (
      ap (λ (x : Bool). marked_in d (ends_net_alone d t (across (shifted_from x))) ms) (nat_lt-is-above ca cb less) ∙ marked-hits d (ends_net_alone d t High) ms,
      ap (λ (x : Bool). marked_in d (ends_net_alone d t (across (shifted_from x))) ns) (nat_lt-not-above cb ca (omega (arith, less))) ∙ marked-hits d (ends_net_alone d t Low) ns,
    ))
    (λ less. (
      ap (λ (x : Bool). marked_in d (ends_net_alone d t (across (shifted_from x))) ms) (nat_lt-not-above ca cb (omega (arith, less))) ∙ marked-hits d (ends_net_alone d t Low) ms,
      ap (λ (x : Bool). marked_in d (ends_net_alone d t (across (shifted_from x))) ns) (nat_lt-is-above cb ca less) ∙ marked-hits d (ends_net_alone d t High) ns,
    )) refl in
    sums _ _ _ _ _ _ all (shorter ∙ shorter_ways) (longer ∙ longer_ways)
  where
    sums : (t l n s u v : ℕ) → t + l ≤ n + s → s ≡ u → l ≡ v → t + v ≤ n + u
    sums t l n s u v all one two = omega (arith, all, one, two)
