use Rattle.std.proofs.Common.{◌≡◌, ◌<◌, ◌≤◌, ℕ, ◌+◌, ◌-◌, ◌*◌, List, [], ◌∷◌, ◌++◌, length, map, sum, take, drop, Bool, true, false, cond, Some, refl, ap, sym, ◌∙◌, subst, arith}
use Rattle.std.proofs.lemmas.List.Elements.{recursion_from_All}
use Rattle.std.proofs.lemmas.List.Sums.{sum_by-append}
use Rattle.std.proofs.lemmas.List.{length-map, map-append, take-append-drop}
use Rattle.std.proofs.lemmas.Option.{same_Some}
use Rattle.std.specs.List.{slice_get, AllByRecursion, Contains}
use Rattle.std.specs.Prelude.{nat_eq}
use Rattle.design_model.specs.Netlist.{IsNetlist, Netlist}
use Rattle.design_model.specs.declared.design.Pin.{Pin}
use Rattle.row_board.specs.Cost.{pins_of_net}
use Rattle.row_board.specs.Extreme.{extreme_of}
use Rattle.row_board.specs.Extremes.{extreme_at, part_of, AreExtremes, AreExtremesOf}
use Rattle.row_board.specs.NetPins.{net_pin, net_pins, own_pin, pin_column, pin_with_net, pins_of_instance}
use Rattle.row_board.specs.PinPlaces.{columns_by}
use Rattle.row_board.specs.Spot.{Spot}
use Rattle.row_board.specs.Trial.{ends_net, least_cost, longer_pins, marked_in, marked_pins, net_columns, shorter_pins}
use Rattle.row_board.specs.Cost.{difference}
use Rattle.row_model.specs.Widths.{columns_of}
use Rattle.row_model.specs.declared.rows.Seat.{Seat}
use Rattle.std.proofs.Math.Nat.{mul-le-mul_left}
use Rattle.std_laws.proofs.Sums.{sum-cons}
use Rattle.row_board.specs.declared.extreme.Side.{Side}
use Rattle.row_board.specs.declared.extreme.Side.TheVariants.{Low, High}
use Rattle.row_board.specs.declared.extremes.Extremes.{Extremes}
use Rattle.row_board.specs.declared.net_pins.InstancePin.{InstancePin}
use Rattle.row_board.specs.declared.net_pins.NetPin.{NetPin}
use Rattle.row_board.proofs.ExtremeLaws.{extreme-is}
use Rattle.std_laws.proofs.Counts.{filter-short}
use Rattle.std_laws.proofs.Every.{every-filtered, every-from-get, every-get, every-map}
use Rattle.std_laws.proofs.Members.{filter-member, get-contains}
use Rattle.std_laws.proofs.Places.{map-get}
use Rattle.std_laws.proofs.Ranges.{image-at}
use Rattle.std_laws.proofs.Tests.{nat_eq-itself}

-- the kept extremes of a list are its extremes
pub kept-extreme : (numbers : List ℕ) (kept : List Extremes) (side : Side) (list : ℕ) (p : Extremes) → AllByRecursion (AreExtremesOf numbers) kept → slice_get kept list ≡ Some p
    → (n : ℕ) (ns : List ℕ) → slice_get (map (part_of numbers) kept) list ≡ Some (n ∷ ns) → extreme_at side p ≡ extreme_of side (n ∷ ns)
kept-extreme numbers kept side list p all at n ns is =
    let found = map-get (part_of numbers) kept list (n ∷ ns) is in
    let same : p ≡ found.0 = same_Some p found.0 (sym at ∙ found.1) in
    let are = every-get (AreExtremesOf numbers) kept list found.0 all found.1 in
    ap (extreme_at side) same ∙ by side found.0 (subst (λ (l : List ℕ). AreExtremes l found.0) found.2 are.is)
  where
    by : (side : Side) (q : Extremes) → AreExtremes (n ∷ ns) q → extreme_at side q ≡ extreme_of side (n ∷ ns)
    by Low q are = extreme-is Low n ns (extreme_at Low q) are.low
    by High q are = extreme-is High n ns (extreme_at High q) are.high

-- so what they tell of the columns of a net with a pin is known
pub net-told : (d : Netlist) (t : List Spot) (net : ℕ) (lists : List (List ℕ)) (f : List ℕ → ℕ) (x : ℕ) → lists ≡ columns_by d t → net ≤ length d.nets → 0 < length (net_pins d net)
    → ((n : ℕ) (ns : List ℕ) → slice_get lists net ≡ Some (n ∷ ns) → x ≡ f (n ∷ ns)) → x ≡ f (net_columns d t net)
net-told d t net lists f x are low some is = by (net_columns d t net) refl
  where
    by : (l : List ℕ) → net_columns d t net ≡ l → x ≡ f l
    by [] none = absurd (omega (arith, some, ap length none, length-map (net_pins d net) (pin_column t)))
    by (n ∷ ns) here =
        is n ns
        (ap (λ (l : List (List ℕ)). slice_get l net) are ∙ image-at (net_columns d t) 0 (length d.nets + 1) net (omega (arith, low))
        ∙ ap (λ (l : List ℕ). Some l) (ap (net_columns d t) (let same : 0 + net ≡ net = omega arith in same) ∙ here))

-- a pin of a design is of one of its nets, which has it
abbrev pub IsOfNet : Netlist → ℕ × NetPin → Type 0
IsOfNet d p = (p.0 ≤ length d.nets) × (0 < length (net_pins d p.0))

pub own-of-nets : (d : Netlist) (i : ℕ) (own : List InstancePin) → IsNetlist d → map (own_pin i) own ≡ map (pin_with_net d) (pins_of_instance d i)
    → AllByRecursion (IsOfNet d) (map (own_pin i) own)
own-of-nets d i own good are =
    subst (AllByRecursion (IsOfNet d)) (sym are)
    (every-map (IsOfNet d) (pin_with_net d) (pins_of_instance d i)
    (every-filtered (λ (p : Pin). IsOfNet d (pin_with_net d p)) (λ (p : Pin). nat_eq p.instance i) d.pins
    (every-from-get (λ (p : Pin). IsOfNet d (pin_with_net d p)) d.pins
    (λ k p at. (
      (every-get (λ (p : Pin). (0 < p.net) × (p.net ≤ length d.nets)) d.pins k p (recursion_from_All (λ (p : Pin). (0 < p.net) × (p.net ≤ length d.nets)) d.pins good.nets) at).1,
      some p (filter-member (λ (q : Pin). nat_eq q.net p.net) d.pins p (get-contains d.pins k p at) (nat_eq-itself p.net)),
    )))))
  where
    some : (p : Pin) → Contains (pins_of_net d p.net) p → 0 < length (net_pins d p.net)
    some p has = omega (arith, has.1, length-map (pins_of_net d p.net) (net_pin d))

pub own-few : (d : Netlist) (i : ℕ) (own : List InstancePin) → IsNetlist d → map (own_pin i) own ≡ map (pin_with_net d) (pins_of_instance d i) → length own ≤ 200000
own-few d i own good are =
    omega (
      arith,
      ap length are,
      length-map own (own_pin i),
      length-map (pins_of_instance d i) (pin_with_net d),
      filter-short (λ (p : Pin). nat_eq p.instance i) d.pins,
      good.few_pins,
    )

-- marked pins are no more than all pins
pub marked-short : (mark : ℕ × NetPin → ℕ) → ((p : ℕ × NetPin) → mark p ≤ 1) → (ps : List (ℕ × NetPin)) → sum (map mark ps) ≤ length ps
marked-short mark one [] = omega arith
marked-short mark one (p ∷ ps) = omega (arith, marked-short mark one ps, one p, sum-cons (mark p) (map mark ps))

pub marked-few : (d : Netlist) (mark : ℕ × NetPin → ℕ) (most : ℕ) → ((p : ℕ × NetPin) → mark p ≤ 1) → ((i : ℕ) → length (pins_of_instance d i) ≤ most) → (ns : List ℕ)
    → marked_in d mark ns ≤ most * length ns
marked-few d mark most one few [] = omega arith
marked-few d mark most one few (n ∷ ns) =
    omega (
      arith,
      marked-few d mark most one few ns,
      marked-short mark one (map (pin_with_net d) (pins_of_instance d n)),
      length-map (pins_of_instance d n) (pin_with_net d),
      few n,
      sum-cons (marked_pins d mark n) (map (marked_pins d mark) ns),
    )

-- the marked pins of seats, and those of their front and of the others
pub marked-parts : (d : Netlist) (mark : ℕ × NetPin → ℕ) (f : Seat → ℕ) (k : ℕ) (seats : List Seat)
    → marked_in d mark (map f (take k seats)) + marked_in d mark (map f (drop k seats)) ≡ marked_in d mark (map f seats)
marked-parts d mark f k seats =
    let front = map f (take k seats) in
    let back = map f (drop k seats) in
    let whole : front ++ back ≡ map f seats = sym (map-append f (take k seats) (drop k seats)) ∙ ap (map f) (take-append-drop k seats) in
    omega (
      arith,
      ap (λ (l : List ℕ). marked_in d mark l) whole,
      ap sum (map-append (marked_pins d mark) front back),
      sum_by-append (λ (n : ℕ). n) (map (marked_pins d mark) front) (map (marked_pins d mark) back),
    )

pub ends-one : (d : Netlist) (trial : List Spot) (side : Side) (p : ℕ × NetPin) → ends_net d trial side p ≤ 1
ends-one d trial side p = by (nat_eq (pin_column trial p.1) (extreme_of side (net_columns d trial p.0)).at)
  where
    by : (b : Bool) → cond b 1 0 ≤ 1
    by true = omega arith
    by false = omega arith

-- what rows cost at least is no less where more pins are taken to save, and fewer to cost
pub least-told : (d : Netlist) (rows : List (List Seat)) (trial : List Spot) (a b : ℕ) (one other : Spot) (cost ends ends' alone alone' shift : ℕ)
    → shorter_pins d rows trial a b one other ≤ ends → shorter_pins d rows trial b a other one ≤ ends'
    → alone ≤ longer_pins d rows trial a b one other → alone' ≤ longer_pins d rows trial b a other one → shift ≡ difference (columns_of d a) (columns_of d b)
    → (cost + shift * (alone + alone')) - shift * (ends + ends') ≤ least_cost d rows trial a b one other cost
least-told d rows trial a b one other cost ends ends' alone alone' shift first second third fourth is =
    let more : shorter_pins d rows trial a b one other + shorter_pins d rows trial b a other one ≤ ends + ends' = omega (arith, first, second) in
    let fewer : alone + alone' ≤ longer_pins d rows trial a b one other + longer_pins d rows trial b a other one = omega (arith, third, fourth) in
    omega (
      arith,
      mul-le-mul_left shift more,
      mul-le-mul_left shift fewer,
      ap (λ (n : ℕ). n * (shorter_pins d rows trial a b one other + shorter_pins d rows trial b a other one)) is,
      ap (λ (n : ℕ). n * (longer_pins d rows trial a b one other + longer_pins d rows trial b a other one)) is,
    )
