use Rattle.std.proofs.Common.{◌≡◌, ◌<◌, ◌≤◌, ℕ, ◌+◌, ◌-◌, ◌*◌, List, [], ◌∷◌, ◌++◌, length, length-append, map, sum, drop, Bool, true, false, cond, Option, None, Some, refl, ap, ap₂, sym, ◌∙◌, subst, arith}
use Rattle.std.proofs.lemmas.Bool.Decides.{nat_tests}
use Rattle.std.proofs.lemmas.List.{length-map, length-take, map-append}
use Rattle.std.proofs.lemmas.Option.{none-some, slice_get_within}
use Rattle.std.proofs.Math.Nat.{mul-le-mul_left}
use Rattle.std.specs.List.{slice_get, AllByRecursion, Contains}
use Rattle.std.specs.Prelude.{max, nat_eq, nat_lt}
use Rattle.design_model.specs.Netlist.{IsNetlist, Netlist}
use Rattle.design_model.specs.declared.design.Pin.{Pin}
use Rattle.list_facts.specs.Lists.{list_there}
use Rattle.row_board.specs.Cost.{difference, pins_of_net}
use Rattle.row_board.specs.Extreme.{across, alone_at_end, at_end, extreme_of}
use Rattle.row_board.specs.NetPins.{joined_by, net_pin, net_pins, own_pin, pin_column, pin_with_net, pins_of_instance, ArePins}
use Rattle.row_board.specs.Moving.{moved_end, row_length, row_there}
use Rattle.row_board.specs.Spot.{Spot}
use Rattle.row_board.specs.Standings.{standing_at, standing_in, standing_of, AreEntered}
use Rattle.row_board.specs.Trial.{ends_net, ends_net_alone, instances_instead, instead, joined, least_cost, longer_pins, marked_in, marked_pins, shift_end, shifted_seats, shorter_pins, AreInstances, AreOthers}
use Rattle.row_model.specs.Widths.{columns_of}
use Rattle.row_model.specs.declared.rows.Seat.{Seat}
use Rattle.row_board.specs.declared.extreme.Side.{Side}
use Rattle.row_board.specs.declared.extreme.Side.TheVariants.{Low, High}
use Rattle.row_board.specs.declared.net_pins.InstancePin.{InstancePin}
use Rattle.row_board.specs.declared.net_pins.NetPin.{NetPin}
use Rattle.row_board.proofs.EndLaws.{ends-one, marked-short, own-of-nets, IsOfNet}
use Rattle.row_board.proofs.HitLaws.{instead-other, taken-within}
use Rattle.row_board.proofs.PlaceLaws.{there-apart}
use Rattle.row_model.specs.Rows.{ArePlaced}
use Rattle.std_laws.proofs.Counts.{filter-short}
use Rattle.std_laws.proofs.Every.{every-at, every-filtered, every-from-get, every-left, every-map}
use Rattle.std_laws.proofs.Images.{map-same}
use Rattle.std_laws.proofs.Members.{filter-member, get-contains, member-none, member-only}
use Rattle.std_laws.proofs.Places.{get-before, get-dropped, map-get}
use Rattle.std_laws.proofs.Sums.{sum-both, sum-cons, sum-push, sum-under}
use Rattle.std_laws.proofs.Tests.{nat_eq-itself, nat_eq-true}

-- the one number of a list stands alone at both of its extremes
only-number : (n : ℕ) (side : Side) → at_end (extreme_of side (n ∷ [])) n ≤ alone_at_end (extreme_of (across side) (n ∷ [])) n
only-number n Low = subst (λ (b : Bool). cond b 1 0 ≤ cond (nat_eq (0 + cond b 1 0) 1) (cond b 1 0) 0) (sym (nat_eq-itself n)) (omega arith)
only-number n High = subst (λ (b : Bool). cond b 1 0 ≤ cond (nat_eq (0 + cond b 1 0) 1) (cond b 1 0) 0) (sym (nat_eq-itself n)) (omega arith)

-- a member of a list that has no second one is all of it
only-member : {A : Type 0} (xs : List A) (x : A) → Contains xs x → length xs ≤ 1 → xs ≡ x ∷ []
only-member [] x has few = absurd (member-none x has)
only-member (y ∷ []) x has few = ap (λ z. z ∷ []) (member-only y x has)
only-member (y ∷ z ∷ xs) x has few = absurd (omega (arith, few))

-- so a pin that ends its net is joined with others, or alone ends it across, too
pub ends-joined : (d : Netlist) (t : List Spot) (side : Side) (p : Pin) → Contains d.pins p
    → ends_net d t side (pin_with_net d p) ≤ joined d (pin_with_net d p) + ends_net_alone d t (across side) (pin_with_net d p)
ends-joined d t side p has = by (nat_lt 1 (length (net_pins d p.net))) refl
  where
    by : (b : Bool) → nat_lt 1 (length (net_pins d p.net)) ≡ b → ends_net d t side (pin_with_net d p) ≤ cond b 1 0 + ends_net_alone d t (across side) (pin_with_net d p)
    by true test = omega (arith, ends-one d t side (pin_with_net d p))
    by false test =
        let few : length (net_pins d p.net) ≤ 1 = grind (arith, nat_tests) in
        let own = filter-member (λ (q : Pin). nat_eq q.net p.net) d.pins p has (nat_eq-itself p.net) in
        let only : pins_of_net d p.net ≡ p ∷ [] = only-member (pins_of_net d p.net) p own (omega (arith, few, length-map (pins_of_net d p.net) (net_pin d))) in
        let n = pin_column t (net_pin d p) in
        subst (λ (ps : List Pin). at_end (extreme_of side (map (pin_column t) (map (net_pin d) ps))) n ≤ 0 + alone_at_end (extreme_of (across side) (map (pin_column t) (map (net_pin d) ps))) n) (sym only)
        (omega (arith, only-number n side))

pub ends-joined-own : (d : Netlist) (t : List Spot) (side : Side) (i : ℕ)
    → marked_pins d (ends_net d t side) i ≤ marked_pins d (joined d) i + marked_pins d (ends_net_alone d t (across side)) i
ends-joined-own d t side i =
    let ps = map (pin_with_net d) (pins_of_instance d i) in
    let P = λ (q : ℕ × NetPin). ends_net d t side q ≤ joined d q + ends_net_alone d t (across side) q in
    omega (
      arith,
      sum-under P (ends_net d t side) (λ (q : ℕ × NetPin). joined d q + ends_net_alone d t (across side) q) (λ q is. is) ps
          (every-map P (pin_with_net d) (pins_of_instance d i)
          (every-filtered (λ (p : Pin). P (pin_with_net d p)) (λ (p : Pin). nat_eq p.instance i) d.pins
          (every-from-get (λ (p : Pin). P (pin_with_net d p)) d.pins (λ k p at. ends-joined d t side p (get-contains d.pins k p at))))),
      sum-both (joined d) (ends_net_alone d t (across side)) ps,
    )

-- and so do the pins of several instances
pub ends-joined-in : (d : Netlist) (t : List Spot) (side : Side) (ns : List ℕ)
    → marked_in d (ends_net d t side) ns ≤ marked_in d (joined d) ns + marked_in d (ends_net_alone d t (across side)) ns
ends-joined-in d t side [] = omega arith
ends-joined-in d t side (n ∷ ns) =
    omega (
      arith,
      ends-joined-in d t side ns,
      ends-joined-own d t side n,
      sum-cons (marked_pins d (ends_net d t side) n) (map (marked_pins d (ends_net d t side)) ns),
      sum-cons (marked_pins d (joined d) n) (map (marked_pins d (joined d)) ns),
      sum-cons (marked_pins d (ends_net_alone d t (across side)) n) (map (marked_pins d (ends_net_alone d t (across side))) ns),
    )

-- an instance has few of them
pub joined-few : (d : Netlist) (i : ℕ) → IsNetlist d → marked_pins d (joined d) i ≤ 200000
joined-few d i good =
    omega (
      arith,
      marked-short (joined d) (λ p. one (nat_lt 1 (length (net_pins d p.0)))) (map (pin_with_net d) (pins_of_instance d i)),
      length-map (pins_of_instance d i) (pin_with_net d),
      filter-short (λ (p : Pin). nat_eq p.instance i) d.pins,
      good.few_pins,
    )
  where
    one : (b : Bool) → cond b 1 0 ≤ 1
    one true = omega arith
    one false = omega arith

-- they are counted by a table of nets
pub joined-told : (d : Netlist) (nets : List (List NetPin)) (i : ℕ) (own : List InstancePin) → IsNetlist d → ArePins d nets
    → map (own_pin i) own ≡ map (pin_with_net d) (pins_of_instance d i) → sum (map (joined_by nets) own) ≡ marked_pins d (joined d) i
joined-told d nets i own good are is = ap sum (each own (own-of-nets d i own good is) ∙ ap (map (joined d)) is)
  where
    each : (ps : List InstancePin) → AllByRecursion (IsOfNet d) (map (own_pin i) ps) → map (joined_by nets) ps ≡ map (joined d) (map (own_pin i) ps)
    each [] all = refl
    each (p ∷ ps) all =
        ap₂ (λ (n : ℕ) (ns : List ℕ). n ∷ ns) (ap (λ (o : Option (List NetPin)). cond (nat_lt 1 (length (list_there o))) 1 0) (are.each p.net all.0.0)) (each ps all.1)

-- rows cost more than a limit where the pins that may save don't outnumber those that surely cost by so many
pub above-told : (d : Netlist) (rows : List (List Seat)) (trial : List Spot) (a b : ℕ) (one other : Spot) (cost limit spare shift : ℕ) → shift ≡ difference (columns_of d a) (columns_of d b)
    → limit < cost → shift * spare ≤ (cost - limit) - 1
    → shorter_pins d rows trial a b one other + shorter_pins d rows trial b a other one
    ≤ spare + (longer_pins d rows trial a b one other + longer_pins d rows trial b a other one)
    → limit < least_cost d rows trial a b one other cost
above-told d rows trial a b one other cost limit spare shift is above few outdone =
    let shorter = shorter_pins d rows trial a b one other + shorter_pins d rows trial b a other one in
    let longer = longer_pins d rows trial a b one other + longer_pins d rows trial b a other one in
    by shorter longer (mul-le-mul_left shift outdone) (ap (λ (n : ℕ). n * shorter) is) (ap (λ (n : ℕ). n * longer) is)
  where
    by : (s l : ℕ) → shift * s ≤ shift * (spare + l) → shift * s ≡ difference (columns_of d a) (columns_of d b) * s → shift * l ≡ difference (columns_of d a) (columns_of d b) * l
        → limit < (cost + difference (columns_of d a) (columns_of d b) * l) - difference (columns_of d a) (columns_of d b) * s
    by s l more same same' = omega (arith, above, few, more, same, same')

-- whichever of two instances is named first
pub least-either : (d : Netlist) (rows : List (List Seat)) (trial : List Spot) (a b : ℕ) (one other : Spot) (cost : ℕ)
    → least_cost d rows trial b a other one cost ≡ least_cost d rows trial a b one other cost
least-either d rows trial a b one other cost =
    let same : difference (columns_of d b) (columns_of d a) ≡ difference (columns_of d a) (columns_of d b) = omega arith in
    ap (λ (n : ℕ). (cost + n * (longer_pins d rows trial b a other one + longer_pins d rows trial a b one other)) - n * (shorter_pins d rows trial b a other one + shorter_pins d rows trial a b one other)) same
    ∙ by (difference (columns_of d a) (columns_of d b)) (longer_pins d rows trial b a other one) (longer_pins d rows trial a b one other) (shorter_pins d rows trial b a other one)
    (shorter_pins d rows trial a b one other)
  where
    by : (n l m r s : ℕ) → (cost + n * (l + m)) - n * (r + s) ≡ (cost + n * (m + l)) - n * (s + r)
    by n l m r s = omega arith

-- the instances of seats of which only the last may be that of one of two
front-instead : (a b : ℕ) (seats front : List Seat) (last : Seat) → AreOthers a b seats → seats ≡ front ++ last ∷ []
    → instances_instead a b seats ≡ map (λ (s : Seat). s.instance) front ++ instead a b last.instance ∷ []
front-instead a b seats front last others is =
    let f = λ (s : Seat). instead a b s.instance in
    let long = ap length is ∙ length-append front (last ∷ []) in
    let same = map-same (λ (s : Seat). f s ≡ s.instance) f (λ (s : Seat). s.instance) (λ s one. one) front
    (every-from-get (λ (s : Seat). f s ≡ s.instance) front
    (λ k s at. others.each k s (omega (arith, long, slice_get_within front k s at)) (ap (λ (l : List Seat). slice_get l k) is ∙ get-before front (last ∷ []) k s at))) in
    ap (map f) is ∙ map-append f front (last ∷ []) ∙ ap (λ (l : List ℕ). l ++ f last ∷ []) same

-- and what they have
pub marked-front : (d : Netlist) (mark : ℕ × NetPin → ℕ) (a b : ℕ) (seats front : List Seat) (last : Seat) → AreOthers a b seats → seats ≡ front ++ last ∷ []
    → marked_in d mark (instances_instead a b seats) ≡ marked_in d mark (map (λ (s : Seat). s.instance) front) + marked_pins d mark (instead a b last.instance)
marked-front d mark a b seats front last others is =
    let behind = instead a b last.instance in
    ap (marked_in d mark) (front-instead a b seats front last others is) ∙ ap sum (map-append (marked_pins d mark) (map (λ (s : Seat). s.instance) front) (behind ∷ []))
    ∙ sum-push (map (marked_pins d mark) (map (λ (s : Seat). s.instance) front)) (marked_pins d mark behind)

-- so these are those of a design where all are
pub there-front : (d : Netlist) (a b : ℕ) (seats front : List Seat) (last : Seat) → AreOthers a b seats → seats ≡ front ++ last ∷ [] → AreInstances d (instances_instead a b seats)
    → AreInstances d (map (λ (s : Seat). s.instance) front) × (instead a b last.instance < length d.instances)
there-front d a b seats front last others is there =
    let P = λ (n : ℕ). n < length d.instances in
    let whole = subst (AllByRecursion P) (front-instead a b seats front last others is) there in
    (every-left P (map (λ (s : Seat). s.instance) front) (instead a b last.instance ∷ []) whole, every-at P (map (λ (s : Seat). s.instance) front) [] (instead a b last.instance) whole)

-- behind an instance that gives its place to another, only the last may be this
pub others-behind : (d : Netlist) (rows : List (List Seat)) (standings : List Spot) (a b : ℕ) → AreEntered d rows standings
    → AreOthers a b (shifted_seats rows (standing_of standings a) (standing_of standings b))
others-behind d rows standings a b entered = record { each = each }
  where
    told : (row place : ℕ) (s : Seat) (o : Option (List Seat)) → slice_get rows row ≡ o → slice_get (row_there o) place ≡ Some s
        → (seats : List Seat) × (standing_of standings s.instance ≡ standing_at d row place seats s)
    told row place s None none at = absurd (none-some s at)
    told row place s (Some seats) here at = (seats, ap standing_in (entered.each row place seats s here at))

    each : (k : ℕ) (s : Seat) → k + 1 < length (shifted_seats rows (standing_of standings a) (standing_of standings b))
        → slice_get (shifted_seats rows (standing_of standings a) (standing_of standings b)) k ≡ Some s → instead a b s.instance ≡ s.instance
    each k s within at =
        let one = standing_of standings a in
        let other = standing_of standings b in
        let from = one.place + 1 in
        let to = shift_end rows one other in
        let seats = row_there (slice_get rows one.row) in
        let is_in = taken-within (to - from) k (drop from seats) s at in
        let there : slice_get seats (from + k) ≡ Some s = sym (get-dropped seats from k) ∙ is_in.1 in
        let stand = told one.row (from + k) s (slice_get rows one.row) refl there in
        instead-other a b s.instance
        (λ is. let here : one.place ≡ from + k = ap (λ (x : Spot). x.place) (ap (λ (n : ℕ). standing_of standings n) (sym is) ∙ stand.1) in omega (arith, here))
        (λ is.
        let here : other ≡ standing_at d one.row (from + k) stand.0 s = ap (λ (n : ℕ). standing_of standings n) (sym is) ∙ stand.1 in
        let same : nat_eq one.row other.row ≡ true = nat_eq-true one.row other.row (sym (ap (λ (x : Spot). x.row) here)) in
        let end : to ≡ max one.place other.place + 1 = ap (λ (x : Bool). moved_end false x one.place other.place (row_length (slice_get rows one.row))) same in
        omega (arith, end, ap (λ (x : Spot). x.place) here, within, length-take (to - from) (drop from seats)))

-- and those behind are of the design
pub there-behind : (d : Netlist) (rows : List (List Seat)) (a b : ℕ) (one other : Spot) → IsNetlist d → ArePlaced d rows → a < length d.instances → b < length d.instances
    → AreInstances d (instances_instead a b (shifted_seats rows one other))
there-behind d rows a b one other good placed in_a in_b =
    let f = λ (s : Seat). instead a b s.instance in
    let P = λ (n : ℕ). n < length d.instances in
    let from = one.place + 1 in
    let seats = row_there (slice_get rows one.row) in
    every-from-get P (instances_instead a b (shifted_seats rows one other))
    (λ k n at.
    let found = map-get f (shifted_seats rows one other) k n at in
    let is_in = taken-within (shift_end rows one other - from) k (drop from seats) found.0 found.1 in
    let there = (there-apart d rows good placed one.row).within (from + k) found.0 (sym (get-dropped seats from k) ∙ is_in.1) in
    subst P found.2 (instead-within a b found.0.instance in_a in_b there))
  where
    instead-within : (a b n : ℕ) → a < length d.instances → b < length d.instances → n < length d.instances → instead a b n < length d.instances
    instead-within a b n low_a low_b low = by (nat_eq n a) (nat_eq n b)
      where
        by : (x y : Bool) → cond x b (cond y a n) < length d.instances
        by true y = low_b
        by false true = low_a
        by false false = low
