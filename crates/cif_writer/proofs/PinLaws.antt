use Rattle.std.proofs.Common.{◌≡◌, ◌≢◌, ℕ, zero, suc, ◌+◌, ◌-◌, ◌<◌, ◌≤◌, List, [], ◌∷◌, length, map, drop, replicate, set, not, cond, eqb, ltb, Bool, true, false, Option, Some, None, ap, ap₂, sym, subst, ◌∙◌, add-zero, refl, inl, inr, arith}
use Rattle.std.proofs.lemmas.Bool.{and_from, and_parts, eq-eqb, eqb-true, ltb-true, or_cases}
use Rattle.std.proofs.lemmas.Bool.Decides.{nat_tests}
use Rattle.std.proofs.lemmas.List.{length-replicate}
use Rattle.std.proofs.lemmas.List.Elements.{All-from_recursion}
use Rattle.std.proofs.lemmas.Option.{none-some, same_Some, slice_get-map, slice_get_within}
use Rattle.std.specs.List.{position, position_or_len}
use Rattle.std.specs.Option.{option_map}
use Rattle.std.specs.Prelude.{◌==◌, ◌&&◌, ◌↔◌, IfSome, slice_get}
use Rattle.design_model.specs.Netlist.{IsNetlist, Netlist}
use Rattle.design_model.specs.PinOrder.{IsAscending, IsPinAt, instance_terminals, is_less, pin_pair, power_at}
use Rattle.design_model.specs.declared.design.Pin.{Pin}
use Rattle.design_model.proofs.PinsInOrder.{pin-free, pins-ascending}
use Rattle.cif_writer.specs.Labels.{first_pin, first_pins, first_pins_from, is_pin_of, pin_at}
use Rattle.std_laws.proofs.Members.{all-get}
use Rattle.std_laws.proofs.Places.{get-none, get-set-other, get-set-same}
use Rattle.std_laws.proofs.Searches.{first-at, first-place}
use Rattle.std_laws.proofs.Slices.{drop-next}

-- no pair is less than itself
less-other : (x : ℕ × ℕ) → is_less x x ≡ true → ⊥
less-other x is =
    elim (or_cases (ltb x.0 x.0) (eqb x.0 x.0 && ltb x.1 x.1) is) [
      | inl less ↦ let h = ltb-true x.0 x.0 less in omega arith
      | inr less ↦ let h = ltb-true x.1 x.1 (and_parts (eqb x.0 x.0) (ltb x.1 x.1) less).1 in omega arith
    ]

-- a pair of ascending ones stands once
pair-once : (xs : List (ℕ × ℕ)) → IsAscending xs → (i j : ℕ) (x : ℕ × ℕ) → slice_get xs i ≡ Some x → slice_get xs j ≡ Some x → i ≡ j
pair-once [] up i j x first second = absurd (none-some x first)
pair-once (y ∷ ys) up zero zero x first second = refl
pair-once (y ∷ ys) up zero (suc j) x first second =
    let same : y ≡ x = same_Some y x first in
    let less : is_less y x ≡ true = all-get (λ (z : ℕ × ℕ). is_less y z ≡ true) ys j x (All-from_recursion (λ (z : ℕ × ℕ). is_less y z ≡ true) ys up.0) second in
    absurd (less-other x (subst (λ (z : ℕ × ℕ). is_less z x ≡ true) same less))
pair-once (y ∷ ys) up (suc i) zero x first second =
    let same : y ≡ x = same_Some y x second in
    let less : is_less y x ≡ true = all-get (λ (z : ℕ × ℕ). is_less y z ≡ true) ys i x (All-from_recursion (λ (z : ℕ × ℕ). is_less y z ≡ true) ys up.0) first in
    absurd (less-other x (subst (λ (z : ℕ × ℕ). is_less z x ≡ true) same less))
pair-once (y ∷ ys) up (suc i) (suc j) x first second = ap suc (pair-once ys up.1 i j x first second)

-- a pin of a pair, by the test of its instance and its terminal
pair-of : (instance terminal : ℕ) (p : Pin) → is_pin_of instance terminal p ≡ true → ◌≡◌ {A = ℕ × ℕ} (pin_pair p) (instance, terminal)
pair-of instance terminal p is =
    let parts = and_parts (eqb p.instance instance) (eqb p.terminal terminal) is in
    ap₂ (λ (i t : ℕ). (i, t)) (eqb-true p.instance instance parts.0) (eqb-true p.terminal terminal parts.1)

of-pair : (instance terminal : ℕ) (p : Pin) → ◌≡◌ {A = ℕ × ℕ} (pin_pair p) (instance, terminal) → is_pin_of instance terminal p ≡ true
of-pair instance terminal p is =
    and_from (eqb p.instance instance) (eqb p.terminal terminal) (eq-eqb p.instance instance (ap (λ (x : ℕ × ℕ). x.0) is))
    (eq-eqb p.terminal terminal (ap (λ (x : ℕ × ℕ). x.1) is))

pair-at : (pins : List Pin) (k : ℕ) (p : Pin) → slice_get pins k ≡ Some p → slice_get (map pin_pair pins) k ≡ Some (pin_pair p)
pair-at pins k p at = slice_get-map pin_pair pins k ∙ ap (option_map pin_pair) at

-- a place that is the first one
position-here : {X : Type 0} (p : X → Bool) (xs : List X) (n : ℕ) → position_or_len p xs ≡ n → n < length xs → position p xs ≡ Some n
position-here p xs n is within =
    let test : ltb (position_or_len p xs) (length xs) ≡ true = grind (arith, nat_tests) in
    rw test (ap (λ (k : ℕ). Some k) is)

-- the pin at a terminal that has one
pub pin-there : (d : Netlist) → IsNetlist d → (n instance terminal : ℕ) → IsPinAt d.pins n instance terminal → pin_at d.pins instance terminal ≡ Some n
unfolding pin_at
pin-there d good n instance terminal at = by (slice_get d.pins n) refl at
  where
    by : (o : Option Pin) → slice_get d.pins n ≡ o → option_map pin_pair o ≡ Some (instance, terminal) → position (is_pin_of instance terminal) d.pins ≡ Some n
    by None is found = absurd (none-some (instance, terminal) found)
    by (Some p) is found =
        let pair : ◌≡◌ {A = ℕ × ℕ} (pin_pair p) (instance, terminal) = same_Some (pin_pair p) (instance, terminal) found in
        let first = first-at (is_pin_of instance terminal) d.pins n p is (of-pair instance terminal p pair) in
        let own : slice_get (map pin_pair d.pins) (position_or_len (is_pin_of instance terminal) d.pins) ≡ Some (instance, terminal) =
        pair-at d.pins (position_or_len (is_pin_of instance terminal) d.pins) first.0 first.1 ∙ ap (λ (x : ℕ × ℕ). Some x) (pair-of instance terminal first.0 first.2) in
        let other : slice_get (map pin_pair d.pins) n ≡ Some (instance, terminal) = pair-at d.pins n p is ∙ ap (λ (x : ℕ × ℕ). Some x) pair in
        position-here (is_pin_of instance terminal) d.pins n
        (pair-once (map pin_pair d.pins) (pins-ascending d good) (position_or_len (is_pin_of instance terminal) d.pins) n (instance, terminal) own other)
        (slice_get_within d.pins n p is)

first-passes : (test : Pin → Bool) (pins : List Pin) (n : ℕ) (p : Pin) → position_or_len test pins ≡ n → slice_get pins n ≡ Some p → test p ≡ true
first-passes test [] n p first is = absurd (none-some p is)
first-passes test (q ∷ pins) n p first is = by (test q) refl n first is (first-passes test pins)
  where
    by : (b : Bool) → test q ≡ b → (n : ℕ) → cond (not b) (1 + position_or_len test pins) 0 ≡ n → slice_get (q ∷ pins) n ≡ Some p
        → ((m : ℕ) (x : Pin) → position_or_len test pins ≡ m → slice_get pins m ≡ Some x → test x ≡ true) → test p ≡ true
    by true here zero first is more = let same : q ≡ p = same_Some q p is in ap test (sym same) ∙ here
    by true here (suc n) first is more = absurd (omega (arith, first))
    by false here zero first is more = absurd (omega (arith, first))
    by false here (suc n) first is more = more n p (omega (arith, first)) is

pin-passes : (pins : List Pin) (instance terminal n : ℕ) (o : Option Pin) → slice_get pins n ≡ o → n < length pins → position_or_len (is_pin_of instance terminal) pins ≡ n
    → IsPinAt pins n instance terminal
pin-passes pins instance terminal n None is within first = let past = get-none pins n is in absurd (omega arith)
pin-passes pins instance terminal n (Some p) is within first =
    ap (option_map pin_pair) is
    ∙ ap (λ (x : ℕ × ℕ). Some x) (pair-of instance terminal p (first-passes (is_pin_of instance terminal) pins n p first is))

-- a power terminal has none
pub pin-none : (d : Netlist) → IsNetlist d → (instance terminal : ℕ) → power_at (instance_terminals d instance) terminal ≡ Some true → pin_at d.pins instance terminal ≡ None
unfolding pin_at
pin-none d good instance terminal power = by (position (is_pin_of instance terminal) d.pins) refl
  where
    never : Some false ≡ Some true → ⊥
    never e = cc

    by : (o : Option ℕ) → position (is_pin_of instance terminal) d.pins ≡ o → o ≡ None
    by None is = refl
    by (Some n) is =
        let first : position_or_len (is_pin_of instance terminal) d.pins ≡ n = first-place (is_pin_of instance terminal) d.pins n is in
        let within : n < length d.pins = inside (ltb (position_or_len (is_pin_of instance terminal) d.pins) (length d.pins)) refl is first in
        absurd (never (sym (pin-free d good n instance terminal (pin-passes d.pins instance terminal n (slice_get d.pins n) refl within first)) ∙ power))
      where
        inside : (b : Bool) → ltb (position_or_len (is_pin_of instance terminal) d.pins) (length d.pins) ≡ b
            → cond b (Some (position_or_len (is_pin_of instance terminal) d.pins)) None ≡ Some n → position_or_len (is_pin_of instance terminal) d.pins ≡ n → n < length d.pins
        inside true less found first = let h = ltb-true (position_or_len (is_pin_of instance terminal) d.pins) (length d.pins) less in omega arith
        inside false less found first = absurd (none-some n found)

-- the pin that is found at a terminal
pub pin-is : (d : Netlist) → IsNetlist d → (instance terminal : ℕ) (o : Option ℕ) → IfSome o (λ n. IsPinAt d.pins n instance terminal)
    → (o ≡ None) ↔ (power_at (instance_terminals d instance) terminal ≡ Some true) → o ≡ pin_at d.pins instance terminal
pin-is d good instance terminal None found power = sym (pin-none d good instance terminal (power.0 refl))
pin-is d good instance terminal (Some n) found power = sym (pin-there d good n instance terminal found)

-- the first pins of nets: none of the pins is gone over
pub firsts-begun : (pins : List Pin) (firsts : List ℕ) (n : ℕ) (first : Option ℕ) → first ≡ Some (length pins) → first ≡ Some (length pins + first_pin (drop (length pins) pins) (suc n))
firsts-begun pins firsts n first is =
    let whole : length pins ≡ length pins + first_pin (drop (length pins) pins) (suc n) = omega (arith, none pins n) in
    is ∙ ap (λ (k : ℕ). Some k) whole
  where
    none : (pins : List Pin) (n : ℕ) → first_pin (drop (length pins) pins) (suc n) ≡ 0
    none [] n = refl
    none (p ∷ pins) n = none pins n

first-on : (p : Pin) (rest : List Pin) (net : ℕ) → (p.net == net) ≡ true → first_pin (p ∷ rest) net ≡ 0
first-on p rest net is = rw is refl

first-off : (p : Pin) (rest : List Pin) (net : ℕ) → (p.net == net) ≡ false → first_pin (p ∷ rest) net ≡ 1 + first_pin rest net
first-off p rest net is = rw is refl

-- one more pin, from the last to the first
pub firsts-step : (pins : List Pin) (firsts : List ℕ) (count left before : ℕ) (p : Pin) → left ≡ before + 1 → slice_get pins before ≡ Some p → 0 < p.net → p.net ≤ count
    → length firsts ≡ count → ((n : ℕ) → n < count → slice_get firsts n ≡ Some (left + first_pin (drop left pins) (suc n)))
    → (n : ℕ) → n < count → slice_get (set firsts (p.net - 1) before) n ≡ Some (before + first_pin (drop before pins) (suc n))
firsts-step pins firsts count left before p next at some most long each n within = by (p.net == suc n) refl
  where
    here : drop before pins ≡ p ∷ drop (before + 1) pins
    here = drop-next pins before p at

    by : (b : Bool) → (p.net == suc n) ≡ b → slice_get (set firsts (p.net - 1) before) n ≡ Some (before + first_pin (drop before pins) (suc n))
    by true is =
        let place : p.net - 1 ≡ n = grind (arith, nat_tests) in
        let inside : n < length firsts = omega arith in
        let zero_on : first_pin (p ∷ drop (before + 1) pins) (suc n) ≡ 0 = first-on p (drop (before + 1) pins) (suc n) is in
        let all : before ≡ before + first_pin (drop before pins) (suc n) = omega (arith, zero_on, ap (λ (l : List Pin). first_pin l (suc n)) here) in
        ap (λ (k : ℕ). slice_get (set firsts k before) n) place ∙ get-set-same firsts n before inside
        ∙ ap (λ (k : ℕ). Some k) all
    by false is =
        let other : n ≢ p.net - 1 = λ same. absurd (differ is (omega (arith, same))) in
        let more : first_pin (p ∷ drop (before + 1) pins) (suc n) ≡ 1 + first_pin (drop (before + 1) pins) (suc n) = first-off p (drop (before + 1) pins) (suc n) is in
        let all : left + first_pin (drop left pins) (suc n) ≡ before + first_pin (drop before pins) (suc n) =
        omega (arith, more, ap (λ (l : List Pin). first_pin l (suc n)) here, ap (λ (k : ℕ). first_pin (drop k pins) (suc n)) next) in
        get-set-other firsts (p.net - 1) n before other ∙ each n within
        ∙ ap (λ (k : ℕ). Some k) all
      where
        differ : (p.net == suc n) ≡ false → p.net ≡ suc n → ⊥
        differ is same = grind (arith, nat_tests)

add-step : (net k : ℕ) → net + suc k ≡ suc net + k
add-step net k = omega arith

-- all pins are gone over
from-each : (pins : List Pin) (net count : ℕ) (xs : List ℕ) → length xs ≡ count → ((k : ℕ) → k < count → slice_get xs k ≡ Some (first_pin pins (net + k)))
    → xs ≡ first_pins_from pins net count
from-each pins net zero [] long each = refl
from-each pins net zero (x ∷ xs) long each = absurd (omega (arith, long))
from-each pins net (suc count) [] long each = absurd (omega (arith, long))
from-each pins net (suc count) (x ∷ xs) long each =
    ap₂ (λ (y : ℕ) (ys : List ℕ). y ∷ ys) (same_Some x (first_pin pins net) (each 0 (omega arith) ∙ ap (λ (k : ℕ). Some (first_pin pins k)) (add-zero net)))
    (from-each pins (suc net) count xs (omega (arith, long)) (λ k within. each (suc k) (omega arith) ∙ ap (λ (m : ℕ). Some (first_pin pins m)) (omega arith)))

pub firsts-done : (d : Netlist) (pins : List Pin) (firsts : List ℕ) (left : ℕ) → pins ≡ d.pins → left ≡ 0 → length firsts ≡ length d.nets
    → ((n : ℕ) → n < length d.nets → slice_get firsts n ≡ Some (left + first_pin (drop left pins) (suc n))) → firsts ≡ first_pins d
unfolding first_pins
firsts-done d pins firsts left are none long each =
    from-each d.pins 1 (length d.nets) firsts long (λ k within. each k within
    ∙ ap₂ (λ (l : ℕ) (ps : List Pin). Some (l + first_pin (drop l ps) (suc k))) none are ∙ whole k)
  where
    whole : (k : ℕ) → ◌≡◌ {A = Option ℕ} (Some (0 + first_pin d.pins (suc k))) (Some (first_pin d.pins (1 + k)))
    whole k =
        let next : suc k ≡ 1 + k = omega arith in
        let none_more : 0 + first_pin d.pins (suc k) ≡ first_pin d.pins (suc k) = omega arith in
        ap (λ (m : ℕ). Some m) none_more ∙ ap (λ (m : ℕ). Some (first_pin d.pins m)) next

-- the first pin of a net among them
from-at : (pins : List Pin) (net count k : ℕ) → k < count → slice_get (first_pins_from pins net count) k ≡ Some (first_pin pins (net + k))
from-at pins net zero k within = absurd (omega arith)
from-at pins net (suc count) zero within = ap (λ (m : ℕ). Some (first_pin pins m)) (sym (add-zero net))
from-at pins net (suc count) (suc k) within = from-at pins (suc net) count k (omega arith) ∙ ap (λ (m : ℕ). Some (first_pin pins m)) (sym (add-step net k))

pub firsts-at : (d : Netlist) (net : ℕ) → 0 < net → net ≤ length d.nets → slice_get (first_pins d) (net - 1) ≡ Some (first_pin d.pins net)
unfolding first_pins
firsts-at d net some most =
    let same : 1 + (net - 1) ≡ net = omega arith in
    from-at d.pins 1 (length d.nets) (net - 1) (omega arith) ∙ ap (λ (m : ℕ). Some (first_pin d.pins m)) same

-- all nets begin past the pins, where no pin is gone over
replicate-at : (m x n : ℕ) → n < m → slice_get (replicate m x) n ≡ Some x
replicate-at zero x n within = absurd (omega arith)
replicate-at (suc m) x zero within = refl
replicate-at (suc m) x (suc n) within = replicate-at m x n (omega arith)

pub firsts-start : (pins : List Pin) (nets : List (List ℕ)) (firsts : List ℕ) → firsts ≡ replicate (length nets) (length pins)
    → (length firsts ≡ length nets) × ((n : ℕ) → n < length nets → slice_get firsts n ≡ Some (length pins + first_pin (drop (length pins) pins) (suc n)))
firsts-start pins nets firsts made = (
  ap length made ∙ length-replicate (length nets) (length pins),
  λ n within. firsts-begun pins firsts n (slice_get firsts n) (ap (λ (l : List ℕ). slice_get l n) made ∙ replicate-at (length nets) (length pins) n within),
)

-- a pin has one of the nets
pub pin-net : (d : Netlist) → IsNetlist d → (n : ℕ) (p : Pin) → slice_get d.pins n ≡ Some p → (0 < p.net) × (p.net ≤ length d.nets)
pin-net d good n p at = all-get (λ (q : Pin). (0 < q.net) × (q.net ≤ length d.nets)) d.pins n p good.nets at
