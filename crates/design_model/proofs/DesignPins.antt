use Rattle.std.proofs.Common.{◌≡◌, ◌⊎◌, ◌<◌, ◌≤◌, ℕ, zero, suc, ◌+◌, List, [], ◌∷◌, length, map, filter, Bool, true, false, ◌&&◌, eqb, ltb, cond, Some, refl, ap, sym, ◌∙◌, subst, inl, inr, arith, Contains}
use Rattle.std.specs.Prelude.{◌==◌}
use Rattle.std.proofs.lemmas.Bool.{and_from, and_parts, eq-eqb, eqb-true, ltb-true, or_cases}
use Rattle.std.proofs.lemmas.List.Elements.{All-from_recursion}
use Rattle.std.proofs.lemmas.Option.{none-some, same_Some, slice_get-map}
use Rattle.std.specs.List.{AllByRecursion, find, slice_get}
use Rattle.std.specs.Option.{option_map}
use Rattle.design_model.specs.Netlist.{IsNetlist, Netlist, all_pins, pins_from, terminals_at}
use Rattle.design_model.specs.PinOrder.{IsAscending, is_less, pin_pair}
use Rattle.design_model.specs.declared.design.CellKind.{CellKind}
use Rattle.design_model.specs.declared.design.Inst.{Inst}
use Rattle.design_model.specs.declared.design.Pin.{Pin}
use Rattle.design_model.specs.declared.design.Terminal.{Terminal}
use Rattle.design_model.proofs.PairOrder.{less-is}
use Rattle.design_model.proofs.PinsInOrder.{pins-ascending}
use Rattle.std_laws.proofs.Counts.{few-numbers}
use Rattle.std_laws.proofs.Every.{every-append, every-from-get, every-get, every-weaker}
use Rattle.std_laws.proofs.Members.{all-get, contains-get, find-passes, find-some}

pins-of-one : (i t : ℕ) (ts : List Terminal) → AllByRecursion (λ (q : ℕ × ℕ). q.0 ≡ i) (pins_from i t ts)
pins-of-one i t [] = tt
pins-of-one i t (x ∷ xs) = by x.power (pins-of-one i (t + 1) xs)
  where
    by : (b : Bool) → AllByRecursion (λ (q : ℕ × ℕ). q.0 ≡ i) (pins_from i (t + 1) xs)
        → AllByRecursion (λ (q : ℕ × ℕ). q.0 ≡ i) (cond b (pins_from i (t + 1) xs) ((i, t) ∷ pins_from i (t + 1) xs))
    by true more = more
    by false more = (refl, more)

pins-below : (kinds : List CellKind) (n : ℕ) (insts : List Inst) → AllByRecursion (λ (q : ℕ × ℕ). q.0 < n + length insts) (all_pins kinds n insts)
pins-below kinds n [] = tt
pins-below kinds n (x ∷ xs) =
    every-append (λ (q : ℕ × ℕ). q.0 < n + length (x ∷ xs)) (pins_from n 0 (terminals_at kinds x.kind)) (all_pins kinds (n + 1) xs)
    (every-weaker (λ (q : ℕ × ℕ). q.0 ≡ n) (λ (q : ℕ × ℕ). q.0 < n + length (x ∷ xs)) (λ q h. here q.0 h) (pins_from n 0 (terminals_at kinds x.kind))
    (pins-of-one n 0 (terminals_at kinds x.kind)))
    (every-weaker (λ (q : ℕ × ℕ). q.0 < (n + 1) + length xs) (λ (q : ℕ × ℕ). q.0 < n + length (x ∷ xs)) (λ q h. later q.0 h) (all_pins kinds (n + 1) xs)
    (pins-below kinds (n + 1) xs))
  where
    here : (k : ℕ) → k ≡ n → k < n + suc (length xs)
    here k h = omega arith

    later : (k : ℕ) → k < (n + 1) + length xs → k < n + suc (length xs)
    later k h = omega arith

-- a pin is of one of the instances
pub pin-within : (d : Netlist) → IsNetlist d → (n : ℕ) (p : Pin) → slice_get d.pins n ≡ Some p → p.instance < length d.instances
pin-within d good n p at =
    below p.instance (every-get (λ (q : ℕ × ℕ). q.0 < 0 + length d.instances) (all_pins d.kinds 0 d.instances) n (p.instance, p.terminal) (pins-below d.kinds 0 d.instances)
    (ap (λ (pairs : List (ℕ × ℕ)). slice_get pairs n) (sym good.pins) ∙ slice_get-map (λ (q : Pin). (q.instance, q.terminal)) d.pins n
    ∙ ap (option_map (λ (q : Pin). (q.instance, q.terminal))) at))
  where
    below : (k : ℕ) → k < 0 + length d.instances → k < length d.instances
    below k h = omega arith

-- all pins are of its instances
pub pins-within : (d : Netlist) → IsNetlist d → AllByRecursion (λ (p : Pin). p.instance < length d.instances) d.pins
pins-within d good = every-from-get (λ (p : Pin). p.instance < length d.instances) d.pins (pin-within d good)

-- a design has no more nets than pins
pub nets-few : (d : Netlist) → IsNetlist d → length d.nets ≤ 200000
nets-few d is = let many : length d.nets ≤ length d.pins = few-numbers (λ (p : Pin). p.net) (length d.nets) d.pins is.used in omega (arith, is.few_pins)

-- no pair is less than itself
less-other : (x : ℕ × ℕ) → is_less x x ≡ true → ⊥
less-other x is =
    elim (or_cases (ltb x.0 x.0) (eqb x.0 x.0 && ltb x.1 x.1) is) [
      | inl less ↦ let h = ltb-true x.0 x.0 less in omega arith
      | inr less ↦ let h = ltb-true x.1 x.1 (and_parts (eqb x.0 x.0) (ltb x.1 x.1) less).1 in omega arith
    ]

-- a pair of ascending ones stands once
ascending-once : (xs : List (ℕ × ℕ)) → IsAscending xs → (i j : ℕ) (x : ℕ × ℕ) → slice_get xs i ≡ Some x → slice_get xs j ≡ Some x → i ≡ j
ascending-once [] up i j x first second = absurd (none-some x first)
ascending-once (y ∷ ys) up zero zero x first second = refl
ascending-once (y ∷ ys) up zero (suc j) x first second =
    let same : y ≡ x = same_Some y x first in
    let less : is_less y x ≡ true = all-get (λ (z : ℕ × ℕ). is_less y z ≡ true) ys j x (All-from_recursion (λ (z : ℕ × ℕ). is_less y z ≡ true) ys up.0) second in
    absurd (less-other x (subst (λ (z : ℕ × ℕ). is_less z x ≡ true) same less))
ascending-once (y ∷ ys) up (suc i) zero x first second =
    let same : y ≡ x = same_Some y x second in
    let less : is_less y x ≡ true = all-get (λ (z : ℕ × ℕ). is_less y z ≡ true) ys i x (All-from_recursion (λ (z : ℕ × ℕ). is_less y z ≡ true) ys up.0) first in
    absurd (less-other x (subst (λ (z : ℕ × ℕ). is_less z x ≡ true) same less))
ascending-once (y ∷ ys) up (suc i) (suc j) x first second = ap suc (ascending-once ys up.1 i j x first second)

-- a pin of a design is its instance and its terminal
pub same-pin : (d : Netlist) → IsNetlist d → (p q : Pin) → Contains d.pins p → Contains d.pins q → p.instance ≡ q.instance → p.terminal ≡ q.terminal → p ≡ q
same-pin d good p q first second instance terminal =
    let pair : ◌≡◌ {A = ℕ × ℕ} (pin_pair q) (pin_pair p) = cc in
    let at_p : slice_get (map pin_pair d.pins) first.0 ≡ Some (pin_pair p) = slice_get-map pin_pair d.pins first.0 ∙ ap (option_map pin_pair) (contains-get d.pins p first) in
    let at_q : slice_get (map pin_pair d.pins) second.0 ≡ Some (pin_pair p) =
    slice_get-map pin_pair d.pins second.0 ∙ ap (option_map pin_pair) (contains-get d.pins q second) ∙ ap (λ (x : ℕ × ℕ). Some x) pair in
    let one : first.0 ≡ second.0 = ascending-once (map pin_pair d.pins) (pins-ascending d good) first.0 second.0 (pin_pair p) at_p at_q in
    same_Some p q (sym (contains-get d.pins p first) ∙ ap (slice_get d.pins) one ∙ contains-get d.pins q second)

-- a pin of a design is the one that is found by its instance and terminal
pub pin-found : (d : Netlist) → IsNetlist d → (p : Pin) → Contains d.pins p → find (λ (q : Pin). q.instance == p.instance && q.terminal == p.terminal) d.pins ≡ Some p
pin-found d good p listed =
    let own = and_from (eqb p.instance p.instance) (eqb p.terminal p.terminal) (eq-eqb p.instance p.instance refl) (eq-eqb p.terminal p.terminal refl) in
    let found = find-some (λ (q : Pin). eqb q.instance p.instance && eqb q.terminal p.terminal) d.pins p listed own in
    let passes = find-passes (λ (q : Pin). eqb q.instance p.instance && eqb q.terminal p.terminal) d.pins found.0 found.1 in
    let parts = and_parts (eqb found.0.instance p.instance) (eqb found.0.terminal p.terminal) passes.0 in
    let same = same-pin d good found.0 p passes.1 listed (eqb-true found.0.instance p.instance parts.0) (eqb-true found.0.terminal p.terminal parts.1) in
    found.1 ∙ ap (λ (q : Pin). Some q) same

-- what holds of the pairs of pins holds of those that a filter keeps
kept-pairs : (P : ℕ × ℕ → Type 0) (test : Pin → Bool) (pins : List Pin) → AllByRecursion P (map pin_pair pins) → AllByRecursion P (map pin_pair (filter test pins))
kept-pairs P test [] all = tt
kept-pairs P test (p ∷ pins) all = by (test p) (kept-pairs P test pins all.1)
  where
    by : (b : Bool) → AllByRecursion P (map pin_pair (filter test pins)) → AllByRecursion P (map pin_pair (cond b (p ∷ filter test pins) (filter test pins)))
    by true more = (all.0, more)
    by false more = more

-- pins in order stay so in a filter
pub kept-ascending : (test : Pin → Bool) (pins : List Pin) → IsAscending (map pin_pair pins) → IsAscending (map pin_pair (filter test pins))
kept-ascending test [] up = tt
kept-ascending test (p ∷ pins) up = by (test p) (kept-ascending test pins up.1)
  where
    by : (b : Bool) → IsAscending (map pin_pair (filter test pins)) → IsAscending (map pin_pair (cond b (p ∷ filter test pins) (filter test pins)))
    by true more = (kept-pairs (λ (q : ℕ × ℕ). is_less (pin_pair p) q ≡ true) test pins up.0, more)
    by false more = more

-- the first two of pins in order are different
pub first-two : (p q : Pin) (pins : List Pin) → IsAscending (map pin_pair (p ∷ q ∷ pins)) → p.instance ≡ q.instance → p.terminal ≡ q.terminal → ⊥
first-two p q pins up = by (less-is (pin_pair p) (pin_pair q) up.0.0)
  where
    by : (p.instance < q.instance) ⊎ ((p.instance ≡ q.instance) × (p.terminal < q.terminal)) → p.instance ≡ q.instance → p.terminal ≡ q.terminal → ⊥
    by (inl less) = λ same one. omega arith
    by (inr less) = λ same one. omega (arith, less.1)
