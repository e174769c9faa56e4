use Rattle.std.proofs.Common.{◌≡◌, ◌≢◌, ◌<◌, ◌≤◌, ℕ, zero, suc, ◌+◌, List, [], ◌∷◌, ◌++◌, length, map, Bool, true, false, cond, Option, Some, None, refl, ap, sym, ◌∙◌, subst, arith, append_assoc, length-append}
use Rattle.std.proofs.lemmas.Option.{slice_get-map}
use Rattle.std.specs.List.{AllByRecursion, slice_get}
use Rattle.std.specs.Option.{option_map}
use Rattle.design_model.specs.Netlist.{IsNetlist, Netlist, all_pins, pins_from, terminals_at}
use Rattle.design_model.specs.PinOrder.{IsAscending, IsPinAt, instance_terminals, is_less, kind_terminals, pin_pair, power_at}
use Rattle.design_model.specs.declared.design.CellKind.{CellKind}
use Rattle.design_model.specs.declared.design.Inst.{Inst}
use Rattle.design_model.specs.declared.design.Terminal.{Terminal}
use Rattle.design_model.proofs.PairOrder.{less-first, less-second}
use Rattle.std_laws.proofs.Every.{every-append, every-get, every-left, every-right, every-weaker}
use Rattle.std_laws.proofs.Places.{get-front}

-- the pins of one instance from terminal t on have terminals from t on
from-bounds : (i t : ℕ) (ts : List Terminal) → AllByRecursion (λ (q : ℕ × ℕ). (q.0 ≡ i) × (t ≤ q.1)) (pins_from i t ts)
from-bounds i t [] = tt
from-bounds i t (x ∷ xs) =
    by x.power (every-weaker (λ (q : ℕ × ℕ). (q.0 ≡ i) × (t + 1 ≤ q.1)) (λ (q : ℕ × ℕ). (q.0 ≡ i) × (t ≤ q.1)) (λ q h. (h.0, lower t q.1 h.1)) (pins_from i (t + 1) xs) (from-bounds i (t + 1) xs))
  where
    lower : (a b : ℕ) → a + 1 ≤ b → a ≤ b
    lower a b h = omega arith

    by : (b : Bool) → AllByRecursion (λ (q : ℕ × ℕ). (q.0 ≡ i) × (t ≤ q.1)) (pins_from i (t + 1) xs)
        → AllByRecursion (λ (q : ℕ × ℕ). (q.0 ≡ i) × (t ≤ q.1)) (cond b (pins_from i (t + 1) xs) ((i, t) ∷ pins_from i (t + 1) xs))
    by true more = more
    by false more = ((refl, omega arith), more)

from-ascending : (i t : ℕ) (ts : List Terminal) → IsAscending (pins_from i t ts)
from-ascending i t [] = tt
from-ascending i t (x ∷ xs) = by x.power (from-ascending i (t + 1) xs)
  where
    lower : (a b : ℕ) → a + 1 ≤ b → a < b
    lower a b h = omega arith

    by : (b : Bool) → IsAscending (pins_from i (t + 1) xs) → IsAscending (cond b (pins_from i (t + 1) xs) ((i, t) ∷ pins_from i (t + 1) xs))
    by true more = more
    by false more = (
      every-weaker (λ (q : ℕ × ℕ). (q.0 ≡ i) × (t + 1 ≤ q.1)) (λ (q : ℕ × ℕ). is_less (i, t) q ≡ true)
          (λ q h. less-second (i, t) q (sym h.0) (lower t q.1 h.1)) (pins_from i (t + 1) xs) (from-bounds i (t + 1) xs),
      more,
    )

all-bounds : (kinds : List CellKind) (n : ℕ) (insts : List Inst) → AllByRecursion (λ (q : ℕ × ℕ). n ≤ q.0) (all_pins kinds n insts)
all-bounds kinds n [] = tt
all-bounds kinds n (x ∷ xs) =
    every-append (λ (q : ℕ × ℕ). n ≤ q.0) (pins_from n 0 (terminals_at kinds x.kind)) (all_pins kinds (n + 1) xs)
    (every-weaker (λ (q : ℕ × ℕ). (q.0 ≡ n) × (0 ≤ q.1)) (λ (q : ℕ × ℕ). n ≤ q.0) (λ q h. same n q.0 h.0) (pins_from n 0 (terminals_at kinds x.kind)) (from-bounds n 0 (terminals_at kinds x.kind)))
    (every-weaker (λ (q : ℕ × ℕ). n + 1 ≤ q.0) (λ (q : ℕ × ℕ). n ≤ q.0) (λ q h. lower n q.0 h) (all_pins kinds (n + 1) xs) (all-bounds kinds (n + 1) xs))
  where
    same : (a b : ℕ) → b ≡ a → a ≤ b
    same a b h = omega arith

    lower : (a b : ℕ) → a + 1 ≤ b → a ≤ b
    lower a b h = omega arith

ascending-append : (xs ys : List (ℕ × ℕ)) → IsAscending xs → IsAscending ys
    → AllByRecursion (λ (x : ℕ × ℕ). AllByRecursion (λ (y : ℕ × ℕ). is_less x y ≡ true) ys) xs → IsAscending (xs ++ ys)
ascending-append [] ys up more h = more
ascending-append (x ∷ xs) ys up more h = (every-append (λ (y : ℕ × ℕ). is_less x y ≡ true) xs ys up.0 h.0, ascending-append xs ys up.1 more h.1)

all-ascending : (kinds : List CellKind) (n : ℕ) (insts : List Inst) → IsAscending (all_pins kinds n insts)
all-ascending kinds n [] = tt
all-ascending kinds n (x ∷ xs) =
    ascending-append (pins_from n 0 (terminals_at kinds x.kind)) (all_pins kinds (n + 1) xs) (from-ascending n 0 (terminals_at kinds x.kind)) (all-ascending kinds (n + 1) xs)
    (every-weaker (λ (q : ℕ × ℕ). (q.0 ≡ n) × (0 ≤ q.1)) (λ (p : ℕ × ℕ). AllByRecursion (λ (q : ℕ × ℕ). is_less p q ≡ true) (all_pins kinds (n + 1) xs))
    (λ p at. every-weaker (λ (q : ℕ × ℕ). n + 1 ≤ q.0) (λ (q : ℕ × ℕ). is_less p q ≡ true) (λ q later. less-first p q (below p.0 q.0 at.0 later)) (all_pins kinds (n + 1) xs) (all-bounds kinds (n + 1) xs))
    (pins_from n 0 (terminals_at kinds x.kind)) (from-bounds n 0 (terminals_at kinds x.kind)))
  where
    below : (a b : ℕ) → a ≡ n → n + 1 ≤ b → a < b
    below a b at later = omega arith

-- the pins of a design stand in order of their instances, then terminals
pub pins-ascending : (d : Netlist) → IsNetlist d → IsAscending (map pin_pair d.pins)
pins-ascending d good = subst (λ pairs. IsAscending pairs) (sym good.pins) (all-ascending d.kinds 0 d.instances)

-- the pins of one instance are at terminals that are no power
from-free : (all : List Terminal) (i t : ℕ) (front ts : List Terminal) → t ≡ length front → all ≡ front ++ ts
    → AllByRecursion (λ (q : ℕ × ℕ). (q.0 ≡ i) × (power_at all q.1 ≡ Some false)) (pins_from i t ts)
from-free all i t front [] here is = tt
from-free all i t front (x ∷ xs) here is =
    by x.power refl (from-free all i (t + 1) (front ++ x ∷ []) xs (omega (arith, length-append front (x ∷ []))) (is ∙ sym (append_assoc front (x ∷ []) xs)))
  where
    at : power_at all t ≡ Some x.power
    at = ap (λ (l : List Terminal). power_at l t) is ∙ ap (power_at (front ++ x ∷ xs)) here ∙ ap (option_map (λ (t : Terminal). t.power)) (get-front front x xs)

    by : (b : Bool) → x.power ≡ b → AllByRecursion (λ (q : ℕ × ℕ). (q.0 ≡ i) × (power_at all q.1 ≡ Some false)) (pins_from i (t + 1) xs)
        → AllByRecursion (λ (q : ℕ × ℕ). (q.0 ≡ i) × (power_at all q.1 ≡ Some false)) (cond b (pins_from i (t + 1) xs) ((i, t) ∷ pins_from i (t + 1) xs))
    by true power more = more
    by false power more = ((refl, at ∙ ap (λ (b : Bool). Some b) power), more)

all-free : (kinds : List CellKind) (all front insts : List Inst) (n : ℕ) → n ≡ length front → all ≡ front ++ insts
    → AllByRecursion (λ (q : ℕ × ℕ). power_at (kind_terminals kinds (slice_get all q.0)) q.1 ≡ Some false) (all_pins kinds n insts)
all-free kinds all front [] n here is = tt
all-free kinds all front (x ∷ xs) n here is =
    every-append (λ (q : ℕ × ℕ). power_at (kind_terminals kinds (slice_get all q.0)) q.1 ≡ Some false) (pins_from n 0 (terminals_at kinds x.kind)) (all_pins kinds (n + 1) xs)
    (every-weaker (λ (q : ℕ × ℕ). (q.0 ≡ n) × (power_at (terminals_at kinds x.kind) q.1 ≡ Some false)) (λ (q : ℕ × ℕ). power_at (kind_terminals kinds (slice_get all q.0)) q.1 ≡ Some false)
    (λ q h. ap (λ (k : ℕ). power_at (kind_terminals kinds (slice_get all k)) q.1) h.0 ∙ ap (λ (o : Option Inst). power_at (kind_terminals kinds o) q.1) at ∙ h.1)
    (pins_from n 0 (terminals_at kinds x.kind)) (from-free (terminals_at kinds x.kind) n 0 [] (terminals_at kinds x.kind) refl refl))
    (all-free kinds all (front ++ x ∷ []) xs (n + 1) (omega (arith, length-append front (x ∷ []))) (is ∙ sym (append_assoc front (x ∷ []) xs)))
  where
    at : slice_get all n ≡ Some x
    at = ap (λ (l : List Inst). slice_get l n) is ∙ ap (slice_get (front ++ x ∷ xs)) here ∙ get-front front x xs

-- a pin is at a terminal that is no power
pub pin-free : (d : Netlist) → IsNetlist d → (n instance terminal : ℕ) → IsPinAt d.pins n instance terminal
    → power_at (instance_terminals d instance) terminal ≡ Some false
pin-free d good n instance terminal at =
    every-get (λ (q : ℕ × ℕ). power_at (kind_terminals d.kinds (slice_get d.instances q.0)) q.1 ≡ Some false) (all_pins d.kinds 0 d.instances) n (instance, terminal)
    (all-free d.kinds d.instances [] d.instances 0 refl refl)
    (ap (λ (pairs : List (ℕ × ℕ)). slice_get pairs n) (sym good.pins) ∙ slice_get-map pin_pair d.pins n ∙ at)

-- a terminal that is no power is among the pins of its instance
has-from : (i t : ℕ) (ts : List Terminal) (k : ℕ) (x : Terminal) (m : ℕ) → m ≡ t + k → slice_get ts k ≡ Some x → x.power ≡ false
    → AllByRecursion (λ (p : ℕ × ℕ). p ≢ (i, m)) (pins_from i t ts) → ⊥
has-from i t [] k x m is at free h = no at
  where
    no : ◌≡◌ {A = Option Terminal} None (Some x) → ⊥
    no e = cc
has-from i t (y ∷ ys) zero x m is at free h =
    (subst (λ b. AllByRecursion (λ (p : ℕ × ℕ). p ≢ (i, m)) (cond b (pins_from i (t + 1) ys) ((i, t) ∷ pins_from i (t + 1) ys))) power h).0
    (ap (λ (n : ℕ). (i, n)) (here is))
  where
    same : ◌≡◌ {A = Option Terminal} (Some y) (Some x) → y ≡ x
    same e = cc

    power : y.power ≡ false
    power = ap (λ (t : Terminal). t.power) (same at) ∙ free

    here : m ≡ t + 0 → t ≡ m
    here e = omega arith
has-from i t (y ∷ ys) (suc k) x m is at free h =
    has-from i (t + 1) ys k x m (omega arith) at free (by y.power h)
  where
    by : (b : Bool) → AllByRecursion (λ (p : ℕ × ℕ). p ≢ (i, m)) (cond b (pins_from i (t + 1) ys) ((i, t) ∷ pins_from i (t + 1) ys))
        → AllByRecursion (λ (p : ℕ × ℕ). p ≢ (i, m)) (pins_from i (t + 1) ys)
    by true h = h
    by false h = h.1

has-pin : (kinds : List CellKind) (n : ℕ) (insts : List Inst) (k : ℕ) (inst : Inst) (t : ℕ) (x : Terminal) (m : ℕ) → m ≡ n + k
    → slice_get insts k ≡ Some inst → slice_get (terminals_at kinds inst.kind) t ≡ Some x → x.power ≡ false
    → AllByRecursion (λ (p : ℕ × ℕ). p ≢ (m, t)) (all_pins kinds n insts) → ⊥
has-pin kinds n [] k inst t x m is at_inst at free h = no at_inst
  where
    no : ◌≡◌ {A = Option Inst} None (Some inst) → ⊥
    no e = cc
has-pin kinds n (y ∷ ys) zero inst t x m is at_inst at free h =
    has-from n 0 (terminals_at kinds y.kind) t x t (omega arith) (subst (λ (i : Inst). slice_get (terminals_at kinds i.kind) t ≡ Some x) (sym (same at_inst)) at) free
    (every-left (λ (p : ℕ × ℕ). p ≢ (n, t)) (pins_from n 0 (terminals_at kinds y.kind)) (all_pins kinds (n + 1) ys)
    (subst (λ (i : ℕ). AllByRecursion (λ (p : ℕ × ℕ). p ≢ (i, t)) (all_pins kinds n (y ∷ ys))) (here is) h))
  where
    same : ◌≡◌ {A = Option Inst} (Some y) (Some inst) → y ≡ inst
    same e = cc

    here : m ≡ n + 0 → m ≡ n
    here e = omega arith
has-pin kinds n (y ∷ ys) (suc k) inst t x m is at_inst at free h =
    has-pin kinds (n + 1) ys k inst t x m (omega arith) at_inst at free
    (every-right (λ (p : ℕ × ℕ). p ≢ (m, t)) (pins_from n 0 (terminals_at kinds y.kind)) (all_pins kinds (n + 1) ys) h)

-- where no pin is at a terminal of an instance, that terminal is power
pub no-pin-power : (d : Netlist) → IsNetlist d → (instance terminal : ℕ) → terminal < length (instance_terminals d instance)
    → AllByRecursion (λ (p : ℕ × ℕ). p ≢ (instance, terminal)) (map pin_pair d.pins) → power_at (instance_terminals d instance) terminal ≡ Some true
no-pin-power d good instance terminal few none = by (slice_get d.instances instance) refl few
  where
    inside : (ts : List Terminal) (o : Option Terminal) → slice_get ts terminal ≡ o → terminal < length ts
        → ((x : Terminal) → slice_get ts terminal ≡ Some x → x.power ≡ false → ⊥) → option_map (λ (t : Terminal). t.power) o ≡ Some true
    inside ts None is few free = absurd (past ts terminal is few)
      where
        past : (ts : List Terminal) (n : ℕ) → slice_get ts n ≡ None → n < length ts → ⊥
        past [] n e h = omega (arith, h)
        past (t ∷ ts) zero e h = cc
        past (t ∷ ts) (suc n) e h = past ts n e (omega (arith, h))
    inside ts (Some x) is few free = power x.power refl
      where
        power : (b : Bool) → x.power ≡ b → Some x.power ≡ Some true
        power true e = ap (λ (b : Bool). Some b) e
        power false e = absurd (free x is e)

    by : (o : Option Inst) → slice_get d.instances instance ≡ o → terminal < length (kind_terminals d.kinds o) → power_at (kind_terminals d.kinds o) terminal ≡ Some true
    by None is few = absurd (omega (arith, few))
    by (Some i) is few =
        inside (terminals_at d.kinds i.kind) (slice_get (terminals_at d.kinds i.kind) terminal) refl few (λ x at free.
        has-pin d.kinds 0 d.instances instance i terminal x instance (omega arith) is at free
        (subst (λ pairs. AllByRecursion (λ (p : ℕ × ℕ). p ≢ (instance, terminal)) pairs) good.pins none))
