use Rattle.std.proofs.Common.{◌≡◌, ◌↔◌, ◌<◌, ◌≤◌, ℕ, zero, suc, ◌+◌, ◌-◌, List, [], ◌∷◌, ◌++◌, length, map, Bool, true, false, cond, eqb, ◌||◌, Option, Some, None, refl, ap, sym, ◌∙◌, subst, arith, append_assoc, length-append, inl, inr}
use Rattle.std.proofs.lemmas.Bool.Decides.{nat_tests}
use Rattle.std.proofs.lemmas.Option.{slice_get_cases}
use Rattle.std.proofs.lemmas.List.{length-map}
use Rattle.std.specs.List.{AllByRecursion, list_any, slice_get}
use Rattle.std.specs.Option.{option_and_then}
use Rattle.std.specs.Prelude.{◌==◌}
use Rattle.std.specs.Str.{bytes_eq}
use Rattle.yal_reader.specs.declared.file.Call.{Call}
use Rattle.yal_reader.specs.declared.file.Module.{Module}
use Rattle.list_facts.specs.Names.{place_among}
use Rattle.list_facts.proofs.Different.{distinct-mentions, length-mentions, place-get}
use Rattle.list_facts.proofs.Mentioned.{any-mentions, get-place, place-below}
use Rattle.netlist_core.specs.Calls.{terminals_in, module_named}
use Rattle.design_model.specs.SameNet.{SameNet}
use Rattle.netlist_core.specs.SignalWords.{word_of}
use Rattle.netlist_core.specs.Signals.{PinWord, all_signals, nets_of, pin_in, signals_from, signals_of, words_of}
use Rattle.design_model.specs.declared.design.Pin.{Pin}
use Rattle.design_model.specs.declared.design.Terminal.{Terminal}
use Rattle.std_laws.proofs.Searches.{any-get}
use Rattle.std_laws.proofs.Distinct.{distinct-none}
use Rattle.std_laws.proofs.Every.{every-append, every-get, every-own}
use Rattle.std_laws.proofs.Bytes.{bytes_one}
use Rattle.std_laws.proofs.Places.{get-front}

-- a word that stands at a pin is the word of a net
any-net : (signals : List PinWord) (w : List ℕ) → list_any (bytes_eq w) (words_of signals) ≡ true → list_any (bytes_eq w) (nets_of signals) ≡ true
unfolding nets_of
any-net signals w h = any-mentions [] (words_of signals) w ∙ h

every-net : (signals all : List PinWord) → AllByRecursion (λ (s : PinWord). list_any (bytes_eq s.word) (words_of all) ≡ true) signals
    → AllByRecursion (λ (s : PinWord). list_any (bytes_eq s.word) (nets_of all) ≡ true) signals
every-net [] all h = tt
every-net (s ∷ ss) all h = (any-net all s.word h.0, every-net ss all h.1)

pub words-in : (signals : List PinWord) → AllByRecursion (λ (s : PinWord). list_any (bytes_eq s.word) (nets_of signals) ≡ true) signals
words-in signals = every-net signals signals (every-own (λ (s : PinWord). s.word) signals)

range-from : (nets : List (List ℕ)) (signals : List PinWord) → AllByRecursion (λ (s : PinWord). list_any (bytes_eq s.word) nets ≡ true) signals
    → AllByRecursion (λ (p : Pin). (0 < p.net) × (p.net ≤ length nets)) (map (pin_in nets) signals)
range-from nets [] h = tt
range-from nets (s ∷ ss) h = ((omega arith, below (place-below nets s.word h.0)), range-from nets ss h.1)
  where
    below : place_among nets s.word < length nets → place_among nets s.word + 1 ≤ length nets
    below b = omega arith

-- each pin's net is one of the nets
pub nets-range : (signals : List PinWord) → AllByRecursion (λ (p : Pin). (0 < p.net) × (p.net ≤ length (nets_of signals))) (map (pin_in (nets_of signals)) signals)
nets-range signals = range-from (nets_of signals) signals (words-in signals)

pin-of-word : (nets : List (List ℕ)) (n : ℕ) (w : List ℕ) (signals : List PinWord) → place_among nets w + 1 ≡ n → list_any (bytes_eq w) (words_of signals) ≡ true
    → list_any (λ (p : Pin). p.net == n) (map (pin_in nets) signals) ≡ true
pin-of-word nets n w [] at h = h
pin-of-word nets n w (s ∷ ss) at h = by (bytes_eq w s.word) (λ is. own (bytes_one w s.word is)) (λ h. pin-of-word nets n w ss at h) h
  where
    own : w ≡ s.word → eqb (place_among nets s.word + 1) n ≡ true
    own same = subst (λ v. eqb (place_among nets v + 1) n ≡ true) same (equal (place_among nets w + 1) n at)
      where
        equal : (a b : ℕ) → a ≡ b → eqb a b ≡ true
        equal a b e = grind (arith, nat_tests)

    or_true : (a b : Bool) → b ≡ true → (a || b) ≡ true
    or_true true b e = refl
    or_true false b e = e

    by : (b : Bool) → (b ≡ true → eqb (place_among nets s.word + 1) n ≡ true)
        → (list_any (bytes_eq w) (words_of ss) ≡ true → list_any (λ (p : Pin). p.net == n) (map (pin_in nets) ss) ≡ true)
        → (b || list_any (bytes_eq w) (words_of ss)) ≡ true
        → (eqb (place_among nets s.word + 1) n || list_any (λ (p : Pin). p.net == n) (map (pin_in nets) ss)) ≡ true
    by true here more h = ap (λ (b : Bool). b || list_any (λ (p : Pin). p.net == n) (map (pin_in nets) ss)) (here refl)
    by false here more h = or_true (eqb (place_among nets s.word + 1) n) (list_any (λ (p : Pin). p.net == n) (map (pin_in nets) ss)) (more h)

-- each net has a pin
pub nets-used : (signals : List PinWord) (n : ℕ) → 0 < n → n ≤ length (nets_of signals)
    → list_any (λ (p : Pin). p.net == n) (map (pin_in (nets_of signals)) signals) ≡ true
unfolding nets_of
nets-used signals n some few = by (slice_get (nets_of signals) (n - 1)) refl
  where
    past : slice_get (nets_of signals) (n - 1) ≡ None → ⊥
    past none = absurd (elim (slice_get_cases (nets_of signals) (n - 1)).1 [ inl a ↦ no a.2 | inr b ↦ omega arith ])
      where
        no : {w : List ℕ} → slice_get (nets_of signals) (n - 1) ≡ Some w → ⊥
        no e = cc

    by : (o : Option (List ℕ)) → slice_get (nets_of signals) (n - 1) ≡ o → list_any (λ (p : Pin). p.net == n) (map (pin_in (nets_of signals)) signals) ≡ true
    by None is = absurd (past is)
    by (Some w) is =
        let place = place-get (nets_of signals) (n - 1) w (distinct-mentions [] (words_of signals) distinct-none) is in
        pin-of-word (nets_of signals) n w signals (omega arith) (sym (any-mentions [] (words_of signals) w) ∙ any-get (nets_of signals) (n - 1) w is)

-- a word stands at its pin's instance and terminal in these calls
abbrev pub SaysWord : List Call → PinWord → Type 0
SaysWord calls s = option_and_then (λ (call : Call). slice_get call.signals s.terminal) (slice_get calls s.instance) ≡ Some s.word

from-says : (calls : List Call) (i : ℕ) (call : Call) → slice_get calls i ≡ Some call → (t : ℕ) (ts : List Terminal) (front ws : List (List ℕ))
    → t ≡ length front → call.signals ≡ front ++ ws → AllByRecursion (SaysWord calls) (signals_from i t ts ws)
from-says calls i call at t [] front ws here all = tt
from-says calls i call at t (x ∷ xs) front [] here all = tt
from-says calls i call at t (x ∷ xs) front (w ∷ ws) here all =
    by x.power (from-says calls i call at (t + 1) xs (front ++ w ∷ []) ws (omega (arith, length-append front (w ∷ []))) (all ∙ sym (append_assoc front (w ∷ []) ws)))
  where
    own : SaysWord calls (record { instance = i; terminal = t; word = w })
    own = ap (option_and_then (λ (call : Call). slice_get call.signals t)) at ∙ ap (λ (l : List (List ℕ)). slice_get l t) all
        ∙ ap (slice_get (front ++ w ∷ ws)) here ∙ get-front front w ws

    by : (b : Bool) → AllByRecursion (SaysWord calls) (signals_from i (t + 1) xs ws)
        → AllByRecursion (SaysWord calls) (cond b (signals_from i (t + 1) xs ws) (record { instance = i; terminal = t; word = w } ∷ signals_from i (t + 1) xs ws))
    by true more = more
    by false more = (own, more)

of-says : (modules : List Module) (all front calls : List Call) (i : ℕ) → i ≡ length front → all ≡ front ++ calls → AllByRecursion (SaysWord all) (signals_of modules i calls)
of-says modules all front [] i here is = tt
of-says modules all front (c ∷ cs) i here is =
    every-append (SaysWord all) (signals_from i 0 (terminals_in (module_named modules c.«module»)) c.signals) (signals_of modules (i + 1) cs)
    (from-says all i c (ap (λ (l : List Call). slice_get l i) is ∙ ap (slice_get (front ++ c ∷ cs)) here ∙ get-front front c cs)
    0 (terminals_in (module_named modules c.«module»)) [] c.signals refl refl)
    (of-says modules all (front ++ c ∷ []) cs (i + 1) (omega (arith, length-append front (c ∷ []))) (is ∙ sym (append_assoc front (c ∷ []) cs)))

-- each word stands in its call at its terminal
pub words-said : (modules : List Module) (calls : List Call) → AllByRecursion (SaysWord calls) (all_signals modules calls)
unfolding all_signals
words-said modules calls = of-says modules calls [] calls 0 refl refl

-- a pin comes from a word
source-of : (nets : List (List ℕ)) (signals : List PinWord) (n : ℕ) (a : Pin) → slice_get (map (pin_in nets) signals) n ≡ Some a
    → (s : PinWord) × (slice_get signals n ≡ Some s) × (a ≡ pin_in nets s)
source-of nets [] n a is = absurd (no is)
  where
    no : ◌≡◌ {A = Option Pin} None (Some a) → ⊥
    no e = cc
source-of nets (s ∷ ss) zero a is = (s, refl, same is)
  where
    same : ◌≡◌ {A = Option Pin} (Some (pin_in nets s)) (Some a) → a ≡ pin_in nets s
    same e = cc
source-of nets (s ∷ ss) (suc n) a is = source-of nets ss n a is

-- two pins are in one net exactly where their words are equal
pub nets-agree : (calls : List Call) (signals : List PinWord) → AllByRecursion (SaysWord calls) signals → SameNet (word_of calls) (map (pin_in (nets_of signals)) signals)
nets-agree calls signals said p q a b at_p at_q =
    let from_p = source-of (nets_of signals) signals p a at_p in
    let from_q = source-of (nets_of signals) signals q b at_q in
    by from_p.0 from_q.0 a b from_p.2 from_q.2
    (every-get (SaysWord calls) signals p from_p.0 said from_p.1) (every-get (SaysWord calls) signals q from_q.0 said from_q.1)
    (every-get (λ (s : PinWord). list_any (bytes_eq s.word) (nets_of signals) ≡ true) signals p from_p.0 (words-in signals) from_p.1)
    (every-get (λ (s : PinWord). list_any (bytes_eq s.word) (nets_of signals) ≡ true) signals q from_q.0 (words-in signals) from_q.1)
  where
    by : (s t : PinWord) (a b : Pin) → a ≡ pin_in (nets_of signals) s → b ≡ pin_in (nets_of signals) t → SaysWord calls s → SaysWord calls t
        → list_any (bytes_eq s.word) (nets_of signals) ≡ true → list_any (bytes_eq t.word) (nets_of signals) ≡ true
        → (a.net ≡ b.net) ↔ (word_of calls a ≡ word_of calls b)
    by s t a b is_a is_b says_s says_t in_s in_t =
        let word_a : word_of calls a ≡ Some s.word = ap (word_of calls) is_a ∙ says_s in
        let word_b : word_of calls b ≡ Some t.word = ap (word_of calls) is_b ∙ says_t in
        let net_a : a.net ≡ place_among (nets_of signals) s.word + 1 = ap (λ (p : Pin). p.net) is_a in
        let net_b : b.net ≡ place_among (nets_of signals) t.word + 1 = ap (λ (p : Pin). p.net) is_b in (
          λ same. word_a ∙ sym (get-place (nets_of signals) s.word in_s) ∙ ap (slice_get (nets_of signals)) (omega arith) ∙ get-place (nets_of signals) t.word in_t ∙ sym word_b,
          λ same. net_a ∙ ap (λ (w : List ℕ). place_among (nets_of signals) w + 1) (one s.word t.word (sym word_a ∙ same ∙ word_b)) ∙ sym net_b,
        )
      where
        one : (v w : List ℕ) → Some v ≡ Some w → v ≡ w
        one v w e = cc

-- there are at most as many nets as pins
pub few-nets : (signals : List PinWord) → length (nets_of signals) ≤ length signals
unfolding nets_of
few-nets signals = omega (arith, length-mentions (words_of signals), length-map signals (λ (s : PinWord). s.word))
