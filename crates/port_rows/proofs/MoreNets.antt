use Rattle.std.proofs.Common.{◌≡◌, ◌<◌, ◌≤◌, ℕ, zero, suc, ◌+◌, ◌-◌, List, [], ◌∷◌, ◌++◌, length, map, Bool, true, false, cond, eqb, ◌||◌, Option, Some, None, fold, refl, ap, sym, ◌∙◌, subst, arith, append_assoc, length-append}
use Rattle.std.proofs.lemmas.Bool.Decides.{nat_tests}
use Rattle.std.proofs.lemmas.List.{append-nil}
use Rattle.std.specs.List.{AllByRecursion, IsDistinct, list_any, slice_get}
use Rattle.std.specs.Prelude.{◌==◌}
use Rattle.std.specs.Str.{bytes_eq}
use Rattle.list_facts.specs.Names.{mention, place_among}
use Rattle.list_facts.proofs.Different.{distinct-mentions, place-get}
use Rattle.list_facts.proofs.Mentioned.{any-mentions, get-place, place-below}
use Rattle.design_model.specs.declared.design.Pin.{Pin}
use Rattle.port_rows.specs.Added.{nets_with, port_pins}
use Rattle.std_laws.proofs.Bytes.{bytes_one}
use Rattle.std_laws.proofs.Every.{every-own, every-weaker}
use Rattle.std_laws.proofs.Places.{at-place, get-before}
use Rattle.std_laws.proofs.Searches.{any-get, before-first}

-- more mentions stand behind the names so far
pub mentions-grow : (seen names : List (List ℕ)) → (more : List (List ℕ)) × (fold mention seen names ≡ seen ++ more)
mentions-grow seen [] = ([], sym (append-nil seen))
mentions-grow seen (v ∷ names) = by (list_any (bytes_eq v) seen) (mentions-grow seen names) (mentions-grow (seen ++ v ∷ []) names)
  where
    by : (b : Bool) → (more : List (List ℕ)) × (fold mention seen names ≡ seen ++ more) → (more : List (List ℕ)) × (fold mention (seen ++ v ∷ []) names ≡ (seen ++ v ∷ []) ++ more)
        → (more : List (List ℕ)) × (fold mention (cond b seen (seen ++ v ∷ [])) names ≡ seen ++ more)
    by true old new = old
    by false old new = (v ∷ new.0, new.1 ∙ append_assoc seen (v ∷ []) new.0)

-- the nets with those of ports begin with the nets
pub nets-front : (nets ports : List (List ℕ)) → (more : List (List ℕ)) × (nets_with nets ports ≡ nets ++ more)
unfolding nets_with
nets-front nets ports = mentions-grow nets ports

pub nets-different : (nets ports : List (List ℕ)) → IsDistinct bytes_eq nets → IsDistinct bytes_eq (nets_with nets ports)
unfolding nets_with
nets-different nets ports different = distinct-mentions nets ports different

-- a net keeps its number
pub nets-keep : (nets ports : List (List ℕ)) (n : ℕ) (w : List ℕ) → slice_get nets n ≡ Some w → slice_get (nets_with nets ports) n ≡ Some w
nets-keep nets ports n w at =
    let front = nets-front nets ports in
    subst (λ (l : List (List ℕ)). slice_get l n ≡ Some w) (sym front.1) (get-before nets front.0 n w at)

pub nets-longer : (nets ports : List (List ℕ)) → length nets ≤ length (nets_with nets ports)
nets-longer nets ports =
    let front = nets-front nets ports in
    let long : length (nets_with nets ports) ≡ length nets + length front.0 = ap length front.1 ∙ length-append nets front.0 in
    omega arith

-- each port has a net
pub port-among : (nets ports : List (List ℕ)) (w : List ℕ) → list_any (bytes_eq w) ports ≡ true → list_any (bytes_eq w) (nets_with nets ports) ≡ true
unfolding nets_with
port-among nets ports w h = any-mentions nets ports w ∙ by (list_any (bytes_eq w) nets) (list_any (bytes_eq w) ports) h
  where
    by : (a b : Bool) → b ≡ true → (a || b) ≡ true
    by true b e = refl
    by false b e = e

-- a net is an old one or that of a port
any-there : (nets ports : List (List ℕ)) (w : List ℕ) → list_any (bytes_eq w) (nets_with nets ports) ≡ true → (list_any (bytes_eq w) nets || list_any (bytes_eq w) ports) ≡ true
unfolding nets_with
any-there nets ports w h = sym (any-mentions nets ports w) ∙ h

-- a net behind the old ones is that of a port
new-net : (nets ports : List (List ℕ)) (n : ℕ) (w : List ℕ) → IsDistinct bytes_eq nets → length nets ≤ n → slice_get (nets_with nets ports) n ≡ Some w
    → list_any (bytes_eq w) ports ≡ true
new-net nets ports n w different behind at = by (list_any (bytes_eq w) nets) refl (any-there nets ports w (any-get (nets_with nets ports) n w at))
  where
    before : list_any (bytes_eq w) nets ≡ true → place_among (nets_with nets ports) w < length nets
    before h =
        let front = nets-front nets ports in
        subst (λ (l : List (List ℕ)). place_among l w < length nets) (sym front.1) (before-first (bytes_eq w) nets front.0 h)

    by : (b : Bool) → list_any (bytes_eq w) nets ≡ b → (b || list_any (bytes_eq w) ports) ≡ true → list_any (bytes_eq w) ports ≡ true
    by true is h =
        let place = place-get (nets_with nets ports) n w (nets-different nets ports different) at in
        let within = before is in
        absurd (omega arith)
    by false is h = h

-- a net that a port names has the port's pin
pin-of-port : (nets : List (List ℕ)) (n first : ℕ) (w : List ℕ) (ports : List (List ℕ)) → place_among nets w + 1 ≡ n → list_any (bytes_eq w) ports ≡ true
    → list_any (λ (p : Pin). p.net == n) (port_pins nets first ports) ≡ true
pin-of-port nets n first w [] at h = h
pin-of-port nets n first w (x ∷ xs) at h = by (bytes_eq w x) (λ is. own (bytes_one w x is)) (λ h. pin-of-port nets n (first + 1) w xs at h) h
  where
    own : w ≡ x → eqb (place_among nets x + 1) n ≡ true
    own same = subst (λ v. eqb (place_among nets v + 1) n ≡ true) same (equal (place_among nets w + 1) n at)
      where
        equal : (a b : ℕ) → a ≡ b → eqb a b ≡ true
        equal a b e = grind (arith, nat_tests)

    or_true : (a b : Bool) → b ≡ true → (a || b) ≡ true
    or_true true b e = refl
    or_true false b e = e

    by : (b : Bool) → (b ≡ true → eqb (place_among nets x + 1) n ≡ true)
        → (list_any (bytes_eq w) xs ≡ true → list_any (λ (p : Pin). p.net == n) (port_pins nets (first + 1) xs) ≡ true)
        → (b || list_any (bytes_eq w) xs) ≡ true
        → (eqb (place_among nets x + 1) n || list_any (λ (p : Pin). p.net == n) (port_pins nets (first + 1) xs)) ≡ true
    by true here more h = ap (λ (b : Bool). b || list_any (λ (p : Pin). p.net == n) (port_pins nets (first + 1) xs)) (here refl)
    by false here more h = or_true (eqb (place_among nets x + 1) n) (list_any (λ (p : Pin). p.net == n) (port_pins nets (first + 1) xs)) (more h)

-- a net behind the old ones has a pin of a port
pub new-used : (nets ports : List (List ℕ)) (first n : ℕ) → IsDistinct bytes_eq nets → length nets < n → n ≤ length (nets_with nets ports)
    → list_any (λ (p : Pin). p.net == n) (port_pins (nets_with nets ports) first ports) ≡ true
new-used nets ports first n different behind within =
    let found = at-place (nets_with nets ports) (n - 1) (omega arith) in
    let place = place-get (nets_with nets ports) (n - 1) found.0 (nets-different nets ports different) found.1 in
    pin-of-port (nets_with nets ports) n first found.0 ports (omega arith) (new-net nets ports (n - 1) found.0 different (omega arith) found.1)

-- the nets of ports' pins are in range
pub port-range : (nets : List (List ℕ)) (first : ℕ) (ports : List (List ℕ)) → AllByRecursion (λ (w : List ℕ). list_any (bytes_eq w) nets ≡ true) ports
    → AllByRecursion (λ (p : Pin). (0 < p.net) × (p.net ≤ length nets)) (port_pins nets first ports)
port-range nets first [] h = tt
port-range nets first (w ∷ ws) h = ((omega arith, below (place-below nets w h.0)), port-range nets (first + 1) ws h.1)
  where
    below : place_among nets w < length nets → place_among nets w + 1 ≤ length nets
    below b = omega arith

-- the pin of a port: its net bears the port's name
pub port-word : (nets : List (List ℕ)) (first : ℕ) (ports : List (List ℕ)) → AllByRecursion (λ (w : List ℕ). list_any (bytes_eq w) nets ≡ true) ports → (k : ℕ) (p : Pin)
    → slice_get (port_pins nets first ports) k ≡ Some p
    → (p.instance ≡ first + k) × ((w : List ℕ) × (slice_get ports k ≡ Some w) × (slice_get nets (p.net - 1) ≡ Some w))
port-word nets first [] among k p at = absurd (no at)
  where
    no : ◌≡◌ {A = Option Pin} None (Some p) → ⊥
    no e = cc
port-word nets first (w ∷ ws) among zero p at =
    let same : record { instance = first; terminal = 0; net = place_among nets w + 1 } ≡ p = one at in
    let net : place_among nets w ≡ p.net - 1 = let is : place_among nets w + 1 ≡ p.net = ap (λ (q : Pin). q.net) same in omega arith in
    let number : p.instance ≡ first + 0 = let is : first ≡ p.instance = ap (λ (q : Pin). q.instance) same in omega arith in
    (number, (w, refl, ap (slice_get nets) (sym net) ∙ get-place nets w among.0))
  where
    one : ◌≡◌ {A = Option Pin} (Some (record { instance = first; terminal = 0; net = place_among nets w + 1 })) (Some p) → record { instance = first; terminal = 0; net = place_among nets w + 1 } ≡ p
    one e = cc
port-word nets first (w ∷ ws) among (suc k) p at =
    let more = port-word nets (first + 1) ws among.1 k p at in
    let number : p.instance ≡ first + suc k = let is : p.instance ≡ (first + 1) + k = more.0 in omega arith in
    (number, more.1)

fold-few : (seen names : List (List ℕ)) → length (fold mention seen names) ≤ length seen + length names
fold-few seen [] = omega arith
fold-few seen (v ∷ rest) = omega (arith, fold-few (mention seen v) rest, one (list_any (bytes_eq v) seen))
  where
    one : (b : Bool) → length (cond b seen (seen ++ v ∷ [])) ≤ length seen + 1
    one true = omega arith
    one false = omega (arith, length-append seen (v ∷ []))

-- there are no more nets behind the old ones than ports
pub more-few : (nets ports : List (List ℕ)) → length (nets_with nets ports) ≤ length nets + length ports
unfolding nets_with
more-few nets ports = fold-few nets ports

-- each port is among the nets with those of ports
pub among-nets : (nets ports : List (List ℕ)) → AllByRecursion (λ (w : List ℕ). list_any (bytes_eq w) (nets_with nets ports) ≡ true) ports
among-nets nets ports =
    every-weaker (λ (w : List ℕ). list_any (bytes_eq w) (map (λ (w : List ℕ). w) ports) ≡ true) (λ (w : List ℕ). list_any (bytes_eq w) (nets_with nets ports) ≡ true)
    (λ w h. port-among nets ports w (subst (λ (l : List (List ℕ)). list_any (bytes_eq w) l ≡ true) (names-same ports) h)) ports (every-own (λ (w : List ℕ). w) ports)
  where
    names-same : (names : List (List ℕ)) → map (λ (w : List ℕ). w) names ≡ names
    names-same [] = refl
    names-same (n ∷ ns) = ap (λ (l : List (List ℕ)). n ∷ l) (names-same ns)
