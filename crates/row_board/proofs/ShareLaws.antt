use Rattle.std.proofs.Common.{◌≡◌, ◌<◌, ◌≤◌, ℕ, zero, suc, ◌+◌, ◌*◌, List, [], ◌∷◌, map, sum, Bool, true, false, cond, refl, ap, ap₂, ◌∙◌, arith}
use Rattle.std.proofs.lemmas.Bool.Decides.{nat_tests}
use Rattle.std.specs.List.{filter, range_with_len, AllByRecursion}
use Rattle.std.specs.Prelude.{nat_eq}
use Rattle.design_model.specs.Netlist.{Netlist}
use Rattle.design_model.specs.declared.design.Pin.{Pin}
use Rattle.row_board.specs.NetPins.{pin_with_net}
use Rattle.row_board.specs.Trial.{marked_in, marked_pins}
use Rattle.row_board.specs.declared.net_pins.NetPin.{NetPin}
use Rattle.row_board.proofs.HitLaws.{hits, hits-cons}
use Rattle.std_laws.proofs.Sums.{sum-both, sum-cons, sum-none, sum-zero}
use Rattle.std_laws.proofs.Tests.{nat_eq-equal, nat_eq-false}

-- a number that stands at one place
pub sum-at : (x k a n : ℕ) → a ≤ k → k < a + n → sum (map (λ (m : ℕ). cond (nat_eq k m) x 0) (range_with_len a n)) ≡ x
sum-at x k a zero low high = absurd (omega (arith, low, high))
sum-at x k a (suc n) low high = by (nat_eq k a) refl (sum-at x k (a + 1) n)
  where
    off : k ≡ a → (m : ℕ) → a + 1 ≤ m → cond (nat_eq k m) x 0 ≡ zero
    off same m more = ap (λ (b : Bool). cond b x 0) (nat_eq-false k m (λ is. omega (arith, same, more, is)))

    by : (b : Bool) → nat_eq k a ≡ b → (a + 1 ≤ k → k < a + 1 + n → sum (map (λ (m : ℕ). cond (nat_eq k m) x 0) (range_with_len (a + 1) n)) ≡ x)
        → sum (map (λ (m : ℕ). cond (nat_eq k m) x 0) (range_with_len a (suc n))) ≡ x
    by true test rest =
        let gone = sum-none (λ (m : ℕ). cond (nat_eq k m) x 0) (a + 1) n (off (nat_eq-equal k a test)) in
        let one : cond (nat_eq k a) x 0 ≡ x = ap (λ (b : Bool). cond b x 0) test in
        omega (arith, gone, one, sum-cons (cond (nat_eq k a) x 0) (map (λ (m : ℕ). cond (nat_eq k m) x 0) (range_with_len (a + 1) n)))
    by false test rest =
        let none : cond (nat_eq k a) x 0 ≡ zero = ap (λ (b : Bool). cond b x 0) test in
        let other : a + 1 ≤ k = grind (arith, nat_tests) in
        omega (arith, rest other (omega (arith, high)), none, sum-cons (cond (nat_eq k a) x 0) (map (λ (m : ℕ). cond (nat_eq k m) x 0) (range_with_len (a + 1) n)))

-- what the pins of nets have is what all pins have
pub shares-by : (f : Pin → ℕ) (ps : List Pin) (a n : ℕ) → AllByRecursion (λ (p : Pin). (a ≤ p.net) × (p.net < a + n)) ps
    → sum (map (λ (net : ℕ). sum (map f (filter (λ (p : Pin). nat_eq p.net net) ps))) (range_with_len a n)) ≡ sum (map f ps)
shares-by f [] a n all = sum-zero (range_with_len a n)
shares-by f (p ∷ ps) a n all =
    let rest = shares-by f ps a n all.1 in
    let split = ap sum (each (range_with_len a n)) ∙ sum-both (λ (net : ℕ). cond (nat_eq p.net net) (f p) 0) (λ (net : ℕ). sum (map f (filter (λ (p : Pin). nat_eq p.net net) ps))) (range_with_len a n) in
    omega (arith, rest, split, sum-at (f p) p.net a n all.0.0 all.0.1, sum-cons (f p) (map f ps))
  where
    one : (net : ℕ) → sum (map f (filter (λ (p : Pin). nat_eq p.net net) (p ∷ ps))) ≡ cond (nat_eq p.net net) (f p) 0 + sum (map f (filter (λ (p : Pin). nat_eq p.net net) ps))
    one net = by (nat_eq p.net net)
      where
        by : (b : Bool) → sum (map f (cond b (p ∷ filter (λ (p : Pin). nat_eq p.net net) ps) (filter (λ (p : Pin). nat_eq p.net net) ps)))
            ≡ cond b (f p) 0 + sum (map f (filter (λ (p : Pin). nat_eq p.net net) ps))
        by true = sum-cons (f p) (map f (filter (λ (p : Pin). nat_eq p.net net) ps))
        by false = omega arith

    each : (ns : List ℕ) → map (λ (net : ℕ). sum (map f (filter (λ (p : Pin). nat_eq p.net net) (p ∷ ps)))) ns
        ≡ map (λ (net : ℕ). cond (nat_eq p.net net) (f p) 0 + sum (map f (filter (λ (p : Pin). nat_eq p.net net) ps))) ns
    each [] = refl
    each (n ∷ ns) = ap₂ (λ (x : ℕ) (xs : List ℕ). x ∷ xs) (one n) (each ns)

-- marked pins counted by the instances that they are of
abbrev pub marked_hits : Netlist → (ℕ × NetPin → ℕ) → List ℕ → List Pin → ℕ
marked_hits d mark ns ps = sum (map (λ (p : Pin). mark (pin_with_net d p) * hits ns p.instance) ps)

pins-of-one : (d : Netlist) (mark : ℕ × NetPin → ℕ) (n : ℕ) (ns : List ℕ) (ps : List Pin)
    → sum (map mark (map (pin_with_net d) (filter (λ (p : Pin). nat_eq p.instance n) ps))) + marked_hits d mark ns ps ≡ marked_hits d mark (n ∷ ns) ps
pins-of-one d mark n ns [] = omega arith
pins-of-one d mark n ns (p ∷ ps) = by (nat_eq p.instance n) refl (pins-of-one d mark n ns ps)
  where
    m : ℕ
    m = mark (pin_with_net d p)

    more : marked_hits d mark ns (p ∷ ps) ≡ m * hits ns p.instance + marked_hits d mark ns ps
    more = sum-cons (m * hits ns p.instance) (map (λ (p : Pin). mark (pin_with_net d p) * hits ns p.instance) ps)

    more' : marked_hits d mark (n ∷ ns) (p ∷ ps) ≡ m * hits (n ∷ ns) p.instance + marked_hits d mark (n ∷ ns) ps
    more' = sum-cons (m * hits (n ∷ ns) p.instance) (map (λ (p : Pin). mark (pin_with_net d p) * hits (n ∷ ns) p.instance) ps)

    by : (b : Bool) → nat_eq p.instance n ≡ b
        → sum (map mark (map (pin_with_net d) (filter (λ (p : Pin). nat_eq p.instance n) ps))) + marked_hits d mark ns ps ≡ marked_hits d mark (n ∷ ns) ps
        → sum (map mark (map (pin_with_net d) (cond b (p ∷ filter (λ (p : Pin). nat_eq p.instance n) ps) (filter (λ (p : Pin). nat_eq p.instance n) ps)))) + marked_hits d mark ns (p ∷ ps)
        ≡ marked_hits d mark (n ∷ ns) (p ∷ ps)
    by true test rest =
        let hit : hits (n ∷ ns) p.instance ≡ 1 + hits ns p.instance = hits-cons n ns p.instance ∙ ap (λ (b : Bool). cond b 1 0 + hits ns p.instance) test in
        omega (
          arith,
          rest,
          more,
          more',
          ap (λ (k : ℕ). m * k) hit,
          sum-cons m (map mark (map (pin_with_net d) (filter (λ (p : Pin). nat_eq p.instance n) ps))),
        )
    by false test rest =
        let miss : hits (n ∷ ns) p.instance ≡ 0 + hits ns p.instance = hits-cons n ns p.instance ∙ ap (λ (b : Bool). cond b 1 0 + hits ns p.instance) test in
        omega (arith, rest, more, more', ap (λ (k : ℕ). m * k) miss)

pub marked-hits : (d : Netlist) (mark : ℕ × NetPin → ℕ) (ns : List ℕ) → marked_in d mark ns ≡ marked_hits d mark ns d.pins
marked-hits d mark [] = none d.pins
  where
    none : (ps : List Pin) → 0 ≡ marked_hits d mark [] ps
    none [] = refl
    none (p ∷ ps) = omega (arith, none ps, sum-cons (mark (pin_with_net d p) * 0) (map (λ (p : Pin). mark (pin_with_net d p) * 0) ps))
marked-hits d mark (n ∷ ns) = sum-cons (marked_pins d mark n) (map (marked_pins d mark) ns) ∙ ap (λ (k : ℕ). marked_pins d mark n + k) (marked-hits d mark ns) ∙ pins-of-one d mark n ns d.pins
