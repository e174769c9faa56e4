use Rattle.std.proofs.Common.{◌≡◌, inl, inr, ◌<◌, ◌≤◌, ℕ, zero, suc, ◌+◌, ◌*◌, List, [], ◌∷◌, map, sum, Bool, true, false, cond, refl, ap, sym, ◌∙◌, subst, arith}
use Rattle.std.proofs.lemmas.List.Sums.{sum_by-cons}
use Rattle.std.specs.List.{count_by, fold, AllByRecursion, Contains}
use Rattle.std.specs.Prelude.{max, min, nat_eq}
use Rattle.row_board.specs.Cost.{spread}
use Rattle.row_board.specs.Extreme.{alone_at_end, at_end, extreme_of}
use Rattle.row_board.specs.declared.extreme.Extreme.{Extreme}
use Rattle.row_board.specs.declared.extreme.Side.TheVariants.{Low, High}
use Rattle.std_laws.proofs.Every.{every-from-get, every-get}
use Rattle.std_laws.proofs.Greatest.{greatest-all, greatest-reached, least-all, least-reached}
use Rattle.std_laws.proofs.Members.{get-contains, map-member, member-cases, member-head}
use Rattle.std_laws.proofs.Sums.{sum-both, sum-cons, sum-scaled}
use Rattle.std_laws.proofs.Tests.{nat_eq-equal, nat_eq-true}

-- what the items have together whose number stands at a place
abbrev pub had_at : {X : Type 0} → (X → ℕ) → ℕ → (X → ℕ) → List X → ℕ
had_at {X} f at h xs = sum (map (λ (x : X). cond (nat_eq (f x) at) 1 0 * h x) xs)

had-cons : {X : Type 0} (f h : X → ℕ) (at : ℕ) (x : X) (xs : List X) → had_at f at h (x ∷ xs) ≡ cond (nat_eq (f x) at) 1 0 * h x + had_at f at h xs
had-cons {X} f h at x xs = sum-cons (cond (nat_eq (f x) at) 1 0 * h x) (map (λ (x : X). cond (nat_eq (f x) at) 1 0 * h x) xs)

count-cons : {X : Type 0} (f : X → ℕ) (at : ℕ) (x : X) (xs : List X)
    → count_by (λ (m : ℕ). nat_eq m at) (map f (x ∷ xs)) ≡ cond (nat_eq (f x) at) 1 0 + count_by (λ (m : ℕ). nat_eq m at) (map f xs)
count-cons f at x xs = sum_by-cons (λ (m : ℕ). cond (nat_eq m at) 1 0) (f x) (map f xs)

-- where a number is among numbers, it counts
count-reached : (at : ℕ) (ns : List ℕ) → Contains ns at → 0 < count_by (λ (m : ℕ). nat_eq m at) ns
count-reached at [] has = absurd (omega (arith, has.1))
count-reached at (n ∷ ns) has =
    elim (member-cases n ns at has) [
      | inl here ↦
          let one : cond (nat_eq n at) 1 0 ≡ suc zero = ap (λ (b : Bool). cond b (suc zero) 0) (nat_eq-true n at here) in
          omega (arith, one, sum_by-cons (λ (m : ℕ). cond (nat_eq m at) 1 0) n ns)
      | inr later ↦ omega (arith, count-reached at ns later, sum_by-cons (λ (m : ℕ). cond (nat_eq m at) 1 0) n ns)
    ]

-- none stands there
had-none : {X : Type 0} (f h : X → ℕ) (at : ℕ) (xs : List X) → count_by (λ (m : ℕ). nat_eq m at) (map f xs) ≡ 0 → had_at f at h xs ≡ 0
had-none f h at [] none = refl
had-none f h at (x ∷ xs) none =
    let off : cond (nat_eq (f x) at) 1 0 ≡ zero = omega (arith, none, count-cons f at x xs) in
    omega (arith, had-none f h at xs (omega (arith, none, count-cons f at x xs)), had-cons f h at x xs, ap (λ (n : ℕ). n * h x) off)

-- some stand there, each of which has so much less
had-some : {X : Type 0} (f up down : X → ℕ) (at p q : ℕ) (xs : List X) → AllByRecursion (λ (x : X). f x ≡ at → p + up x ≤ q + down x) xs
    → 0 < count_by (λ (m : ℕ). nat_eq m at) (map f xs) → p ≤ q + had_at f at down xs
had-some f up down at p q [] near some = absurd (omega (arith, some))
had-some {X} f up down at p q (x ∷ xs) near some = by (nat_eq (f x) at) refl (had-some f up down at p q xs near.1)
  where
    by : (b : Bool) → nat_eq (f x) at ≡ b → (0 < count_by (λ (m : ℕ). nat_eq m at) (map f xs) → p ≤ q + had_at f at down xs) → p ≤ q + had_at f at down (x ∷ xs)
    by true here rest =
        let one : cond (nat_eq (f x) at) 1 0 ≡ suc zero = ap (λ (b : Bool). cond b (suc zero) 0) here in
        omega (arith, near.0 (nat_eq-equal (f x) at here), had-cons f down at x xs, ap (λ (n : ℕ). n * down x) one)
    by false off rest =
        let none : cond (nat_eq (f x) at) 1 0 ≡ zero = ap (λ (b : Bool). cond b (suc zero) 0) off in
        omega (arith, rest (omega (arith, some, none, count-cons f at x xs)), had-cons f down at x xs, ap (λ (n : ℕ). n * down x) none)

-- one stands there
had-one : {X : Type 0} (f up down : X → ℕ) (at p q : ℕ) (xs : List X) → AllByRecursion (λ (x : X). f x ≡ at → p + up x ≤ q + down x) xs
    → count_by (λ (m : ℕ). nat_eq m at) (map f xs) ≡ 1 → p + had_at f at up xs ≤ q + had_at f at down xs
had-one f up down at p q [] near some = absurd (omega (arith, some))
had-one {X} f up down at p q (x ∷ xs) near some = by (nat_eq (f x) at) refl (had-one f up down at p q xs near.1)
  where
    by : (b : Bool) → nat_eq (f x) at ≡ b → (count_by (λ (m : ℕ). nat_eq m at) (map f xs) ≡ 1 → p + had_at f at up xs ≤ q + had_at f at down xs)
        → p + had_at f at up (x ∷ xs) ≤ q + had_at f at down (x ∷ xs)
    by true here rest =
        let one : cond (nat_eq (f x) at) 1 0 ≡ suc zero = ap (λ (b : Bool). cond b (suc zero) 0) here in
        let none = had-none f up at xs (omega (arith, some, one, count-cons f at x xs)) in
        omega (
          arith,
          near.0 (nat_eq-equal (f x) at here),
          none,
          had-cons f up at x xs,
          had-cons f down at x xs,
          ap (λ (n : ℕ). n * up x) one,
          ap (λ (n : ℕ). n * down x) one,
        )
    by false off rest =
        let none : cond (nat_eq (f x) at) 1 0 ≡ zero = ap (λ (b : Bool). cond b (suc zero) 0) off in
        let more = rest (omega (arith, some, none, count-cons f at x xs)) in
        omega (arith, more, had-cons f up at x xs, had-cons f down at x xs, ap (λ (n : ℕ). n * up x) none, ap (λ (n : ℕ). n * down x) none)

-- what stands at an extreme: each may bring it nearer, and one that is alone there surely takes it farther
edge-near : {X : Type 0} (f up down : X → ℕ) (e : Extreme) (p q : ℕ) (xs : List X) → AllByRecursion (λ (x : X). f x ≡ e.at → p + up x ≤ q + down x) xs
    → 0 < e.count → e.count ≡ count_by (λ (m : ℕ). nat_eq m e.at) (map f xs)
    → p + sum (map (λ (x : X). alone_at_end e (f x) * up x) xs) ≤ q + sum (map (λ (x : X). at_end e (f x) * down x) xs)
edge-near {X} f up down e p q xs near some is = by (nat_eq e.count 1) refl
  where
    by : (b : Bool) → nat_eq e.count 1 ≡ b → p + sum (map (λ (x : X). cond b (at_end e (f x)) 0 * up x) xs) ≤ q + sum (map (λ (x : X). at_end e (f x) * down x) xs)
    by true one = had-one f up down e.at p q xs near (sym is ∙ nat_eq-equal e.count 1 one)
    by false more =
        let none : sum (map (λ (x : X). 0 * up x) xs) ≡ 0 * sum (map up xs) = sum-scaled 0 up xs in
        omega (arith, had-some f up down e.at p q xs near (omega (arith, some, is)), none)

-- how far numbers spread once each is shifted
pub spread-shifted : {X : Type 0} (f g up down : X → ℕ) (xs : List X) → AllByRecursion (λ (x : X). f x + up x ≡ g x + down x) xs
    → spread (map f xs)
    + sum (map (λ (x : X). alone_at_end (extreme_of High (map f xs)) (f x) * up x + alone_at_end (extreme_of Low (map f xs)) (f x) * down x) xs)
    ≤ spread (map g xs) + sum (map (λ (x : X). at_end (extreme_of Low (map f xs)) (f x) * up x + at_end (extreme_of High (map f xs)) (f x) * down x) xs)
spread-shifted f g up down [] shifted = omega arith
spread-shifted {X} f g up down (x ∷ xs) shifted =
    let high = extreme_of High (map f (x ∷ xs)) in
    let low = extreme_of Low (map f (x ∷ xs)) in
    let top = greatest-reached f x xs in
    let bottom = least-reached f x xs in
    let up_side = edge-near f up down high (fold max (f x) (map f xs)) (fold max (g x) (map g xs)) (x ∷ xs)
    (every-from-get (λ (y : X). f y ≡ high.at → fold max (f x) (map f xs) + up y ≤ fold max (g x) (map g xs) + down y) (x ∷ xs)
    (λ k y at is. omega (arith, is, greatest-all g x xs y (get-contains (x ∷ xs) k y at), every-get (λ (y : X). f y + up y ≡ g y + down y) (x ∷ xs) k y shifted at)))
    (count-reached high.at (map f (x ∷ xs)) (reached f x xs top.0 high.at top.1 top.2)) refl in
    let low_side = edge-near f down up low (fold min (g x) (map g xs)) (fold min (f x) (map f xs)) (x ∷ xs)
    (every-from-get (λ (y : X). f y ≡ low.at → fold min (g x) (map g xs) + down y ≤ fold min (f x) (map f xs) + up y) (x ∷ xs)
    (λ k y at is. omega (arith, is, least-all g x xs y (get-contains (x ∷ xs) k y at), every-get (λ (y : X). f y + up y ≡ g y + down y) (x ∷ xs) k y shifted at)))
    (count-reached low.at (map f (x ∷ xs)) (reached f x xs bottom.0 low.at bottom.1 bottom.2)) refl in
    let ordered = least-all f x xs top.0 top.1 in
    let ordered_too = least-all g x xs x (member-head x xs) in
    omega (
      arith,
      up_side,
      low_side,
      top.2,
      ordered,
      ordered_too,
      greatest-all g x xs x (member-head x xs),
      sum-both (λ (y : X). alone_at_end high (f y) * up y) (λ (y : X). alone_at_end low (f y) * down y) (x ∷ xs),
      sum-both (λ (y : X). at_end low (f y) * up y) (λ (y : X). at_end high (f y) * down y) (x ∷ xs),
    )
  where
    reached : (f : X → ℕ) (x : X) (xs : List X) (y : X) (at : ℕ) → Contains (x ∷ xs) y → f y ≡ at → Contains (map f (x ∷ xs)) at
    reached f x xs y at has is = subst (λ (n : ℕ). Contains (map f (x ∷ xs)) n) is (map-member f (x ∷ xs) y has)
