use Rattle.std.proofs.Common.{◌≡◌, ℕ, zero, suc, ◌+◌, List, [], ◌∷◌, ◌++◌, length, refl, sym, ap, ◌∙◌, append_assoc, append-nil, Some, Result, Ok, Err, arith}
use Rattle.std.specs.List.{enumerate_from, slice_get}
use Rattle.read_base.specs.Answers.{Fails}
use Rattle.read_base.specs.Steps.{◌>>=◌}
use Rattle.netlist_import.specs.Faults.{each, told_of}
use Rattle.netlist_import.specs.declared.fault.ImportFault.{ImportFault}
use Rattle.netlist_import.specs.declared.fault.ImportFault.TheVariants.{Bad, Memory}
use Rattle.netlist_import.specs.declared.fault.ImportFlaw.{ImportFlaw}

-- what items give, with these in front
abbrev pub with_front : {A : Type 0} → List A → Result (List A) ImportFlaw → Result (List A) ImportFlaw
with_front front (Ok xs) = Ok (front ++ xs)
with_front front (Err e) = Err e

-- no item is left
pub each-end : {A B : Type 0} (f : A → Result B ImportFlaw) (front : List B) (xs : List A) (total : Result (List B) ImportFlaw) → xs ≡ [] → with_front front (each f xs) ≡ total → total ≡ Ok front
unfolding each
each-end {A} {B} f front xs total none so_far = sym so_far ∙ rw none (ap (λ (l : List B). Ok l) (append-nil front))

-- an item that is refused
pub each-fail : {A B : Type 0} (stop : ImportFault) (f : A → Result B ImportFlaw) (front : List B) (xs rest : List A) (x : A) (total : Result (List B) ImportFlaw)
    → xs ≡ x ∷ rest → Fails told_of stop (f x) → with_front front (each f xs) ≡ total → Fails told_of stop total
unfolding each
each-fail Memory f front xs rest x total is wrong so_far = tt
each-fail (Bad e) f front xs rest x total is wrong so_far = sym so_far ∙ rw (is, wrong) refl

-- one item more
front-more : {B : Type 0} (front : List B) (y : B) (run : Result (List B) ImportFlaw) → with_front (front ++ y ∷ []) run ≡ with_front front (run >>= λ others. Ok (y ∷ others))
front-more {B} front y (Ok ys) = ap (λ (l : List B). Ok l) (append_assoc front (y ∷ []) ys)
front-more front y (Err e) = refl

pub each-on : {A B : Type 0} (f : A → Result B ImportFlaw) (front : List B) (xs rest : List A) (x : A) (y : B) (total : Result (List B) ImportFlaw)
    → xs ≡ x ∷ rest → f x ≡ Ok y → with_front front (each f xs) ≡ total → with_front (front ++ y ∷ []) (each f rest) ≡ total
unfolding each
each-on f front xs rest x y total is one so_far = front-more front y (each f rest) ∙ sym (rw (is, one) refl) ∙ so_far

-- what one of the items gave
pub each-at : {A B : Type 0} (f : A → Result B ImportFlaw) (xs : List A) (ys : List B) (k : ℕ) (x : A) → each f xs ≡ Ok ys → slice_get xs k ≡ Some x
    → (y : B) × (slice_get ys k ≡ Some y) × (f x ≡ Ok y)
unfolding each
each-at f [] ys k x is at = let never : ⊥ = cc in absurd never
each-at {A} {B} f (z ∷ zs) ys k x is at = by (f z) refl (each f zs) refl is k at (λ more j rest there. each-at f zs more j x rest there)
  where
    by : (r : Result B ImportFlaw) → f z ≡ r → (s : Result (List B) ImportFlaw) → each f zs ≡ s → (f z >>= λ first. each f zs >>= λ others. Ok (first ∷ others)) ≡ Ok ys
        → (k : ℕ) → slice_get (z ∷ zs) k ≡ Some x
        → ((more : List B) (j : ℕ) → each f zs ≡ Ok more → slice_get zs j ≡ Some x → (y : B) × (slice_get more j ≡ Some y) × (f x ≡ Ok y))
        → (y : B) × (slice_get ys k ≡ Some y) × (f x ≡ Ok y)
    by (Err e) one s all is k at more = let never : ⊥ = no (rw one at is) in absurd never
      where
        no : ◌≡◌ {A = Result (List B) ImportFlaw} (Err e) (Ok ys) → ⊥
        no h = cc
    by (Ok y) one (Err e) all is k at more = let never : ⊥ = no (rw (one, all) at is) in absurd never
      where
        no : ◌≡◌ {A = Result (List B) ImportFlaw} (Err e) (Ok ys) → ⊥
        no h = cc
    by (Ok y) one (Ok others) all is zero at more =
        let whole : y ∷ others ≡ ys = same (rw (one, all) at is) in
        (y, ap (λ l. slice_get l zero) (sym whole), (ap f (sym (there at)) ∙ one))
      where
        same : ◌≡◌ {A = Result (List B) ImportFlaw} (Ok (y ∷ others)) (Ok ys) → y ∷ others ≡ ys
        same h = cc

        there : Some z ≡ Some x → z ≡ x
        there h = cc
    by (Ok y) one (Ok others) all is (suc j) at more =
        let whole : y ∷ others ≡ ys = same (rw (one, all) at is) in
        let found = more others j all at in
        (found.0, ap (λ l. slice_get l (suc j)) (sym whole) ∙ found.1, found.2)
      where
        same : ◌≡◌ {A = Result (List B) ImportFlaw} (Ok (y ∷ others)) (Ok ys) → y ∷ others ≡ ys
        same h = cc

pub each-length : {A B : Type 0} (f : A → Result B ImportFlaw) (xs : List A) (ys : List B) → each f xs ≡ Ok ys → length ys ≡ length xs
unfolding each
each-length {A} {B} f [] ys is = let none : [] ≡ ys = same is in ap length (sym none)
  where
    same : ◌≡◌ {A = Result (List B) ImportFlaw} (Ok []) (Ok ys) → [] ≡ ys
    same h = cc
each-length {A} {B} f (z ∷ zs) ys is = by (f z) refl (each f zs) refl is (λ more rest. each-length f zs more rest)
  where
    by : (r : Result B ImportFlaw) → f z ≡ r → (s : Result (List B) ImportFlaw) → each f zs ≡ s → (f z >>= λ first. each f zs >>= λ others. Ok (first ∷ others)) ≡ Ok ys
        → ((more : List B) → each f zs ≡ Ok more → length more ≡ length zs) → length ys ≡ length (z ∷ zs)
    by (Err e) one s all is more = let never : ⊥ = no (rw one at is) in absurd never
      where
        no : ◌≡◌ {A = Result (List B) ImportFlaw} (Err e) (Ok ys) → ⊥
        no h = cc
    by (Ok y) one (Err e) all is more = let never : ⊥ = no (rw (one, all) at is) in absurd never
      where
        no : ◌≡◌ {A = Result (List B) ImportFlaw} (Err e) (Ok ys) → ⊥
        no h = cc
    by (Ok y) one (Ok others) all is more =
        let whole : y ∷ others ≡ ys = same (rw (one, all) at is) in
        let rest = more others all in
        ap length (sym whole) ∙ ap (λ (n : ℕ). suc n) rest
      where
        same : ◌≡◌ {A = Result (List B) ImportFlaw} (Ok (y ∷ others)) (Ok ys) → y ∷ others ≡ ys
        same h = cc

-- the number of an item
pub enumerate-at : {A : Type 0} (n : ℕ) (xs : List A) (k : ℕ) (x : A) → slice_get xs k ≡ Some x → slice_get (enumerate_from n xs) k ≡ Some (n + k, x)
enumerate-at n [] k x at = let never : ⊥ = cc in absurd never
enumerate-at {A} n (y ∷ ys) zero x at = let here : n ≡ n + 0 = omega arith in rw (there at) (ap (λ (m : ℕ). Some (m, x)) here)
  where
    there : Some y ≡ Some x → y ≡ x
    there h = cc
enumerate-at n (y ∷ ys) (suc k) x at = let here : n + 1 + k ≡ n + suc k = omega arith in enumerate-at (n + 1) ys k x at ∙ ap (λ (m : ℕ). Some (m, x)) here
