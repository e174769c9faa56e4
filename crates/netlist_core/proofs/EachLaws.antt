use Rattle.netlist_core.specs.declared.fault.DesignFault.TheVariants as faults
use Rattle.std.proofs.Common.{◌≡◌, ℕ, List, [], ◌∷◌, ◌++◌, length, Result, Ok, Err, refl, ap, sym, ◌∙◌, subst, append_assoc, drop, ◌≤◌}
use Rattle.std.proofs.lemmas.List.{drop_all, append-nil}
use Rattle.std.specs.List.{AllZip}
use Rattle.netlist_core.specs.Answers.{◌>>=◌, Agrees, each}
use Rattle.netlist_core.specs.declared.fault.DesignFault.{DesignFault}

-- an answer of a list with more items in front
abbrev pub after_front : {B : Type 0} → List B → Result (List B) DesignFault → Result (List B) DesignFault
after_front front (Ok rest) = Ok (front ++ rest)
after_front front (Err fault) = Err fault

-- one more item that is good
pub each-more : {A B : Type 0} (f : A → Result B DesignFault) (front : List B) (x : A) (xs : List A) (y : B) → f x ≡ Ok y
    → after_front (front ++ y ∷ []) (each f xs) ≡ after_front front (each f (x ∷ xs))
unfolding each
each-more {B = B} f front x xs y is = by (each f xs) ∙ sym (ap (λ one. after_front front (one >>= (λ first. each f xs >>= (λ others. Ok (first ∷ others))))) is)
  where
    by : (rest : Result (List B) DesignFault) → after_front (front ++ y ∷ []) rest ≡ after_front front (rest >>= (λ others. Ok (y ∷ others)))
    by (Ok rest) = ap (λ (l : List B). Ok l) (append_assoc front (y ∷ []) rest)
    by (Err fault) = refl

-- an item that is refused
pub each-stop : {A B : Type 0} (f : A → Result B DesignFault) (front : List B) (x : A) (xs : List A) (fault : DesignFault) → f x ≡ Err fault
    → after_front front (each f (x ∷ xs)) ≡ Err fault
unfolding each
each-stop f front x xs fault is = ap (λ one. after_front front (one >>= (λ first. each f xs >>= (λ others. Ok (first ∷ others))))) is

-- where each item has an answer of a kind, the answers are of that kind, one for each item
pub each-zip : {A B : Type 0} (f : A → Result B DesignFault) (R : A → B → Type 0) → ((a : A) (b : B) → f a ≡ Ok b → R a b)
    → (xs : List A) (ys : List B) → each f xs ≡ Ok ys → AllZip R xs ys
unfolding each
each-zip {B = B} f R good [] [] is = tt
each-zip {B = B} f R good [] (y ∷ ys) is = cc
each-zip {B = B} f R good (x ∷ xs) ys is = by (f x) (each f xs) refl refl is (λ ys. each-zip {B = B} f R good xs ys)
  where
    by : (one : Result B DesignFault) (rest : Result (List B) DesignFault) → f x ≡ one → each f xs ≡ rest
        → (one >>= (λ first. rest >>= (λ others. Ok (first ∷ others)))) ≡ Ok ys
        → ((ys : List B) → each f xs ≡ Ok ys → AllZip R xs ys) → AllZip R (x ∷ xs) ys
    by (Ok y) (Ok others) at after is more = subst (λ l. AllZip R (x ∷ xs) l) (same is) (good x y at, more others after)
      where
        same : ◌≡◌ {A = Result (List B) DesignFault} (Ok (y ∷ others)) (Ok ys) → y ∷ others ≡ ys
        same e = cc
    by (Ok y) (Err fault) at after is more = absurd (no is)
      where
        no : ◌≡◌ {A = Result (List B) DesignFault} (Err fault) (Ok ys) → ⊥
        no e = cc
    by (Err fault) rest at after is more = absurd (no is)
      where
        no : ◌≡◌ {A = Result (List B) DesignFault} (Err fault) (Ok ys) → ⊥
        no e = cc

-- a fault that one item's answer agrees with is the fault of the list
pub agrees-stop : {X Y U V : Type 0} (v : X → Y) (w : U → V) (fault : DesignFault) (one : Result Y DesignFault) (all : Result V DesignFault)
    → (one ≡ Err fault → all ≡ Err fault) → Agrees v (Err fault) one → Agrees w (Err fault) all
agrees-stop v w faults.Memory one all step h = tt
agrees-stop v w fault one all step h = step h

-- the end of the list
pub each-end : {A B : Type 0} (f : A → Result B DesignFault) (front : List B) (xs : List A) (n : ℕ) → length xs ≤ n
    → after_front front (each f (drop n xs)) ≡ Ok front
unfolding each
each-end {B = B} f front xs n past = ap (λ rest. after_front front (each f rest)) (drop_all n xs past) ∙ ap (λ (l : List B). Ok l) (append-nil front)
