use Rattle.std.proofs.Common.{◌≡◌, refl, ap, sym, subst, ℕ, ◌≤◌, List, [], ◌∷◌, ◌++◌, length, Bool, true, false, arith}
use Rattle.std.proofs.lemmas.List.{append-nil}
use Rattle.std.specs.List.{list_all}
use Rattle.std.specs.Prelude.{Result, if◌then◌else◌}
use Rattle.cif_text.specs.Bytes.{span, skip, begins, ends}
use Rattle.cif_text.specs.declared.misfit.Misfit.{Misfit}
use Rattle.cif_text.specs.Numbers.{apart}
use Rattle.std.proofs.lemmas.Bool.{and_parts}

-- the front of a list is such bytes, and the rest begins with none
pub span-append : (p : ℕ → Bool) (xs r : List ℕ) → list_all p xs ≡ true → begins p r ≡ false → span p (xs ++ r) ≡ (xs, r)
span-append p [] [] every stop = refl
span-append p [] (c ∷ cs) every stop = rw stop refl
span-append p (x ∷ xs) r every stop =
    let first : p x ≡ true = (and_parts (p x) (list_all p xs) every).0 in
    let others : list_all p xs ≡ true = (and_parts (p x) (list_all p xs) every).1 in
    rw (first, span-append p xs r others stop) refl

-- a list is such bytes alone
pub span-all : (p : ℕ → Bool) (xs : List ℕ) → list_all p xs ≡ true → span p xs ≡ (xs, [])
span-all p xs every = rw append-nil at (span-append p xs [] every refl)

pub skip-stop : (p : ℕ → Bool) (r : List ℕ) → begins p r ≡ false → skip p r ≡ r
skip-stop p r stop = ap (λ (found : List ℕ × List ℕ). found.1) (span-append p [] r refl stop)

-- a list that is not empty, of bytes that are none of these, begins with none of these
pub begins-other : (p q : ℕ → Bool) → ((c : ℕ) → q c ≡ true → p c ≡ false) → (xs r : List ℕ) → 1 ≤ length xs → list_all q xs ≡ true
    → begins p (xs ++ r) ≡ false
begins-other p q other [] r some every = absurd (omega arith)
begins-other p q other (x ∷ xs) r some every = other x (and_parts (q x) (list_all q xs) every).0

-- a blank is passed over, where the bytes behind it begin with none
pub skip-blank : (p : ℕ → Bool) (r : List ℕ) → p 32 ≡ true → begins p r ≡ false → skip p (32 ∷ r) ≡ r
skip-blank p r blank stop =
    subst (λ (b : Bool). (if◌then◌else◌ {A = List ℕ × List ℕ} b (32 ∷ (span p r).0, (span p r).1) ([], 32 ∷ r)).1 ≡ r) (sym blank) (skip-stop p r stop)

-- a part behind a blank
pub apart-blank : {A : Type 0} (p : ℕ → Bool) (read : List ℕ → Result (A × List ℕ) Misfit) (r : List ℕ)
    → p 32 ≡ true → begins p r ≡ false → apart p read (32 ∷ r) ≡ read r
apart-blank p read r blank stop = rw blank (ap read (skip-blank p r blank stop))

-- bytes of which the first is no such one are not such bytes alone
pub ends-other : (p : ℕ → Bool) (r : List ℕ) → 1 ≤ length r → begins p r ≡ false → ends p r ≡ false
ends-other p [] some stop = absurd (omega arith)
ends-other p (c ∷ cs) some stop = rw stop refl
