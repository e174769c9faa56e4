use Rattle.std.proofs.Common.{◌≡◌, Option, Some, ℕ, None, true, eqb, ap, Result, Ok, Err, OnErr, Bool, false, refl, cond, IfSome, option_map, ◌∙◌, sym}
use Rattle.std.proofs.lemmas.Bool.{eqb-true}
use Rattle.std.specs.Option.{option_eq}
use Rattle.std.specs.Bool.{OnTrue}
use Rattle.std.specs.Prelude.{IsOkAnd}

pub some-is : {A : Type 0} (P : A → Type 0) (o : Option A) (x : A) → IfSome o P → o ≡ Some x → P x
some-is P o x h is = let g = rw is at h in g

-- a class that was found equal
pub same-option : (o : Option ℕ) (class : ℕ) → option_eq eqb o (Some class) ≡ true → o ≡ Some class
same-option None class same = let never : ⊥ = cc in absurd never
same-option (Some other) class same = ap (λ (n : ℕ). Some n) (eqb-true other class same)

-- what holds holds where a call failed
pub on-err : {T E : Type 0} (result : Result T E) (P : Type 0) → P → OnErr result P
on-err (Ok done) P p = tt
on-err (Err failed) P p = p

-- what follows from a test's meaning is one, too
pub on-true : (b : Bool) (P Q : Type 0) → (P → Q) → OnTrue b P → OnTrue b Q
on-true true P Q follows holds = follows holds
on-true false P Q follows holds = tt

pub on-true-holds : (b : Bool) (P : Type 0) → b ≡ true → OnTrue b P → P
on-true-holds true P is holds = holds
on-true-holds false P is holds = let never : ⊥ = cc in absurd never

pub mapped : {A B : Type 0} (f : A → B) (o : Option A) (y : B) → option_map f o ≡ Some y → (x : A) × (o ≡ Some x) × (f x ≡ y)
mapped f (Some x) y is = (x, refl, (let z : Some (f x) ≡ Some y = is in cc))
mapped f None y is = cc

-- the progress behind a command that is taken
pub ok-and : {A E : Type 0} (r : Result A E) (P : A → Type 0) → IsOkAnd r P → (x : A) × (r ≡ Ok x) × P x
ok-and (Ok x) P h = (x, refl, h)
ok-and (Err e) P h = absurd h

-- what a test lets through has P
pub some_if : {A : Type 0} (P : A → Type 0) (b : Bool) (x : Option A) → (b ≡ true → IfSome x P) → IfSome (cond b x None) P
some_if P true x h = h refl
some_if P false x h = tt

-- a value under a function
pub some_mapped : {A B : Type 0} (P : A → Type 0) (Q : B → Type 0) (f : A → B) (x : Option A) → ((y : A) → P y → Q (f y)) → IfSome x P → IfSome (option_map f x) Q
some_mapped P Q f None onward h = tt
some_mapped P Q f (Some y) onward h = onward y h

-- what a test does not stop has P
pub some_unless : {A : Type 0} (P : A → Type 0) (b : Bool) (x : Option A) → IfSome x P → IfSome (cond b None x) P
some_unless P true x h = tt
some_unless P false x h = h

-- any answer will do
pub some_anything : {A : Type 0} (x : Option A) → IfSome x (λ _. Unit {0})
some_anything None = tt
some_anything (Some y) = tt

pub ok-same : {A E : Type 0} (found : Result A E) (x y : A) → found ≡ Ok x → found ≡ Ok y → x ≡ y
ok-same found x y one other = let both : Ok x ≡ Ok y = sym one ∙ other in cc
