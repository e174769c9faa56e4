use Rattle.std.proofs.Common.{◌≡◌, Bool, true, false, cond, List, [], ◌∷◌, refl, Option, None, Some, Result, Ok, Err, IfOk}
use Rattle.std.specs.Prelude.{IsOkAnd}
use Rattle.read_base.specs.Steps.{◌>>=◌}
use Rattle.yal_reader.specs.Flaws.{Flaw}
use Rattle.yal_reader.specs.Tokens.{Spelled, Token, word, semicolon}
use Rattle.yal_reader.specs.Words.{or_bad}
use Rattle.yal_reader.specs.declared.fault.YalKind.{YalKind}

-- the second tokens say what the first do, wherever they stand, and then come these
abbrev pub Says : List Token → List Token → List Token → Type 0
Says tail [] us = us ≡ tail
Says tail (word w ∷ ts) [] = ⊥
Says tail (word w ∷ ts) (word v ∷ us) = (w.text ≡ v.text) × Says tail ts us
Says tail (word w ∷ ts) (semicolon m ∷ us) = ⊥
Says tail (semicolon l ∷ ts) [] = ⊥
Says tail (semicolon l ∷ ts) (word v ∷ us) = ⊥
Says tail (semicolon l ∷ ts) (semicolon m ∷ us) = Says tail ts us

-- the same, as a record
pub record Alike (tail ts us : List Token) : Type 0 where
  pub says : Says tail ts us

-- where the first reading gives something, the second gives what is Q to it
pub record Follows {A B : Type 0} (Q : A → B → Type 0) (r : Result A Flaw) (s : Result B Flaw) : Type 0 where
  pub holds : IfOk r (λ x. IsOkAnd s (Q x))

pub ok : {A B : Type 0} {Q : A → B → Type 0} (x : A) (y : B) → Q x y → Follows Q (Ok x) (Ok y)
ok x y q = record { holds = q }

pub none : {A B : Type 0} {Q : A → B → Type 0} (e : Flaw) (s : Result B Flaw) → Follows Q (Err e) s
none e s = record { holds = tt }

-- one step after another
pub next : {A B C D : Type 0} {Q : A → B → Type 0} {P : C → D → Type 0} (r : Result A Flaw) (s : Result B Flaw) (f : A → Result C Flaw) (g : B → Result D Flaw)
    → Follows Q r s → ((x : A) (y : B) → Q x y → Follows P (f x) (g y)) → Follows P (r >>= f) (s >>= g)
next (Ok x) (Ok y) f g h onward = onward x y h.holds
next (Ok x) (Err e) f g h onward = absurd h.holds
next (Err e) s f g h onward = record { holds = tt }

-- the same choice on both sides
pub either : {A B : Type 0} {Q : A → B → Type 0} (b c : Bool) (r r' : Result A Flaw) (s s' : Result B Flaw) → b ≡ c → Follows Q r s → Follows Q r' s' → Follows Q (cond b r r') (cond c s s')
either true true r r' s s' e one other = one
either true false r r' s s' e one other = cc
either false true r r' s s' e one other = cc
either false false r r' s s' e one other = other

-- the same choice, where each way may rest on it
pub either-so : {A B : Type 0} {Q : A → B → Type 0} (b c : Bool) (r r' : Result A Flaw) (s s' : Result B Flaw) → b ≡ c → (b ≡ true → Follows Q r s) → (b ≡ false → Follows Q r' s') → Follows Q (cond b r r') (cond c s s')
either-so true true r r' s s' e one other = one refl
either-so true false r r' s s' e one other = cc
either-so false true r r' s s' e one other = cc
either-so false false r r' s s' e one other = other refl

-- what the second gives, where the first gives this
pub given : {A B : Type 0} {Q : A → B → Type 0} (r : Result A Flaw) (s : Result B Flaw) (x : A) → Follows Q r s → r ≡ Ok x → (y : B) × (s ≡ Ok y) × Q x y
given {A} {B} {Q} r s x h is = there s (rw is at h.holds)
  where
    there : (s : Result B Flaw) → IsOkAnd s (Q x) → (y : B) × (s ≡ Ok y) × Q x y
    there (Ok y) q = (y, refl, q)
    there (Err e) q = absurd q

-- equal values, and what follows them is alike
abbrev pub Same : {A : Type 0} → List Token → A × List Token → A × List Token → Type 0
Same tail x y = (x.0 ≡ y.0) × Alike tail x.1 y.1

-- words that are spelled alike
abbrev pub SameWord : List Token → Spelled × List Token → Spelled × List Token → Type 0
SameWord tail x y = (x.0.text ≡ y.0.text) × Alike tail x.1 y.1

-- a value that was found or not, on both sides
pub both : {A : Type 0} (kind : YalKind) (w v : Spelled) (x y : Option A) → x ≡ y → Follows (λ (a b : A). a ≡ b) (or_bad kind w x) (or_bad kind v y)
both kind w v None y e = record { holds = tt }
both kind w v (Some a) None e = cc
both {A} kind w v (Some a) (Some b) e = record { holds = some_same a b e }
  where
    some_same : (a b : A) → Some a ≡ Some b → a ≡ b
    some_same a b e = cc
