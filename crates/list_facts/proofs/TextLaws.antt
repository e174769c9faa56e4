use Rattle.std.proofs.Common.{◌≡◌, ℕ, suc, ◌+◌, List, [], ◌∷◌, ◌++◌, length, Bool, true, false, not, cond, ◌||◌, refl, ap}
use Rattle.std.specs.Borrow.{Bor}
use Rattle.std.specs.List.{list_any, position_or_len}
use Rattle.std.specs.Str.{bytes_eq}
use Rattle.indexmap.specs.IndexSet.{insert_key}
use Rattle.list_facts.specs.Names.{mention, place_among}
use Rattle.list_facts.specs.Texts.{texts}

-- the test by which a set tells borrowed names apart
abbrev pub same : Bor (List ℕ) → Bor (List ℕ) → Bool
same x y = bytes_eq x.now y.now

-- a name is among borrowed names just where its text is among their texts
pub any-texts : (name : Bor (List ℕ)) (keys : List (Bor (List ℕ))) → list_any (same name) keys ≡ list_any (bytes_eq name.now) (texts keys)
any-texts name [] = refl
any-texts name (k ∷ ks) = ap (λ (b : Bool). same name k || b) (any-texts name ks)

-- and it stands at the same place
pub place-texts : (name : Bor (List ℕ)) (keys : List (Bor (List ℕ))) → position_or_len (same name) keys ≡ place_among (texts keys) name.now
place-texts name [] = refl
place-texts name (k ∷ ks) = ap (λ (n : ℕ). cond (not (same name k)) (1 + n) 0) (place-texts name ks)

pub texts-append : (keys more : List (Bor (List ℕ))) → texts (keys ++ more) ≡ texts keys ++ texts more
texts-append [] more = refl
texts-append (k ∷ ks) more = ap (λ (l : List (List ℕ)). k.now ∷ l) (texts-append ks more)

pub length-texts : (keys : List (Bor (List ℕ))) → length (texts keys) ≡ length keys
length-texts [] = refl
length-texts (k ∷ ks) = ap (λ (n : ℕ). suc n) (length-texts ks)

-- putting a borrowed name into a set mentions its text
pub texts-insert : (keys : List (Bor (List ℕ))) (name : Bor (List ℕ)) → texts (insert_key same keys name) ≡ mention (texts keys) name.now
texts-insert keys name =
    rw (← any-texts name keys) (by (list_any (same name) keys))
  where
    by : (b : Bool) → texts (cond b keys (keys ++ name ∷ [])) ≡ cond b (texts keys) (texts keys ++ name.now ∷ [])
    by true = refl
    by false = texts-append keys (name ∷ [])
