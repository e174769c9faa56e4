use Rattle.std.proofs.Common.{◌≡◌, ◌++◌, ◌∷◌, ℕ, List, [], Bool, true, false, cond, map, refl}
use Rattle.std.specs.Prelude.{filter}
use Rattle.std.specs.List.{concat}

-- the texts of those items that pass a test are that of the first, if it does, and those of the others
pub filtered-first : {X : Type 0} (p : X → Bool) (text : X → List ℕ) (x : X) (xs : List X)
    → concat (map text (filter p (x ∷ xs))) ≡ cond (p x) (text x) [] ++ concat (map text (filter p xs))
filtered-first {X} p text x xs = by (p x) (filter p xs)
  where
    by : (b : Bool) (ys : List X) → concat (map text (cond b (x ∷ ys) ys)) ≡ cond b (text x) [] ++ concat (map text ys)
    by true ys = refl
    by false ys = refl
