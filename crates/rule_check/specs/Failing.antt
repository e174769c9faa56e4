-- the members of a list that fail, and the pairs of members that fail with each other
use Rattle.std.specs.Prelude.{◌≡◌, ℕ, ◌+◌, List, [], ◌∷◌, ◌++◌, length, map, take, nat_le, Bool, if◌then◌else◌}
use Rattle.limits.specs.declared.TheConstants.{MOST_PAIRS}
use Rattle.rule_check.specs.declared.pairs.Pairs.{Pairs}

-- the numbers of the members of a list that fail, where the first has this number
abbrev pub failing_from : {A : Type 0} → (A → Bool) → ℕ → List A → List ℕ
failing_from fails n [] = []
failing_from fails n (x ∷ xs) = if fails x then n ∷ failing_from fails (n + 1) xs else failing_from fails (n + 1) xs

-- the numbers of those that fail, from 0 on
abbrev pub failing : {A : Type 0} → (A → Bool) → List A → List ℕ
failing fails xs = failing_from fails 0 xs

-- the numbers of two members of which the earlier fails with the later: each with all those after it, in order
abbrev pub failing_pairs_from : {A : Type 0} → (A → A → Bool) → ℕ → List A → List (ℕ × ℕ)
failing_pairs_from fail n [] = []
failing_pairs_from fail n (x ∷ xs) = map (λ later. (n, later)) (failing_from (fail x) (n + 1) xs) ++ failing_pairs_from fail (n + 1) xs

abbrev pub failing_pairs : {A : Type 0} → (A → A → Bool) → List A → List (ℕ × ℕ)
failing_pairs fail xs = failing_pairs_from fail 0 xs

-- the first thousand of these pairs, and whether they are all
pub record AreFirstOf (all : List (ℕ × ℕ)) (pairs : Pairs) : Type 0 where
  pub list : pairs.list.items ≡ take MOST_PAIRS all
  pub whole : pairs.whole ≡ nat_le (length all) MOST_PAIRS
