use Rattle.std.proofs.Common.{◌≡◌, ◌⊎◌, inl, inr, ℕ, zero, suc, List, [], ◌∷◌, subst, Contains, Bool, false, cond, filter, ap}
use Rattle.std.specs.List.{insert}
use Rattle.std_laws.proofs.Members.{member-head, member-tail, member-cases, member-none}
use Rattle.std.proofs.lemmas.Bool.{cond-false}

-- the members of a list into which one is inserted
pub insert-cases : {X : Type 0} (x y : X) (xs : List X) (k : ℕ) → Contains (insert xs k x) y → (x ≡ y) ⊎ Contains xs y
insert-cases x y xs zero member = member-cases x xs y member
insert-cases x y [] (suc k) member = member-cases x [] y member
insert-cases x y (z ∷ zs) (suc k) member = elim (member-cases z (insert zs k x) y member) [
  | inl same ↦ inr (subst (λ w. Contains (z ∷ zs) w) same (member-head z zs))
  | inr later ↦ elim (insert-cases x y zs k later) [ inl same ↦ inl same | inr old ↦ inr (member-tail z zs y old) ]
]

pub insert-new : {X : Type 0} (x : X) (xs : List X) (k : ℕ) → Contains (insert xs k x) x
insert-new x xs zero = member-head x xs
insert-new x [] (suc k) = member-head x []
insert-new x (z ∷ zs) (suc k) = member-tail z (insert zs k x) x (insert-new x zs k)

pub insert-old : {X : Type 0} (x y : X) (xs : List X) (k : ℕ) → Contains xs y → Contains (insert xs k x) y
insert-old x y xs zero member = member-tail x xs y member
insert-old x y [] (suc k) member = absurd (member-none y member)
insert-old x y (z ∷ zs) (suc k) member = elim (member-cases z zs y member) [
  | inl same ↦ subst (λ w. Contains (z ∷ insert zs k x) w) same (member-head z (insert zs k x))
  | inr later ↦ member-tail z (insert zs k x) y (insert-old x y zs k later)
]

pub filter-insert : {X : Type 0} (p : X → Bool) (x : X) (xs : List X) (k : ℕ) → p x ≡ false → filter p (insert xs k x) ≡ filter p xs
filter-insert p x xs zero none = cond-false (p x) (x ∷ filter p xs) (filter p xs) none
filter-insert p x [] (suc k) none = cond-false (p x) (x ∷ []) [] none
filter-insert p x (z ∷ zs) (suc k) none = ap (λ l. cond (p z) (z ∷ l) l) (filter-insert p x zs k none)
