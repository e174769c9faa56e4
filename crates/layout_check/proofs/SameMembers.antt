use Rattle.std.proofs.Common.{◌≡◌, ℕ, List, [], ◌∷◌, false, refl, sym, subst, inl, inr}
use Rattle.std.specs.Prelude.{Contains}
use Rattle.std.specs.List.{IsDistinct, remove}
use Rattle.std.specs.List.Sorted.{IsPermutation}
use Rattle.std.specs.Str.{bytes_eq}
use Rattle.std.proofs.lemmas.Bool.{both_ways}
use Rattle.std.proofs.lemmas.List.Sorted.{Contains-permutation, IsPermutation-cons, IsPermutation-refl, IsPermutation-remove, IsPermutation-sym, IsPermutation-trans}
use Rattle.std.proofs.lemmas.Map.Keys.{IsDistinct-head, IsDistinct-IsPermutation, IsDistinct-tail}
use Rattle.rule_check.proofs.FailingLaws.{none-empty}
use Rattle.std_laws.proofs.Every.{every-get}
use Rattle.std_laws.proofs.Members.{contains-get, member-cases, member-head, member-tail, empty-none}
use Rattle.std_laws.proofs.Bytes.{bytes_same, bytes-flips}

-- the first of different names is none of the others
not-behind : (x : List ℕ) (xs : List (List ℕ)) → IsDistinct bytes_eq (x ∷ xs) → ¬ Contains xs x
not-behind x xs different among =
    both_ways (bytes_eq x x)
    (every-get (λ (y : List ℕ). bytes_eq x y ≡ false) xs among.0 x (IsDistinct-head bytes_eq x xs different) (contains-get xs x among)) (bytes_same x)

-- different names with the same members are each other's in some order
pub same-members : (xs ys : List (List ℕ)) → IsDistinct bytes_eq xs → IsDistinct bytes_eq ys → ((x : List ℕ) → Contains xs x → Contains ys x)
    → ((x : List ℕ) → Contains ys x → Contains xs x) → IsPermutation xs ys
same-members [] ys dx dy into back =
    subst (λ (l : List (List ℕ)). IsPermutation [] l) (sym (empty-none ys (λ x among. none-empty [] x refl (back x among)))) (IsPermutation-refl [])
same-members (x ∷ xs) ys dx dy into back =
    let at : Contains ys x = into x (member-head x xs) in
    let rest : List (List ℕ) = remove ys at.0 in
    let moved : IsPermutation ys (x ∷ rest) = IsPermutation-remove ys at.0 x at.1 (sym at.2) in
    let different : IsDistinct bytes_eq (x ∷ rest) = IsDistinct-IsPermutation bytes_eq bytes-flips ys (x ∷ rest) moved dy in
    let later : IsPermutation xs rest =
    same-members xs rest (IsDistinct-tail bytes_eq x xs dx) (IsDistinct-tail bytes_eq x rest different)
    (λ y among. elim (member-cases x rest y (Contains-permutation ys (x ∷ rest) y moved (into y (member-tail x xs y among)))) [
      | inl same ↦ absurd (not-behind x xs dx (subst (λ (z : List ℕ). Contains xs z) (sym same) among))
      | inr there ↦ there
    ])
    (λ y among. elim (member-cases x xs y (back y (Contains-permutation (x ∷ rest) ys y (IsPermutation-sym ys (x ∷ rest) moved) (member-tail x rest y among)))) [
      | inl same ↦ absurd (not-behind x rest different (subst (λ (z : List ℕ). Contains rest z) (sym same) among))
      | inr there ↦ there
    ]) in
    IsPermutation-trans (x ∷ xs) (x ∷ rest) ys (IsPermutation-cons x xs rest later) (IsPermutation-sym ys (x ∷ rest) moved)
