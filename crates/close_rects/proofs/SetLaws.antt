use Rattle.std.proofs.Common.{◌≡◌, ◌⊎◌, ℕ, List, ◌∷◌, Some, subst, sym, inl, inr, arith}
use Rattle.std.specs.Prelude.{Contains}
use Rattle.std.specs.List.{enumerate_from, slice_get}
use Rattle.std.specs.List.Sorted.{IsPermutation}
use Rattle.std.proofs.lemmas.List.Sorted.{Contains-permutation, IsPermutation-sym}
use Rattle.geom_core.specs.Extent.{Extent}
use Rattle.close_rects.specs.RectSets.{NoneIn, Takes}
use Rattle.close_rects.proofs.Once.{numbered_at, stands_at}
use Rattle.std_laws.proofs.Members.{member-head, member-cases, member-tail}
use Rattle.std.proofs.lemmas.List.Elements.{Contains-append_cases, Contains-append_left, Contains-append_right}

-- each rectangle of a list stands in a new set
pub all_stand : (rects : List Extent) (set : List (ℕ × Extent)) (k : ℕ) (rect : Extent) → IsPermutation (enumerate_from 0 rects) set
    → slice_get rects k ≡ Some rect → Contains set (k, rect)
all_stand rects set k rect moved is =
    Contains-permutation (enumerate_from 0 rects) set (k, rect) moved (numbered_at 0 rects k k rect is (omega arith))

-- and nothing else does
pub none_else : (rects : List Extent) (set : List (ℕ × Extent)) (p : ℕ × Extent) → IsPermutation (enumerate_from 0 rects) set → Contains set p
    → slice_get rects p.0 ≡ Some p.1
none_else rects set p moved among =
    stands_at rects p (Contains-permutation set (enumerate_from 0 rects) p (IsPermutation-sym (enumerate_from 0 rects) set moved) among)

-- what is taken was left
pub taken-contains : (rect : Extent) (number : ℕ) (before after : List (ℕ × Extent)) (takes : Takes rect number before after)
    → Contains before (number, takes.taken)
taken-contains rect number before after takes = rw takes.from
    (Contains-append_right takes.front ((number, takes.taken) ∷ takes.back) (number, takes.taken) (member-head (number, takes.taken) takes.back))

-- what is left after a taking was left before
pub before-contains : (rect : Extent) (number : ℕ) (before after : List (ℕ × Extent)) (p : ℕ × Extent) → Takes rect number before after
    → Contains after p → Contains before p
before-contains rect number before after p takes among = rw takes.from
    (elim (Contains-append_cases takes.front takes.back p (rw takes.left at among)) [
      | inl front ↦ Contains-append_left takes.front ((number, takes.taken) ∷ takes.back) p front
      | inr back ↦ Contains-append_right takes.front ((number, takes.taken) ∷ takes.back) p (member-tail (number, takes.taken) takes.back p back)
    ])

-- what was left is taken, or left still
pub after-contains : (rect : Extent) (number : ℕ) (before after : List (ℕ × Extent)) (p : ℕ × Extent) (takes : Takes rect number before after)
    → Contains before p → ((number, takes.taken) ≡ p) ⊎ Contains after p
after-contains rect number before after p takes among =
    elim (Contains-append_cases takes.front ((number, takes.taken) ∷ takes.back) p (rw takes.from at among)) [
      | inl front ↦ inr (rw takes.left (Contains-append_left takes.front takes.back p front))
      | inr later ↦ elim (member-cases (number, takes.taken) takes.back p later) [
        | inl same ↦ inl same
        | inr back ↦ inr (rw takes.left (Contains-append_right takes.front takes.back p back))
      ]
    ]

-- where none of a set is such, no rectangle in it is
pub NoneIn-at : (IsSuch : Extent → Type 0) (set : List (ℕ × Extent)) (p : ℕ × Extent) → NoneIn IsSuch set → Contains set p → ¬ IsSuch p.1
NoneIn-at IsSuch set p none (k, within, is) such = none k p within (subst (λ (q : ℕ × Extent). IsSuch q.1) (sym is) such)
