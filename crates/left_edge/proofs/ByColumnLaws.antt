use Rattle.std.proofs.Common.{◌≡◌, ◌<◌, ◌+◌, ◌++◌, Bool, ℕ, zero, suc, List, [], ◌∷◌, inl, inr, refl, sym, ap, ap₂, ◌∙◌, arith, All, Contains, filter, add-one}
use Rattle.std.proofs.lemmas.Bool.{cases_eq}
use Rattle.std.proofs.lemmas.List.{append_assoc}
use Rattle.std.proofs.lemmas.List.Elements.{All-nil, All-append, Contains-append_left, Contains-append_right, filter-append}
use Rattle.left_edge.specs.EdgeWiring.{by_column}

-- what holds of what is made of each column holds of all
pub All-by_column : {A : Type 0} (P : A → Type 0) (f : ℕ → List A) (n : ℕ) → ((column : ℕ) → column < n → All P (f column)) → All P (by_column f n)
All-by_column P f zero each = All-nil P
All-by_column P f (suc n) each =
    All-append P (by_column f n) (f n) (All-by_column P f n (λ column below. each column (omega arith))) (each n (omega arith))

-- what is made of a column is there
pub Contains-by_column : {A : Type 0} (f : ℕ → List A) (n column : ℕ) (a : A) → column < n → Contains (f column) a → Contains (by_column f n) a
Contains-by_column f zero column a below there = absurd (omega arith)
Contains-by_column f (suc n) column a below there =
    elim (cases_eq column n) [
      | inl same ↦ Contains-append_right (by_column f n) (f n) a (rw same at there)
      | inr other ↦ Contains-append_left (by_column f n) (f n) a (Contains-by_column f n column a (omega arith) there)
    ]

-- where nothing of a column passes a test, nothing of all does
pub filter-by_column : {A : Type 0} (p : A → Bool) (f : ℕ → List A) → ((column : ℕ) → filter p (f column) ≡ []) → (n : ℕ) → filter p (by_column f n) ≡ []
filter-by_column p f none zero = refl
filter-by_column {A} p f none (suc n) =
    filter-append p (by_column f n) (f n) ∙ ap₂ (λ (xs ys : List A). xs ++ ys) (filter-by_column p f none n) (none n)

-- a step of a loop over the columns
pub by_column-more : {A : Type 0} (f : ℕ → List A) (n : ℕ) (start : List A) → (start ++ by_column f n) ++ f n ≡ start ++ by_column f (n + 1)
by_column-more f n start = rw add-one (append_assoc start (by_column f n) (f n))

pub by_column-push : {A : Type 0} (f : ℕ → List A) (n : ℕ) (items start : List A) (a : A) → items ≡ start ++ by_column f n → f n ≡ a ∷ []
    → items ++ a ∷ [] ≡ start ++ by_column f (n + 1)
by_column-push {A} f n items start a were one =
    let none : List A = [] in
    rw were (ap (λ (l : List A). (start ++ by_column f n) ++ l) (sym one) ∙ by_column-more f n start)
