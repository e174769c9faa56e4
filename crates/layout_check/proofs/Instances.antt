use Rattle.std.proofs.Common.{◌≡◌, ◌+◌, ℕ, List, [], ◌∷◌, Bool, if◌then◌else◌, not, map, refl, ap, sym, ◌∙◌}
use Rattle.std.specs.List.{find, list_any, slice_get}
use Rattle.std.specs.Str.{bytes_eq}
use Rattle.std.proofs.lemmas.List.Folds.{find_at}
use Rattle.list_facts.specs.Names.{mentions, place_among}
use Rattle.list_facts.proofs.Mentioned.{any-mentions}
use Rattle.design_model.specs.declared.design.Inst.{Inst}
use Rattle.rule_check.specs.Failing.{failing, failing_from}
use Rattle.std_laws.proofs.Bytes.{bytes-flips}
use Rattle.std_laws.proofs.Searches.{place-map, place-same}

-- the instance of a name stands at the name's place
pub find-place : (insts : List Inst) (name : List ℕ)
    → find (λ (i : Inst). bytes_eq i.name name) insts ≡ slice_get insts (place_among (map (λ (i : Inst). i.name) insts) name)
find-place insts name =
    find_at (λ (i : Inst). bytes_eq i.name name) insts
    ∙ ap (slice_get insts)
    (place-same (λ (i : Inst). bytes_eq i.name name) (λ (i : Inst). bytes_eq name i.name) insts (λ n i is. bytes-flips i.name name)
    ∙ sym (place-map (λ (i : Inst). i.name) (bytes_eq name) insts))

failing-same : {A : Type 0} (p q : A → Bool) → ((x : A) → p x ≡ q x) → (n : ℕ) (xs : List A) → failing_from p n xs ≡ failing_from q n xs
failing-same p q same n [] = refl
failing-same p q same n (x ∷ xs) =
    ap (λ t. if t then n ∷ failing_from p (n + 1) xs else failing_from p (n + 1) xs) (same x)
    ∙ ap (λ rest. if q x then n ∷ rest else rest) (failing-same p q same (n + 1) xs)

-- names are sought among others just as among the different ones of those
pub sought-mentions : (names others : List (List ℕ))
    → failing (λ (name : List ℕ). not (list_any (bytes_eq name) (mentions others))) names ≡ failing (λ (name : List ℕ). not (list_any (bytes_eq name) others)) names
sought-mentions names others =
    failing-same (λ (name : List ℕ). not (list_any (bytes_eq name) (mentions others))) (λ (name : List ℕ). not (list_any (bytes_eq name) others))
    (λ name. ap not (any-mentions [] others name)) 0 names
