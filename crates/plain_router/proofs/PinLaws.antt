use Rattle.std.proofs.Common.{◌≡◌, ◌<◌, ◌+◌, ◌++◌, cond, eqb, ℕ, zero, suc, List, [], ◌∷◌, inl, inr, refl, ◌∙◌, arith, All, Contains, Option, length, get_or, map, add-one}
use Rattle.std.proofs.lemmas.Bool.{cases_eq, cond_both, cond-false, eqb-false, ne_eqb}
use Rattle.std.proofs.lemmas.List.{append_assoc, get_or-map}
use Rattle.std.proofs.lemmas.List.Elements.{All-nil, All-append, Contains-append_left, Contains-append_right}
use Rattle.channel_model.specs.declared.reach.Reach.{Reach}
use Rattle.channel_model.specs.Reach.{reach_of}
use Rattle.plain_router.specs.Plain.{for_pins, for_nets}
use Rattle.std_laws.proofs.Members.{All-of_one}

-- what holds of what is made of each pin holds of all
pub All-for_pins : {A : Type 0} (P : A → Type 0) (f : ℕ → ℕ → A) (side : List ℕ) (n : ℕ)
    → ((column : ℕ) → column < n → 0 < get_or side column 0 → P (f (get_or side column 0) column)) → All P (for_pins f side n)
All-for_pins P f side zero each = All-nil P
All-for_pins {A} P f side (suc n) each =
    let net = get_or side n 0 in
    let none : List A = [] in
    All-append P (for_pins f side n) (cond (eqb net 0) none (f net n ∷ none))
    (All-for_pins P f side n (λ column below some. each column (omega arith) some))
    (cond_both (eqb net 0) none (f net n ∷ none) (All P) (λ t. All-nil P)
    (λ lacking. let some = eqb-false net 0 lacking in All-of_one P (f net n) (each n (omega arith) (omega arith))))

-- what is made of a pin is there
pub Contains-for_pins : {A : Type 0} (f : ℕ → ℕ → A) (side : List ℕ) (n column : ℕ) → column < n → 0 < get_or side column 0
    → Contains (for_pins f side n) (f (get_or side column 0) column)
Contains-for_pins f side zero column below some = absurd (omega arith)
Contains-for_pins {A} f side (suc n) column below some =
    let net = get_or side n 0 in
    let none : List A = [] in
    let last : List A = cond (eqb net 0) none (f net n ∷ none) in
    elim (cases_eq column n) [
      | inl e ↦
          let here : 0 < net = rw e at some in
          let there : last ≡ f net n ∷ none = cond-false (eqb net 0) none (f net n ∷ none) (ne_eqb net 0 (λ no. omega arith)) in
          rw (e, there) (Contains-append_right (for_pins f side n) (f net n ∷ none) (f net n) (0, omega arith, refl))
      | inr ne ↦ Contains-append_left (for_pins f side n) last (f (get_or side column 0) column)
          (Contains-for_pins f side n column (omega arith) some)
    ]

-- likewise of the nets
pub All-for_nets : {A : Type 0} (P : A → Type 0) (f : ℕ → ℕ → List A) (nets : List ℕ) (n : ℕ)
    → ((place : ℕ) → place < n → All P (f (get_or nets place 0) place)) → All P (for_nets f nets n)
All-for_nets P f nets zero each = All-nil P
All-for_nets P f nets (suc n) each =
    All-append P (for_nets f nets n) (f (get_or nets n 0) n)
    (All-for_nets P f nets n (λ place below. each place (omega arith))) (each n (omega arith))

pub Contains-for_nets : {A : Type 0} (f : ℕ → ℕ → List A) (nets : List ℕ) (n place : ℕ) (a : A) → place < n
    → Contains (f (get_or nets place 0) place) a → Contains (for_nets f nets n) a
Contains-for_nets f nets zero place a below there = absurd (omega arith)
Contains-for_nets f nets (suc n) place a below there =
    elim (cases_eq place n) [
      | inl e ↦ Contains-append_right (for_nets f nets n) (f (get_or nets n 0) n) a (rw e at there)
      | inr ne ↦ Contains-append_left (for_nets f nets n) (f (get_or nets n 0) n) a (Contains-for_nets f nets n place a (omega arith) there)
    ]

pub for_pins-push : {A : Type 0} (f : ℕ → ℕ → A) (side : List ℕ) (n : ℕ) (start : List A) → (get_or side n 0 ≡ 0 → ⊥)
    → (start ++ for_pins f side n) ++ f (get_or side n 0) n ∷ [] ≡ start ++ for_pins f side (n + 1)
for_pins-push {A} f side n start some =
    let none : List A = [] in
    rw (add-one, cond-false (eqb (get_or side n 0) 0) none (f (get_or side n 0) n ∷ none) (ne_eqb _ _ some))
    (append_assoc start (for_pins f side n) (f (get_or side n 0) n ∷ none))

-- and over the nets
pub for_nets-more : {A : Type 0} (f : ℕ → ℕ → List A) (nets : List ℕ) (n : ℕ) (start : List A)
    → (start ++ for_nets f nets n) ++ f (get_or nets n 0) n ≡ start ++ for_nets f nets (n + 1)
for_nets-more f nets n start = rw add-one (append_assoc start (for_nets f nets n) (f (get_or nets n 0) n))

-- the reach that is read from the reaches along an edge
pub reach_of-read : (side edge nets : List ℕ) (place : ℕ) (reaches : List (Option Reach)) (reach : Option Reach) → edge ≡ side → place < length nets
    → reaches ≡ map (λ net. reach_of edge net (length edge)) nets → reach ≡ get_or reaches place reach
    → reach ≡ reach_of side (get_or nets place 0) (length side)
reach_of-read side edge nets place reaches reach same within made read =
    rw (made, same) at read ∙ get_or-map (λ net. reach_of side net (length side)) nets place 0 reach within
