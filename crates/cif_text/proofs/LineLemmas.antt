use Rattle.std.proofs.Common.{◌≡◌, refl, ap, sym, ◌∙◌, ◌++◌, ◌∷◌, [], List, ℕ, zero, suc, Bool, true, false, append_assoc}
use Rattle.std.specs.Prelude.{codes}
use Rattle.cif_text.specs.Printing.{blanked, flip_parts, quarter_parts}

-- a box's line, written piece by piece from its end
pub box-joined : (a b c d e f g n m x y u behind : List ℕ)
    → a ≡ (59 ∷ 10 ∷ []) ++ behind → b ≡ u ++ a → c ≡ 32 ∷ y ++ b → d ≡ 32 ∷ x ++ c → e ≡ 32 ∷ m ++ d → f ≡ 32 ∷ n ++ e → g ≡ (66 ∷ []) ++ f
    → g ≡ (66 ∷ (32 ∷ n ++ (32 ∷ m ++ (32 ∷ x ++ (32 ∷ y ++ u)))) ++ (59 ∷ 10 ∷ [])) ++ behind
box-joined a b c d e f g n m x y u behind first second third fourth fifth sixth last =
    rw (last, sixth, fifth, fourth, third, second, first) (simp append_assoc)

-- the parts of a turn, before the others
flip-first : (flip : Bool) (parts : List (List ℕ)) → blanked (flip_parts flip parts) ≡ blanked (flip_parts flip []) ++ blanked parts
flip-first true parts = refl
flip-first false parts = refl

quarter-first : (quarters : ℕ) (parts : List (List ℕ)) → blanked (quarter_parts quarters parts) ≡ blanked (quarter_parts quarters []) ++ blanked parts
quarter-first zero parts = refl
quarter-first (suc zero) parts = refl
quarter-first (suc (suc zero)) parts = refl
quarter-first (suc (suc (suc k))) parts = refl

turn-first : (flip : Bool) (quarters : ℕ) (parts : List (List ℕ))
    → blanked (flip_parts flip (quarter_parts quarters parts)) ≡ blanked (flip_parts flip []) ++ (blanked (quarter_parts quarters []) ++ blanked parts)
turn-first flip quarters parts =
    flip-first flip (quarter_parts quarters parts) ∙ ap (λ (text : List ℕ). blanked (flip_parts flip []) ++ text) (quarter-first quarters parts)

-- a call's line, written piece by piece from its end
regrouped : (n f q x y behind : List ℕ)
    → (67 ∷ []) ++ (32 ∷ n ++ (f ++ (q ++ ((32 ∷ 84 ∷ []) ++ (32 ∷ x ++ (32 ∷ y ++ ((59 ∷ 10 ∷ []) ++ behind)))))))
    ≡ (67 ∷ (32 ∷ n ++ (f ++ (q ++ blanked (codes "T" ∷ x ∷ y ∷ [])))) ++ (59 ∷ 10 ∷ [])) ++ behind
regrouped n f q x y behind = simp append_assoc

pub call-joined : (a b c d e f g h n x y behind : List ℕ) (flip : Bool) (quarters : ℕ)
    → a ≡ (59 ∷ 10 ∷ []) ++ behind → b ≡ 32 ∷ y ++ a → c ≡ 32 ∷ x ++ b → d ≡ (32 ∷ 84 ∷ []) ++ c
    → e ≡ blanked (quarter_parts quarters []) ++ d → f ≡ blanked (flip_parts flip []) ++ e → g ≡ 32 ∷ n ++ f → h ≡ (67 ∷ []) ++ g
    → h ≡ (67 ∷ blanked (n ∷ flip_parts flip (quarter_parts quarters (codes "T" ∷ x ∷ y ∷ []))) ++ (59 ∷ 10 ∷ [])) ++ behind
call-joined a b c d e f g h n x y behind flip quarters first second third fourth fifth sixth seventh last =
    rw (last, seventh, sixth, fifth, fourth, third, second, first)
    (regrouped n (blanked (flip_parts flip [])) (blanked (quarter_parts quarters [])) x y behind
    ∙ ap (λ (text : List ℕ). (67 ∷ (32 ∷ n ++ text) ++ (59 ∷ 10 ∷ [])) ++ behind) (sym (turn-first flip quarters (codes "T" ∷ x ∷ y ∷ []))))
