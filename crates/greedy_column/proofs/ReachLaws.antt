use Rattle.std.proofs.Common.{◌≡◌, ◌<◌, ◌-◌, ◌++◌, ℕ, zero, suc, List, [], ◌∷◌, length, replicate, get_or, refl, sym, ap, ◌∙◌, arith, append_assoc, length-append}

-- a list that is lengthened to so many items, with one of them added
pub lengthened_more : (xs : List ℕ) (n x : ℕ) → length xs < n
    → (xs ++ x ∷ []) ++ replicate (n - length (xs ++ x ∷ [])) x ≡ xs ++ replicate (n - length xs) x
lengthened_more xs n x short =
    let left : n - length xs ≡ suc (n - length (xs ++ x ∷ [])) = omega (arith, length-append xs (x ∷ [])) in
    append_assoc xs (x ∷ []) (replicate (n - length (xs ++ x ∷ [])) x) ∙ ap (λ m. xs ++ replicate m x) (sym left)

-- a 0 at the end is read as what is past the end
zero_added : (xs : List ℕ) (k : ℕ) → get_or (xs ++ 0 ∷ []) k 0 ≡ get_or xs k 0
zero_added [] zero = refl
zero_added [] (suc k) = refl
zero_added (x ∷ xs) zero = refl
zero_added (x ∷ xs) (suc k) = zero_added xs k

pub none_added : (xs : List ℕ) (x k : ℕ) → x ≡ 0 → get_or (xs ++ x ∷ []) k 0 ≡ get_or xs k 0
none_added xs x k none = ap (λ y. get_or (xs ++ y ∷ []) k 0) none ∙ zero_added xs k
