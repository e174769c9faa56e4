-- worked numbers of rows, seeds and estimates
use Rattle.std.proofs.Common.{◌≡◌, ◌-◌, ◌^◌, ℕ, zero, suc, [], ◌∷◌, Some, None, Option, refl}
use Rattle.placement_tries.specs.RowCounts.{row_list, rows_at}
use Rattle.placement_tries.specs.Taking.{first_least, seed_at}

rows-of-1 : row_list 1 ≡ 1 ∷ []
unfolding row_list
rows-of-1 = refl

-- 14/8 and 10/8 round to 2 and 1, and 3/2 is a half, which goes up
rows-of-2 : row_list 2 ≡ 2 ∷ 1 ∷ []
unfolding row_list
rows-of-2 = refl

rows-of-4 : row_list 4 ≡ 4 ∷ 3 ∷ 5 ∷ 2 ∷ []
unfolding row_list
rows-of-4 = refl

rows-of-20 : row_list 20 ≡ 20 ∷ 18 ∷ 15 ∷ 23 ∷ 13 ∷ 10 ∷ 8 ∷ []
unfolding row_list
rows-of-20 = refl

rows-of-512 : row_list 512 ≡ 512 ∷ 448 ∷ 384 ∷ 320 ∷ 256 ∷ 192 ∷ []
unfolding row_list
rows-of-512 = refl

rows-anew : rows_at 20 8 ≡ 18
unfolding rows_at row_list
rows-anew = refl

seed-past-the-last : seed_at (2 ^ 64 - 2) 5 ≡ 3
seed-past-the-last = refl

-- of two that are the least the first, and none where no other is
abbrev worked : ℕ → Option ℕ
worked zero = None
worked (suc zero) = Some 7
worked (suc (suc zero)) = Some 5
worked (suc (suc (suc zero))) = Some 9
worked (suc (suc (suc (suc n)))) = Some 5

the-first-of-two : first_least worked 5 ≡ 2
the-first-of-two = refl

the-first-of-none : first_least (λ (n : ℕ). None) 5 ≡ 0
the-first-of-none = refl
