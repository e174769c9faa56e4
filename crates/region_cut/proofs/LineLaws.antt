use Rattle.std.proofs.Common.{◌≡◌, ◌<◌, ◌≤◌, ◌-◌, ◌<ℤ◌, ℕ, zero, suc, List, [], ◌∷◌, length, map, ℤ, pos, All, Ordering, SFits, to_z, of_z, w64, arith, refl, subst}
use Rattle.std.proofs.lemmas.Cmp.{int_ranked}
use Rattle.std.proofs.lemmas.List.Elements.{All-cons, All-nil, All-weaker}
use Rattle.std.proofs.lemmas.Map.Views.{All-insert_key}
use Rattle.std.specs.declared.cmp.Ordering.TheVariants.{Less, Equal, Greater}
use Rattle.region_cut.specs.Grids.{ascending, line}
use Rattle.std.proofs.lemmas.Int.{ints, to_z-of_z}
use Rattle.std.specs.BTreeSet.{insert_key}
use Rattle.std.specs.List.{flat_map, fold}
use Rattle.std.specs.Ordering.{MatchOrdering, int_cmp, match_ordering}

-- one number more, which is written and read back
pub one-line : {X : Type 0} (f : X → ℤ) (found keys all : List ℤ) (x : X) (rest later : List X) → SFits w64 (f x) → rest ≡ x ∷ later
    → keys ≡ insert_key int_cmp found (to_z w64 (of_z w64 (f x))) → fold (insert_key int_cmp) found (map f rest) ≡ all → fold (insert_key int_cmp) keys (map f later) ≡ all
one-line {X} f found keys all x rest later fits is more was =
    let read : keys ≡ insert_key int_cmp found (f x) = rw (to_z-of_z w64 (f x) fits) at more in
    rw read (subst (λ (l : List X). fold (insert_key int_cmp) found (map f l) ≡ all) is was)

-- two numbers more
pub two-lines : {X : Type 0} (f g : X → ℤ) (found keys both all : List ℤ) (x : X) (a b : ℤ) (rest later : List X) → SFits w64 a → SFits w64 b → a ≡ f x → b ≡ g x → rest ≡ x ∷ later
    → keys ≡ insert_key int_cmp found (to_z w64 (of_z w64 a)) → both ≡ insert_key int_cmp keys (to_z w64 (of_z w64 b))
    → fold (insert_key int_cmp) found (flat_map (λ r. f r ∷ (g r ∷ [])) rest) ≡ all → fold (insert_key int_cmp) both (flat_map (λ r. f r ∷ (g r ∷ [])) later) ≡ all
two-lines {X} f g found keys both all x a b rest later first second low high is one two was =
    let read : keys ≡ insert_key int_cmp found a = rw (to_z-of_z w64 a first) at one in
    let again : both ≡ insert_key int_cmp keys b = rw (to_z-of_z w64 b second) at two in
    rw (again, read, low, high) (subst (λ (l : List X). fold (insert_key int_cmp) found (flat_map (λ r. f r ∷ (g r ∷ [])) l) ≡ all) is was)

-- numbers each of which is below the next
abbrev pub Rises : List ℤ → Type 0
Rises [] = Unit {0}
Rises (x ∷ xs) = All (λ y. x <ℤ y) xs × Rises xs

rises-key : (keys : List ℤ) (z : ℤ) → Rises keys → Rises (insert_key int_cmp keys z)
rises-key [] z up = (All-nil (λ y. z <ℤ y), tt)
rises-key (x ∷ xs) z up = by (int_cmp z x) (int_ranked z x (int_cmp z x) refl) (rises-key xs z up.1)
  where
    under : (a b c : ℤ) → a <ℤ b → b <ℤ c → a <ℤ c
    under a b c first second = omega (arith, ints)

    by : (o : Ordering) → MatchOrdering o (z <ℤ x) (z ≡ x) (x <ℤ z) → Rises (insert_key int_cmp xs z) → Rises (match_ordering o (z ∷ (x ∷ xs)) (x ∷ xs) (x ∷ insert_key int_cmp xs z))
    by Less is rest = (All-cons (λ y. z <ℤ y) x xs is (All-weaker (λ y. x <ℤ y) (λ y. z <ℤ y) (λ y more. under z x y is more) xs up.0), up)
    by Equal is rest = up
    by Greater is rest = (All-insert_key int_cmp z (λ y. x <ℤ y) xs up.0 is, rest)

rises-keys : (found zs : List ℤ) → Rises found → Rises (fold (insert_key int_cmp) found zs)
rises-keys found [] up = up
rises-keys found (z ∷ zs) up = rises-keys (insert_key int_cmp found z) zs (rises-key found z up)

-- the numbers that lines have
pub rises-ascending : (numbers : List ℤ) → Rises (ascending numbers)
unfolding ascending
rises-ascending numbers = rises-keys [] numbers tt

-- a line lies below those behind it
pub rises-lines : (lines : List ℤ) (i j : ℕ) → Rises lines → i < j → j < length lines → line lines i <ℤ line lines j
rises-lines [] i j up less within = absurd (omega arith)
rises-lines (x ∷ xs) i zero up less within = absurd (omega arith)
rises-lines (x ∷ xs) zero (suc j) up less within = up.0 j (pos 0) (omega arith)
rises-lines (x ∷ xs) (suc i) (suc j) up less within = rises-lines xs i j up.1 (omega arith) (omega arith)

-- two lines, as they are written and read back
pub read-lines : (lines all : List ℤ) (i j : ℕ) → Rises all → lines ≡ all → i < j → j ≤ length all - 1 → SFits w64 (line lines i) → SFits w64 (line lines j)
    → to_z w64 (of_z w64 (line lines i)) <ℤ to_z w64 (of_z w64 (line lines j))
read-lines lines all i j up are less within first second =
    rw (to_z-of_z w64 (line lines i) first, to_z-of_z w64 (line lines j) second, are) (rises-lines all i j up less (omega arith))
