use Rattle.std.proofs.Common.{◌≡◌, ℕ, List, Some, suc, ◌∷◌, ◌+◌, zero, [], ◌++◌, length, arith, ◌⊎◌, inl, inr, map, subst, refl, ap}
use Rattle.std.specs.List.{slice_get, range_with_len}
use Rattle.std.specs.Prelude.{Contains}
use Rattle.std_laws.proofs.Members.{member-head, member-tail, member-cases}

-- at one place of two lists
pub record At {X Y : Type 0} (xs : List X) (ys : List Y) (x : X) (y : Y) : Type 0 where
  pub place : ℕ
  pub first : slice_get xs place ≡ Some x
  pub second : slice_get ys place ≡ Some y

pub At-later : {X Y : Type 0} (a : X) (b : Y) (xs : List X) (ys : List Y) (x : X) (y : Y) → At xs ys x y → At (a ∷ xs) (b ∷ ys) x y
At-later a b xs ys x y at = record { place = suc at.place; first = at.first; second = at.second }

pub At-left : {X Y : Type 0} (xs zs : List X) (ys ws : List Y) (x : X) (y : Y) → At xs ys x y → At (xs ++ zs) (ys ++ ws) x y
At-left xs zs ys ws x y at = record { place = at.place; first = front xs zs at.place x at.first; second = front ys ws at.place y at.second }
  where
    front : {Z : Type 0} (us vs : List Z) (k : ℕ) (z : Z) → slice_get us k ≡ Some z → slice_get (us ++ vs) k ≡ Some z
    front [] vs k z is = let never : ⊥ = cc in absurd never
    front (a ∷ us) vs zero z is = is
    front (a ∷ us) vs (suc k) z is = front us vs k z is

pub At-right : {X Y : Type 0} (xs zs : List X) (ys ws : List Y) (x : X) (y : Y) → length xs ≡ length ys → At zs ws x y → At (xs ++ zs) (ys ++ ws) x y
At-right [] zs [] ws x y len at = at
At-right [] zs (b ∷ ys) ws x y len at = absurd (omega arith)
At-right (a ∷ xs) zs [] ws x y len at = absurd (omega arith)
At-right (a ∷ xs) zs (b ∷ ys) ws x y len at = At-later a b (xs ++ zs) (ys ++ ws) x y (At-right xs zs ys ws x y (omega arith) at)

pub At-append : {X Y : Type 0} (xs zs : List X) (ys ws : List Y) (x : X) (y : Y) → length xs ≡ length ys → At (xs ++ zs) (ys ++ ws) x y
    → At xs ys x y ⊎ At zs ws x y
At-append [] zs [] ws x y len at = inr at
At-append [] zs (b ∷ ys) ws x y len at = absurd (omega arith)
At-append (a ∷ xs) zs [] ws x y len at = absurd (omega arith)
At-append (a ∷ xs) zs (b ∷ ys) ws x y len at = go (λ rest. At-append xs zs ys ws x y (omega arith) rest) at.place at.first at.second
  where
    go : (At (xs ++ zs) (ys ++ ws) x y → At xs ys x y ⊎ At zs ws x y) → (k : ℕ) → slice_get (a ∷ (xs ++ zs)) k ≡ Some x → slice_get (b ∷ (ys ++ ws)) k ≡ Some y → At (a ∷ xs) (b ∷ ys) x y ⊎ At zs ws x y
    go later zero first second = inl (record { place = 0; first = first; second = second })
    go later (suc k) first second = elim (later (record { place = k; first = first; second = second })) [
      | inl left ↦ inl (At-later a b xs ys x y left)
      | inr right ↦ inr right
    ]

-- what stands at one place of two images
pub At-images : {X Y Z : Type 0} (f : X → Y) (g : X → Z) (xs : List X) (y : Y) (z : Z) → At (map f xs) (map g xs) y z
    → (x : X) × Contains xs x × (f x ≡ y) × (g x ≡ z)
At-images f g [] y z at = let never : ⊥ = cc (at.first) in absurd never
At-images {X = X} f g (x ∷ xs) y z at = go (λ rest. At-images f g xs y z rest) at.place at.first at.second
  where
    go : (At (map f xs) (map g xs) y z → (w : X) × Contains xs w × (f w ≡ y) × (g w ≡ z)) → (k : ℕ) → slice_get (f x ∷ map f xs) k ≡ Some y
        → slice_get (g x ∷ map g xs) k ≡ Some z → (w : X) × Contains (x ∷ xs) w × (f w ≡ y) × (g w ≡ z)
    go later zero first second = (x, member-head x xs, cc, cc)
    go later (suc k) first second =
        let rest = later (record { place = k; first = first; second = second }) in
        (rest.0, member-tail x xs rest.0 rest.1, rest.2, rest.3)

pub images-At : {X Y Z : Type 0} (f : X → Y) (g : X → Z) (xs : List X) (x : X) → Contains xs x → At (map f xs) (map g xs) (f x) (g x)
images-At f g [] x (k, within, is) = absurd (omega arith)
images-At f g (w ∷ xs) x among = elim (member-cases w xs x among) [
  | inl same ↦ subst (λ v. At (f w ∷ map f xs) (g w ∷ map g xs) (f v) (g v)) same (record { place = 0; first = refl; second = refl })
  | inr later ↦ At-later (f w) (g w) (map f xs) (map g xs) (f x) (g x) (images-At f g xs x later)
]

-- what stands at one place of an image and of numbers in order
pub At-numbered : {X Y : Type 0} (f : X → Y) (n : ℕ) (xs : List X) (y : Y) (k : ℕ) → At (map f xs) (range_with_len n (length xs)) y k
    → (x : X) × (j : ℕ) × (k ≡ n + j) × (slice_get xs j ≡ Some x) × (f x ≡ y)
At-numbered f n [] y k at = let never : ⊥ = cc (at.first) in absurd never
At-numbered {X = X} f n (x ∷ xs) y k at = go (λ rest. At-numbered f (n + 1) xs y k rest) at.place at.first at.second
  where
    go : (At (map f xs) (range_with_len (n + 1) (length xs)) y k → (w : X) × (i : ℕ) × (k ≡ n + 1 + i) × (slice_get xs i ≡ Some w) × (f w ≡ y))
        → (j : ℕ) → slice_get (f x ∷ map f xs) j ≡ Some y → slice_get (n ∷ range_with_len (n + 1) (length xs)) j ≡ Some k
        → (w : X) × (i : ℕ) × (k ≡ n + i) × (slice_get (x ∷ xs) i ≡ Some w) × (f w ≡ y)
    go later zero first second = let same : n ≡ k = cc in (x, 0, omega arith, refl, cc)
    go later (suc j) first second =
        let rest = later (record { place = j; first = first; second = second }) in
        (rest.0, suc rest.1, omega (arith, rest.2), rest.3, rest.4)

pub numbered-At : {X Y : Type 0} (f : X → Y) (n : ℕ) (xs : List X) (j : ℕ) (x : X) → slice_get xs j ≡ Some x
    → At (map f xs) (range_with_len n (length xs)) (f x) (n + j)
numbered-At f n [] j x is = let never : ⊥ = cc in absurd never
numbered-At f n (w ∷ xs) zero x is =
    let same : w ≡ x = cc in
    let here : n ≡ n + 0 = omega arith in
    record { place = 0; first = ap (λ v. Some (f v)) same; second = ap Some here }
numbered-At f n (w ∷ xs) (suc j) x is =
    let step : n + 1 + j ≡ n + suc j = omega arith in
    subst (λ k. At (f w ∷ map f xs) (n ∷ range_with_len (n + 1) (length xs)) (f x) k) step
    (At-later (f w) n (map f xs) (range_with_len (n + 1) (length xs)) (f x) (n + 1 + j) (numbered-At f (n + 1) xs j x is))
