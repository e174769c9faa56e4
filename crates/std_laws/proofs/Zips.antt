use Rattle.std.proofs.Common.{◌≡◌, ℕ, zero, suc, List, [], ◌∷◌, Some, ap, length, refl, arith, pred, ◌++◌, map}
use Rattle.std.specs.List.{slice_get, zip}

-- the number of a member of one list with that of another
pub zip-at : {X Y : Type 0} (xs : List X) (ys : List Y) (k : ℕ) (x : X) (y : Y) → slice_get xs k ≡ Some x → slice_get ys k ≡ Some y
    → slice_get (zip xs ys) k ≡ Some (x, y)
zip-at [] ys k x y x_is y_is = let never : ⊥ = cc in absurd never
zip-at (a ∷ xs) [] k x y x_is y_is = let never : ⊥ = cc in absurd never
zip-at (a ∷ xs) (b ∷ ys) zero x y x_is y_is =
    let first : a ≡ x = cc in
    let second : b ≡ y = cc in
    cc
zip-at (a ∷ xs) (b ∷ ys) (suc k) x y x_is y_is = zip-at xs ys k x y x_is y_is

pub at-zip : {X Y : Type 0} (xs : List X) (ys : List Y) (k : ℕ) (p : X × Y) → slice_get (zip xs ys) k ≡ Some p
    → (slice_get xs k ≡ Some p.0) × (slice_get ys k ≡ Some p.1)
at-zip [] ys k p is = let never : ⊥ = cc in absurd never
at-zip (a ∷ xs) [] k p is = let never : ⊥ = cc in absurd never
at-zip {X} {Y} (a ∷ xs) (b ∷ ys) zero p is =
    let same : (a, b) ≡ p = cc in
    (ap (λ (q : X × Y). Some q.0) same, ap (λ (q : X × Y). Some q.1) same)
at-zip (a ∷ xs) (b ∷ ys) (suc k) p is = at-zip xs ys k p is

pub length-zip : {X Y : Type 0} (xs : List X) (ys : List Y) → length xs ≡ length ys → length (zip xs ys) ≡ length ys
length-zip [] [] same = refl
length-zip [] (y ∷ ys) same = absurd (omega arith)
length-zip (x ∷ xs) [] same = absurd (omega arith)
length-zip (x ∷ xs) (y ∷ ys) same =
    let later : length xs ≡ length ys = omega arith in
    ap suc (length-zip xs ys later)

pub zip-length : {A B : Type 0} (xs : List A) (ys : List B) → length ys ≡ length xs → length (zip xs ys) ≡ length xs
zip-length [] ys same = refl
zip-length (x ∷ xs) [] same = absurd (omega (arith, same))
zip-length (x ∷ xs) (y ∷ ys) same = ap suc (zip-length xs ys (ap pred same))

pub zip-push : {A B : Type 0} (xs : List A) (ys : List B) (x : A) (y : B) → length ys ≡ length xs
    → zip (xs ++ x ∷ []) (ys ++ y ∷ []) ≡ zip xs ys ++ (x, y) ∷ []
zip-push [] [] x y same = refl
zip-push [] (z ∷ ys) x y same = absurd (omega (arith, same))
zip-push (w ∷ xs) [] x y same = absurd (omega (arith, same))
zip-push (w ∷ xs) (z ∷ ys) x y same = ap (λ l. (w, z) ∷ l) (zip-push xs ys x y (ap pred same))

pub map-firsts : {A B : Type 0} (xs : List A) (ys : List B) → length xs ≡ length ys → map (λ (p : A × B). p.0) (zip xs ys) ≡ xs
map-firsts [] [] long = refl
map-firsts [] (y ∷ ys) long = refl
map-firsts (x ∷ xs) [] long = absurd (omega arith)
map-firsts {A} (x ∷ xs) (y ∷ ys) long = ap (λ (zs : List A). x ∷ zs) (map-firsts xs ys (omega arith))

pub map-seconds : {A B : Type 0} (xs : List A) (ys : List B) → length xs ≡ length ys → map (λ (p : A × B). p.1) (zip xs ys) ≡ ys
map-seconds [] [] long = refl
map-seconds [] (y ∷ ys) long = absurd (omega arith)
map-seconds (x ∷ xs) [] long = absurd (omega arith)
map-seconds {B = B} (x ∷ xs) (y ∷ ys) long = ap (λ (zs : List B). y ∷ zs) (map-seconds xs ys (omega arith))
