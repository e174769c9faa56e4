use Rattle.std.proofs.Common.{◌≡◌, ℕ, suc, ◌+◌, arith, ◌*◌, ap, ◌≤◌, ◌-◌, ◌<◌, ◌/◌, zero, ◌%◌}
use Rattle.std.proofs.Math.Nat.{add-mul, mul-le-mul_left, mul-le-mul_right, div-mul-le_self, mul-lt-mul_of_pos_right, lt_of_mul-lt-mul_right}
use Rattle.std.proofs.lemmas.Nat.{le-div}

pub one-more : (n : ℕ) → 1 + n ≡ suc n
one-more n = omega arith

pub product-more : (rows height : ℕ) → suc rows * height ≡ rows * height + height
product-more rows height =
    let same : suc rows ≡ rows + 1 = omega arith in
    let parted : (rows + 1) * height ≡ rows * height + 1 * height = add-mul rows 1 height in
    let moved : suc rows * height ≡ (rows + 1) * height = ap (λ (n : ℕ). n * height) same in
    omega arith

pub product-at-least : (x u n : ℕ) → x ≤ u → 1 ≤ n → x ≤ u * n
product-at-least x u n low some = let more : u * 1 ≤ u * n = mul-le-mul_left u some in omega (arith, low, more)

-- a number before another, times a pitch
pub product-step : (a b k : ℕ) → a < b → a * k + k ≤ b * k
product-step a b k h = omega (arith, mul-le-mul_right {m = a + 1} {n = b} k (omega arith))

pub add-step : (n i : ℕ) → n + 1 + i ≡ n + suc i
add-step n i = omega arith

pub add-none : (n : ℕ) → n + 0 ≡ n
add-none n = omega arith

-- parts of a whole: they grow, and none is more than the whole
pub quotient-grows : (n rows r : ℕ) → 0 < rows → n * r / rows ≤ n * (r + 1) / rows
quotient-grows n rows r some =
    let more : n * r ≤ n * (r + 1) = omega arith in
    le-div (n * r / rows) (n * (r + 1)) rows some (omega (arith, div-mul-le_self (n * r) rows, more))

pub grows-on : (f : ℕ → ℕ) → ((r : ℕ) → f r ≤ f (r + 1)) → (r m : ℕ) → f r ≤ f (r + m)
grows-on f grows r zero = let same : r + 0 ≡ r = omega arith in rw same (omega arith)
grows-on f grows r (suc m) =
    let next : r + suc m ≡ (r + m) + 1 = omega arith in
    let less : f r ≤ f (r + m) = grows-on f grows r m in
    let last : f (r + m) ≤ f ((r + m) + 1) = grows (r + m) in
    rw next (omega arith)

pub quotient-exact : (x b : ℕ) → 1 ≤ b → x % b ≡ 0 → x ≡ x / b * b
quotient-exact x b some none = omega arith

pub ratio-less : (a b n m k l : ℕ) → 1 ≤ a → n * a ≡ m * b → k * a ≡ l * b → n < k → m < l
ratio-less a b n m k l some first second below =
    let more : n * a < k * a = mul-lt-mul_of_pos_right below some in
    let both : m * b < l * b = omega (arith, more, first, second) in
    lt_of_mul-lt-mul_right b both
