use Rattle.std.proofs.Common.{◌≡◌, ◌⊎◌, ℕ, zero, suc, ◌+◌, ◌*◌, ◌-◌, ◌^◌, ◌<◌, ◌≤◌, Bool, true, false, cond, nat_le, arith, refl, lit≤, subst, inl, inr}
use Rattle.std.proofs.Math.Nat.{pow-le-pow_right}
use Rattle.std.proofs.Math.Pow.{pow-add}
use Rattle.std.proofs.lemmas.Bool.{leb-false, leb-true}
use Rattle.marker_text.proofs.PlainLaws.{of-choice}
use Rattle.layout_picture.specs.Scale.{bar_below, IsRoundAt}

-- a power of ten below the eighteenth
pub ten-small : (p : ℕ) → p ≤ 18 → 10 ^ (p - 1) ≤ 10 ^ 17
ten-small p few = pow-le-pow_right {n = 10} (lit≤ tt) {i = p - 1} {j = 17} (omega arith)

-- the bar below a power, by the power before it
step : (k room : ℕ) → bar_below (suc k) room
    ≡ cond (nat_le (5 * 10 ^ k) room) (5 * 10 ^ k) (cond (nat_le (2 * 10 ^ k) room) (2 * 10 ^ k) (cond (nat_le (10 ^ k) room) (10 ^ k) (bar_below k room)))
unfolding bar_below
step k room = refl

pub bar-step : (p room ten : ℕ) → 0 < p → ten ≡ 10 ^ (p - 1) → bar_below p room
    ≡ cond (nat_le (5 * ten) room) (5 * ten) (cond (nat_le (2 * ten) room) (2 * ten) (cond (nat_le ten room) ten (bar_below (p - 1) room)))
bar-step zero room ten some is = absurd (omega arith)
bar-step (suc k) room ten some is =
    let k-is : suc k - 1 ≡ k = omega arith in
    rw (is, k-is) (step k room)

-- of a number that is 1, 2 or 5 times a power of ten: not below the power, and at most 5 times it
round-above : (k n : ℕ) → IsRoundAt k n → 10 ^ k ≤ n
round-above k n (inl one) = omega arith
round-above k n (inr (inl two)) = omega arith
round-above k n (inr (inr five)) = omega arith

-- if that is also below twice, or below 5 times the power, it is less of it
round-below : (k n room : ℕ) → IsRoundAt k n → n ≤ room → room < 5 * 10 ^ k → n ≤ 2 * 10 ^ k
round-below k n room (inl one) fits few = omega arith
round-below k n room (inr (inl two)) fits few = omega arith
round-below k n room (inr (inr five)) fits few = omega arith

round-once : (k n room : ℕ) → IsRoundAt k n → n ≤ room → room < 2 * 10 ^ k → n ≤ 10 ^ k
round-once k n room (inl one) fits few = omega arith
round-once k n room (inr (inl two)) fits few = omega arith
round-once k n room (inr (inr five)) fits few = omega arith

round-most : (k n : ℕ) → IsRoundAt k n → n ≤ 5 * 10 ^ k
round-most k n (inl one) = omega arith
round-most k n (inr (inl two)) = omega arith
round-most k n (inr (inr five)) = omega arith

-- the choice at a power is not below a number of this power that is at most the room
same-power : (k room n less : ℕ) → IsRoundAt k n → n ≤ room
    → n ≤ cond (nat_le (5 * 10 ^ k) room) (5 * 10 ^ k) (cond (nat_le (2 * 10 ^ k) room) (2 * 10 ^ k) (cond (nat_le (10 ^ k) room) (10 ^ k) less))
same-power k room n less is fits =
    let P = λ (m : ℕ). n ≤ m in
    of-choice P (nat_le (5 * 10 ^ k) room) _ _ (λ _. round-most k n is) (λ no_five.
    of-choice P (nat_le (2 * 10 ^ k) room) _ _ (λ _. round-below k n room is fits (leb-false (5 * 10 ^ k) room no_five)) (λ no_two.
    of-choice P (nat_le (10 ^ k) room) _ _ (λ _. round-once k n room is fits (leb-false (2 * 10 ^ k) room no_two))
    (λ no_one. absurd (omega (arith, round-above k n is, leb-false (10 ^ k) room no_one)))))

-- nor below one that is at most the power and at most what is chosen below
lower-power : (k room n less : ℕ) → n ≤ 10 ^ k → n ≤ less
    → n ≤ cond (nat_le (5 * 10 ^ k) room) (5 * 10 ^ k) (cond (nat_le (2 * 10 ^ k) room) (2 * 10 ^ k) (cond (nat_le (10 ^ k) room) (10 ^ k) less))
lower-power k room n less small deeper =
    let P = λ (m : ℕ). n ≤ m in
    of-choice P (nat_le (5 * 10 ^ k) room) _ _ (λ _. omega arith) (λ _.
    of-choice P (nat_le (2 * 10 ^ k) room) _ _ (λ _. omega arith) (λ _.
    of-choice P (nat_le (10 ^ k) room) _ _ (λ _. small) (λ _. deeper)))

-- a power is ten times the one before it
tenfold : (k q : ℕ) → k < q → 10 * 10 ^ k ≤ 10 ^ q
tenfold k q below =
    let le : 10 ^ (k + 1) ≤ 10 ^ q = pow-le-pow_right {n = 10} (lit≤ tt) {i = k + 1} {j = q} (omega arith) in
    omega (arith, pow-add 10 k 1, le)

-- no number that a bar may have and that is at most the room is above the bar
pub bar-largest : (p room n k : ℕ) → k < p → IsRoundAt k n → n ≤ room → n ≤ bar_below p room
bar-largest zero room n k under is fits = absurd (omega arith)
bar-largest (suc q) room n k under is fits = rw (step q room) (by (nat_le q k) refl (λ lower. bar-largest q room n k lower is fits))
  where
    by : (b : Bool) → nat_le q k ≡ b → (k < q → n ≤ bar_below q room)
        → n ≤ cond (nat_le (5 * 10 ^ q) room) (5 * 10 ^ q) (cond (nat_le (2 * 10 ^ q) room) (2 * 10 ^ q) (cond (nat_le (10 ^ q) room) (10 ^ q) (bar_below q room)))
    by true test below =
        let same : k ≡ q = omega (arith, leb-true q k test) in
        same-power q room n (bar_below q room) (subst (λ (e : ℕ). IsRoundAt e n) same is) fits
    by false test below =
        let lower : k < q = leb-false q k test in
        lower-power q room n (bar_below q room) (omega (arith, round-most k n is, tenfold k q lower)) (below lower)

pub bar-none : (p room : ℕ) → p ≡ 0 → bar_below p room ≡ 0
unfolding bar_below
bar-none p room is = rw is refl
