-- the table of thresholds, and which changes of the cost are taken by it
use Rattle.std.specs.Prelude.{ℕ, zero, suc, ◌<◌, ◌≤◌, ◌*◌, ◌/◌}

-- the thresholds: the first is 65,535, and each is 113 of 128 parts of the one before, rounded down
unfoldable pub threshold : ℕ → ℕ
threshold zero = 65535
threshold (suc i) = threshold i * 113 / 128

-- of the 64 thresholds, which fall, the first n are above a number, and no others
pub record AreAbove (n number : ℕ) : Type 0 where
  pub some : n ≤ 64
  pub above : (i : ℕ) → i < n → number < threshold i
  pub rest : n < 64 → threshold n ≤ number
