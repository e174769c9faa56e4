-- when a count of faults has risen, and when it has not
use Rattle.std.specs.Prelude.{◌≡◌, ◌≢◌, ◌<◌, ◌-◌, ◌+◌, min, ◌^◌, ℕ}

-- a count rose, or stood at the last value of a u64
abbrev pub Rose : ℕ → ℕ → Type 0
Rose before after = before ≢ 2 ^ 64 - 1 → before < after

-- a count did not rise, and does not stand at the last value of a u64
pub record Still (before after : ℕ) : Type 0 where
  pub same : after ≡ before
  pub open_ended : before ≢ 2 ^ 64 - 1

-- the count after one more fault, which stays at the last value of a u64
abbrev pub raised : ℕ → ℕ
raised count = min (count + 1) (2 ^ 64 - 1)
