use Rattle.std.proofs.Common.{◌≡◌, ◌≤◌, ◌<◌, ℕ, List, length, Bool, true, false, cond, Result, Ok, Err, nat_lt, ap}
use Rattle.command_ends.specs.Limits.{within_limit}
use Rattle.command_ends.specs.Refusing.{◌>>=◌}
use Rattle.command_ends.specs.declared.refusal.Limited.{Limited}
use Rattle.command_ends.specs.declared.refusal.Refusal.{Refusal}
use Rattle.command_ends.specs.declared.refusal.Refusal.TheVariants as refusals
use Rattle.std_laws.proofs.Tests.{nat_lt-not-above, nat_lt-is-above}

-- contents that are no longer than the limit are within it
pub within : (what : Limited) (most : ℕ) (bytes : List ℕ) → length bytes ≤ most → within_limit what most bytes ≡ Ok bytes
unfolding within_limit
within what most bytes short = ap (λ (long : Bool). cond long (Err (refusals.Limit what most)) (Ok bytes)) (nat_lt-not-above most (length bytes) short)

pub beyond : (what : Limited) (most : ℕ) (bytes : List ℕ) → most < length bytes → within_limit what most bytes ≡ Err (refusals.Limit what most)
unfolding within_limit
beyond what most bytes long = ap (λ (longer : Bool). cond longer (Err (refusals.Limit what most)) (Ok bytes)) (nat_lt-is-above most (length bytes) long)

-- what comes of contents within the limit comes of the whole
pub within-next : {A : Type 0} (what : Limited) (most : ℕ) (bytes : List ℕ) (next : List ℕ → Result A Refusal) (a : A)
    → (within_limit what most bytes >>= next) ≡ Ok a → next bytes ≡ Ok a
unfolding within_limit
within-next what most bytes next a is = kept (nat_lt most (length bytes)) is
  where
    kept : (long : Bool) → (cond long (Err (refusals.Limit what most)) (Ok bytes) >>= next) ≡ Ok a → next bytes ≡ Ok a
    kept true is = cc
    kept false is = is

-- contents within the limit are the whole
pub within-whole : (what : Limited) (most : ℕ) (bytes items : List ℕ) → within_limit what most bytes ≡ Ok items → items ≡ bytes
unfolding within_limit
within-whole what most bytes items is = by (nat_lt most (length bytes)) is
  where
    by : (long : Bool) → cond long (Err (refusals.Limit what most)) (Ok bytes) ≡ Ok items → items ≡ bytes
    by true is = cc
    by false is = cc
