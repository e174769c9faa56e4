use Rattle.std.proofs.Common.{◌≡◌, ◌≢◌, Bool, true, false, cond, refl, ℕ, ◌+◌, ◌-◌, arith}
use Rattle.std.proofs.lemmas.Bool.Decides.{nat_tests}
use Rattle.std.specs.Prelude.{nat_eq}

-- a width at one place is changed
pub here-changed : (row more fewer x new got m f : ℕ) → got ≡ x → m ≡ more → f ≡ fewer → new ≡ got + m - f → new ≡ cond (nat_eq row row) (x + more - fewer) x
here-changed row more fewer x new got m f is is_more is_fewer made = grind (arith, nat_tests)

-- and at no other
pub there-same : (row more fewer i x : ℕ) → i ≢ row → x ≡ cond (nat_eq i row) (x + more - fewer) x
there-same row more fewer i x other = by (nat_eq i row) refl
  where
    equal : (m n : ℕ) → nat_eq m n ≡ true → m ≡ n
    equal m n test = grind (arith, nat_tests)

    by : (b : Bool) → nat_eq i row ≡ b → x ≡ cond b (x + more - fewer) x
    by true test = absurd (other (equal i row test))
    by false test = refl
