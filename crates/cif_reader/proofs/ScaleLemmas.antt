use Rattle.std.proofs.Common.{◌≡◌, refl, ap, sym, ◌∙◌, ℕ, suc, ◌*◌, ◌/◌, ◌%◌, ◌≤◌, ◌<◌, ℤ, pos, negsuc, neg_ℤ, ◌<ℤ◌, Bool, true, false, Some, None, arith}
use Rattle.std.proofs.lemmas.Int.{ints}
use Rattle.std.proofs.lemmas.Bool.Decides.{nat_tests}
use Rattle.std.specs.Prelude.{if◌then◌else◌, ◌==◌}
use Rattle.cif_text.specs.Scales.{scaled_natural, scaled}
use Rattle.std_laws.proofs.Options.{mapped}
use Rattle.std_laws.proofs.Numbers.{quotient-exact, ratio-less}

-- what is scaled is a quotient without a remainder
whole : (a b n m : ℕ) → 1 ≤ b → scaled_natural a b n ≡ Some m → n * a ≡ m * b
whole a b n m some is = by (n * a % b == 0) refl is
  where
    by : (t : Bool) → (n * a % b == 0) ≡ t → (if t then Some (n * a / b) else None) ≡ Some m → n * a ≡ m * b
    by false test is = cc
    by true test is =
        let same : n * a / b ≡ m = cc in
        let none : n * a % b ≡ 0 = grind (arith, nat_tests) in
        quotient-exact (n * a) b some none ∙ ap (λ (q : ℕ). q * b) same

less-natural : (a b n m k l : ℕ) → 1 ≤ a → 1 ≤ b → scaled_natural a b n ≡ Some m → scaled_natural a b k ≡ Some l → n < k → m < l
less-natural a b n m k l one some first second below = ratio-less a b n m k l one (whole a b n m some first) (whole a b k l some second) below

-- what is less stays less at a scale
pub scaled-less : (a b : ℕ) (x y u v : ℤ) → 1 ≤ a → 1 ≤ b → Some u ≡ scaled a b x → Some v ≡ scaled a b y → x <ℤ y → u <ℤ v
scaled-less a b (pos n) (pos k) u v one some first second below =
    let m = mapped (λ (m : ℕ). pos m) (scaled_natural a b n) u (sym first) in
    let l = mapped (λ (m : ℕ). pos m) (scaled_natural a b k) v (sym second) in
    let under : n < k = omega (arith, ints) in
    let is : m.0 < l.0 = less-natural a b n m.0 k l.0 one some m.1 l.1 under in
    let u_is : pos m.0 ≡ u = m.2 in
    let v_is : pos l.0 ≡ v = l.2 in
    omega (arith, ints)
scaled-less a b (negsuc n) (pos k) u v one some first second below =
    let m = mapped (λ (m : ℕ). neg_ℤ (pos m)) (scaled_natural a b (suc n)) u (sym first) in
    let l = mapped (λ (m : ℕ). pos m) (scaled_natural a b k) v (sym second) in
    let none : 0 * a ≡ 0 * b = omega arith in
    let is : 0 < m.0 = ratio-less a b 0 0 (suc n) m.0 one none (whole a b (suc n) m.0 some m.1) (omega arith) in
    let u_is : neg_ℤ (pos m.0) ≡ u = m.2 in
    let v_is : pos l.0 ≡ v = l.2 in
    omega (arith, ints)
scaled-less a b (negsuc n) (negsuc k) u v one some first second below =
    let m = mapped (λ (m : ℕ). neg_ℤ (pos m)) (scaled_natural a b (suc n)) u (sym first) in
    let l = mapped (λ (m : ℕ). neg_ℤ (pos m)) (scaled_natural a b (suc k)) v (sym second) in
    let under : suc k < suc n = omega (arith, ints) in
    let is : l.0 < m.0 = less-natural a b (suc k) l.0 (suc n) m.0 one some l.1 m.1 under in
    let u_is : neg_ℤ (pos m.0) ≡ u = m.2 in
    let v_is : neg_ℤ (pos l.0) ≡ v = l.2 in
    omega (arith, ints)
scaled-less a b (pos n) (negsuc k) u v one some first second below = absurd (omega (arith, ints))
