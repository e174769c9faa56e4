use Rattle.std.proofs.Common.{◌≡◌, ℕ, zero, suc, ◌+◌, ◌-◌, ◌*◌, ◌/◌, ◌%◌, ◌<◌, ◌≤◌, Bool, ◌&&◌, ◌||◌, arith, refl, add-one, ◌∙◌, ap, subst, inl, inr, ◌⊎◌, ◌↔◌}
use Rattle.std.specs.Prelude.{nat_lt, nat_le}
use Rattle.std.proofs.Math.Nat.{div-lt_iff_lt-mul}
use Rattle.std.proofs.lemmas.Bool.Decides.{nat_tests}
use Rattle.anneal_int.specs.Judging.{is_rise_taken, is_taken}
use Rattle.anneal_int.specs.Threshold.{AreAbove, threshold}

pub threshold-first : threshold 0 ≡ 65535
unfolding threshold
threshold-first = refl

pub threshold-next : (i : ℕ) → threshold (i + 1) ≡ threshold i * 113 / 128
unfolding threshold
threshold-next i = rw add-one refl

pub ruleset thresholds = (threshold-first, threshold-next)

-- thresholds fall
pub threshold-falls : (i j : ℕ) → threshold (i + j) ≤ threshold i
threshold-falls i zero = omega (arith, ap threshold (let e : i + 0 ≡ i = omega arith in e))
threshold-falls i (suc j) =
    let e : i + suc j ≡ i + j + 1 = omega arith in
    let below : threshold (i + j) ≤ threshold i = threshold-falls i j in
    let next : threshold (i + j + 1) ≡ threshold (i + j) * 113 / 128 = threshold-next (i + j) in
    rw e (omega arith)

below_or_not : (a b : ℕ) → (a < b) ⊎ (b ≤ a)
below_or_not a b = grind arith

falls-on : (n i : ℕ) → n ≤ i → threshold i ≤ threshold n
falls-on n i le =
    let e : n + (i - n) ≡ i = omega arith in
    subst (λ (j : ℕ). threshold j ≤ threshold n) e (threshold-falls n (i - n))

-- an index is below 64 with its threshold above a number exactly where it is among the first so many
index-below : (n number i : ℕ) → AreAbove n number → (nat_lt i 64 && nat_lt number (threshold i)) ≡ nat_lt i n
index-below n number i above =
    elim (below_or_not i n) [
      | inl lt ↦
          let least : number < threshold i = above.above i lt in
          let some : n ≤ 64 = above.some in
          grind (arith, nat_tests)
      | inr le ↦
          let falls : threshold i ≤ threshold n = falls-on n i le in
          let rest : n < 64 → threshold n ≤ number = above.rest in
          grind (arith, nat_tests)
    ]

index-by-product : (t n d : ℕ) → 0 < t → nat_lt (d * 8 / t) n ≡ nat_lt (d * 8) (n * t)
index-by-product t n d some =
    let both : (d * 8 / t < n) ↔ (d * 8 < n * t) = div-lt_iff_lt-mul some in
    elim (below_or_not (d * 8) (n * t)) [
      | inl lt ↦ let small : d * 8 / t < n = both.1 lt in grind (arith, nat_tests)
      | inr le ↦ elim (below_or_not (d * 8 / t) n) [
        | inl small ↦ let lt : d * 8 < n * t = both.0 small in absurd (omega arith)
        | inr large ↦ grind (arith, nat_tests)
      ]
    ]

-- a rise is taken exactly where eight times it is below the temperature times the number of thresholds above the word
rise-taken : (t word d n : ℕ) → 0 < t → AreAbove n (word % 65536) → is_rise_taken t word d ≡ nat_lt (d * 8) (n * t)
unfolding is_rise_taken
rise-taken t word d n some above = index-below n (word % 65536) (d * 8 / t) above ∙ index-by-product t n d some

-- the greatest rise that is taken
within-rise : (product old new : ℕ) → (nat_le new old || nat_lt ((new - old) * 8) product) ≡ nat_le new (old + (product - 1) / 8)
within-rise product old new = elim (below_or_not old new) [
  | inl lt ↦ elim (below_or_not ((new - old) * 8) product) [
    | inl small ↦ let le : new ≤ old + (product - 1) / 8 = omega arith in grind (arith, nat_tests)
    | inr large ↦ let gt : old + (product - 1) / 8 < new = omega arith in grind (arith, nat_tests)
  ]
  | inr le ↦ let le : new ≤ old + (product - 1) / 8 = omega arith in grind (arith, nat_tests)
]

-- a change is taken exactly where the cost rises by at most so much
pub taken_within : (t word n old new : ℕ) → 0 < t → AreAbove n (word % 65536) → is_taken t word old new ≡ nat_le new (old + (n * t - 1) / 8)
unfolding is_taken
taken_within t word n old new some above =
    ap (λ (b : Bool). nat_le new old || b) (rise-taken t word (new - old) n some above) ∙ within-rise (n * t) old new
