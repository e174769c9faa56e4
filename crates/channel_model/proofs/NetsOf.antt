use Rattle.std.proofs.Common.{◌≡◌, ◌<◌, ◌≤◌, ◌+◌, ◌-◌, ◌++◌, true, false, cond, eqb, ℕ, zero, suc, List, [], ◌∷◌, inl, inr, subst, ◌∙◌, arith, Contains, length, get_or, filter, max}
use Rattle.std.proofs.lemmas.Bool.{cases_eq, cases_lt, ne_eqb}
use Rattle.std.proofs.lemmas.Bool.Decides.{nat_tests}
use Rattle.std.proofs.lemmas.List.{get_or_default, get_or_past}
use Rattle.std.proofs.lemmas.List.Elements.{All-filter, All-contains_itself, All-contains, filter_passes, Contains-append_left, Contains-append_right, Contains-get_or}
use Rattle.std.proofs.lemmas.List.Kept.{IsStrictlyIncreasing-filter}
use Rattle.std.proofs.lemmas.List.Sums.{sum_by-cons}
use Rattle.std.specs.List.{count_by, fold, range_with_len}
use Rattle.channel_model.specs.Nets.{AreNets, StandsIn, has_pin, nets_of}
use Rattle.channel_model.specs.Pins.{Pins, pin_count}
use Rattle.channel_model.proofs.NetLists.{AreNets-one}
use Rattle.std_laws.proofs.Ranges.{range-increasing, range-has-from-one, range-some}
use Rattle.std_laws.proofs.Members.{filter-member}
use Rattle.std_laws.proofs.Greatest.{greatest-stands}
use Rattle.std_laws.proofs.Tests.{positive-test, test-positive}

-- a number that stands in a list is counted, and one that is counted stands there
counted-one : (net x n : ℕ) → x ≡ net → 0 < cond (eqb x net) 1 0 + n
counted-one net x n same = grind (arith, nat_tests)

counted-standing : (net : ℕ) (xs : List ℕ) (k : ℕ) → k < length xs → get_or xs k 0 ≡ net → 0 < count_by (λ n. eqb n net) xs
counted-standing net [] k within at = absurd (omega arith)
counted-standing net (x ∷ xs) zero within at =
    omega (arith, counted-one net x (count_by (λ n. eqb n net) xs) at, sum_by-cons (λ n. cond (eqb n net) 1 0) x xs)
counted-standing net (x ∷ xs) (suc k) within at =
    omega (arith, counted-standing net xs k (omega arith) at, sum_by-cons (λ n. cond (eqb n net) 1 0) x xs)

-- a number is not counted
uncounted-one : (net x n : ℕ) → eqb x net ≡ false → cond (eqb x net) 1 0 + n ≡ n
uncounted-one net x n other = grind (arith, nat_tests)

standing-counted : (net : ℕ) (xs : List ℕ) → 0 < count_by (λ n. eqb n net) xs → (k : ℕ) × (get_or xs k 0 ≡ net)
standing-counted net [] some = absurd (omega arith)
standing-counted net (x ∷ xs) some =
    elim (cases_eq x net) [
      | inl same ↦ (0, same)
      | inr other ↦
          let more : 0 < count_by (λ n. eqb n net) xs =
          omega (arith, uncounted-one net x (count_by (λ n. eqb n net) xs) (ne_eqb x net other), sum_by-cons (λ n. cond (eqb n net) 1 0) x xs) in
          let there = standing-counted net xs more in (suc there.0, there.1)
    ]

-- a number other than 0 in a list stands within it
within-list : (xs : List ℕ) (k net : ℕ) → 0 < net → get_or xs k 0 ≡ net → k < length xs
within-list xs k net some at =
    elim (cases_lt k (length xs)) [
      | inl within ↦ within
      | inr past ↦ let none = get_or_past xs k 0 past in absurd (omega arith)
    ]

-- a net that stands in a channel has a pin, and one with a pin stands there
pin-standing : (pins : Pins) (net : ℕ) → StandsIn pins net → has_pin pins net ≡ true
pin-standing pins net stands =
    elim stands.1.1 [
      | inl top ↦ positive-test (pin_count pins net) (omega (arith, counted-standing net pins.top stands.1.0 (within-list pins.top stands.1.0 net stands.0 top) top))
      | inr bottom ↦
          positive-test (pin_count pins net)
          (omega (arith, counted-standing net pins.bottom stands.1.0 (within-list pins.bottom stands.1.0 net stands.0 bottom) bottom))
    ]

standing-pin : (pins : Pins) (net : ℕ) → 0 < net → has_pin pins net ≡ true → StandsIn pins net
standing-pin pins net some has =
    let counts : 0 < pin_count pins net = test-positive (pin_count pins net) has in
    elim (cases_lt 0 (count_by (λ n. eqb n net) pins.top)) [
      | inl above ↦ let at = standing-counted net pins.top above in (some, (at.0, inl at.1))
      | inr none ↦ let at = standing-counted net pins.bottom (omega arith) in (some, (at.0, inr at.1))
    ]

-- a net that stands in a channel is at most the greatest number there
most-standing : (pins : Pins) (net : ℕ) → StandsIn pins net → net ≤ fold max 0 (pins.top ++ pins.bottom)
most-standing pins net stands = grade (elim stands.1.1 [
  | inl top ↦ Contains-append_left pins.top pins.bottom net (among pins.top stands.1.0 stands.0 top)
  | inr bottom ↦ Contains-append_right pins.top pins.bottom net (among pins.bottom stands.1.0 stands.0 bottom)
])
  where
    among : (side : List ℕ) (column : ℕ) → 0 < net → get_or side column 0 ≡ net → Contains side net
    among side column some at = subst (Contains side) at (Contains-get_or side column 0 (within-list side column net some at))

    grade : Contains (pins.top ++ pins.bottom) net → net ≤ fold max 0 (pins.top ++ pins.bottom)
    grade member =
        let most = greatest-stands 0 (pins.top ++ pins.bottom) member.0 member.1 in
        let there : get_or (pins.top ++ pins.bottom) member.0 0 ≡ net = get_or_default (pins.top ++ pins.bottom) member.0 0 net member.1 ∙ member.2 in
        omega arith

-- the nets of a channel are its nets
pub nets-are : (pins : Pins) → AreNets pins (nets_of pins)
unfolding nets_of
nets-are pins =
    let all : List ℕ = range_with_len 1 (fold max 0 (pins.top ++ pins.bottom)) in
    record {
      ascending = IsStrictlyIncreasing-filter (has_pin pins) all (range-increasing 1 (fold max 0 (pins.top ++ pins.bottom)));
      standing = λ net member.
          standing-pin pins net
          (range-some (fold max 0 (pins.top ++ pins.bottom)) net
          (All-contains (Contains all) (filter (has_pin pins) all) net (All-filter (has_pin pins) (Contains all) all (All-contains_itself all)) member))
          (All-contains (λ n. has_pin pins n ≡ true) (filter (has_pin pins) all) net (filter_passes (has_pin pins) all) member);
      listed = λ net stands.
          filter-member (has_pin pins) all net (range-has-from-one (fold max 0 (pins.top ++ pins.bottom)) net stands.0 (most-standing pins net stands)) (pin-standing pins net stands);
    }

-- and no other list is
pub nets-one : (pins : Pins) (nets : List ℕ) → AreNets pins nets → nets ≡ nets_of pins
nets-one pins nets are = AreNets-one pins nets (nets_of pins) are (nets-are pins)
