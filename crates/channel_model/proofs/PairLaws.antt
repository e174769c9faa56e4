use Rattle.std.proofs.Common.{◌≡◌, ◌<◌, ◌||◌, not, true, false, cond, eqb, ℕ, List, [], ◌∷◌, inl, inr, ◌≢◌, ◌≤◌, length, refl, arith, count_by}
use Rattle.std.proofs.lemmas.Bool.{cases_eq, ne_eqb, and_parts, and_from, both_ways, cond-false}
use Rattle.std.proofs.lemmas.Bool.Decides.{nat_tests}
use Rattle.std.proofs.lemmas.List.Sums.{sum_by-cons, list_all-from_AllPass}
use Rattle.std.specs.List.{list_all}
use Rattle.channel_model.specs.Pins.{Pins, pin_count, is_matched, are_matched, ArePaired, IsChannel}

alone : (net count : ℕ) → 0 < net → count ≡ 1 → (eqb net 0 || not (eqb count 1)) ≡ false
alone net count positive one = grind (arith, nat_tests)

matched : (net count : ℕ) → (0 < net → count ≢ 1) → (eqb net 0 || not (eqb count 1)) ≡ true
matched net count paired =
    elim (cases_eq net 0) [
      | inl none ↦ grind (arith, nat_tests)
      | inr some ↦ let positive : 0 < net = omega arith in let more : count ≢ 1 = paired positive in grind (arith, nat_tests)
    ]

-- an edge whose pins are matched has no pin of a net with one pin alone
pub count_by-matched : (pins : Pins) (net : ℕ) (side : List ℕ) → 0 < net → pin_count pins net ≡ 1 → list_all (is_matched pins) side ≡ true
    → count_by (λ n. eqb n net) side ≡ 0
count_by-matched pins net [] positive one all = refl
count_by-matched pins net (x ∷ xs) positive one all =
    let parts = and_parts (is_matched pins x) (list_all (is_matched pins) xs) all in
    let rest : count_by (λ n. eqb n net) xs ≡ 0 = count_by-matched pins net xs positive one parts.1 in
    let step = sum_by-cons (λ n. cond (eqb n net) 1 0) x xs in
    elim (cases_eq x net) [
      | inl e ↦ absurd (both_ways (is_matched pins x) (rw e (alone net (pin_count pins net) positive one)) parts.0)
      | inr ne ↦ let other : ◌≡◌ {A = ℕ} (cond (eqb x net) 1 0) 0 = cond-false (eqb x net) 1 0 (ne_eqb x net ne) in omega (arith, step, rest, other)
    ]

-- both edges have matched pins just where no net has one pin alone
pub paired_from_matched : (pins : Pins) → are_matched pins ≡ true → ArePaired pins
paired_from_matched pins all net positive one =
    let parts = and_parts (list_all (is_matched pins) pins.top) (list_all (is_matched pins) pins.bottom) all in
    let top = count_by-matched pins net pins.top positive one parts.0 in
    let bottom = count_by-matched pins net pins.bottom positive one parts.1 in
    omega (arith, top, bottom, one)

all_matched : (pins : Pins) (side : List ℕ) → ArePaired pins → list_all (is_matched pins) side ≡ true
all_matched pins side paired = list_all-from_AllPass (is_matched pins) side (λ k d within. matched _ _ (paired _))

pub matched_from_paired : (pins : Pins) → ArePaired pins → are_matched pins ≡ true
matched_from_paired pins paired = and_from _ _ (all_matched pins pins.top paired) (all_matched pins pins.bottom paired)

-- what the maker of a channel has found
pub IsChannel-from_tests : (top bottom t b : List ℕ) → t ≡ top → b ≡ bottom → length top ≡ length bottom → length top ≤ 4000000
    → are_matched (record { top = t; bottom = b }) ≡ true → IsChannel (record { top = top; bottom = bottom })
IsChannel-from_tests top bottom t b first second matched within all =
    record { matched = matched; within = within; paired = paired_from_matched (record { top = top; bottom = bottom }) (rw (first, second) at all) }

-- a channel's pins are matched
pub matched_from_IsChannel : (top bottom t b : List ℕ) → t ≡ top → b ≡ bottom → IsChannel (record { top = top; bottom = bottom })
    → are_matched (record { top = t; bottom = b }) ≡ true
matched_from_IsChannel top bottom t b first second channel = rw (first, second) (matched_from_paired (record { top = top; bottom = bottom }) channel.paired)
