use Rattle.std.proofs.Common.{◌≡◌, ◌∙◌, ◌<◌, ◌≤◌, ◌+◌, ◌<ℤ◌, ◌≤ℤ◌, ℕ, zero, suc, ℤ, pos, Bool, true, false, ◌&&◌, ◌||◌, inl, inr, List, [], ◌∷◌, length, take, set, ap, refl, sym, subst, arith, SFits, to_z, of_z, w64}
use Rattle.std.proofs.lemmas.Bool.{cases_eq}
use Rattle.std.proofs.lemmas.Bool.Decides.{nat_tests}
use Rattle.std.proofs.lemmas.Int.{ints, to_z-of_z}
use Rattle.std.proofs.lemmas.List.{take-set-le}
use Rattle.std.proofs.lemmas.List.Folds.{list_any_more}
use Rattle.std.specs.Int.{int_max}
use Rattle.std.specs.List.{list_any}
use Rattle.std.specs.Prelude.{int_le, int_lt, nat_le}
use Rattle.std_laws.proofs.Integers.{le-true}
use Rattle.geom_core.specs.Extent.{Extent}
use Rattle.region_cut.specs.Covered.{covers, reaches}
use Rattle.region_cut.specs.Grids.{line}

-- lines each of which lies below those behind it
abbrev pub AreRising : List ℤ → Type 0
AreRising lines = (i j : ℕ) → i < j → j < length lines → line lines i <ℤ line lines j

-- the greater of two places reaches what one of them reaches
pub max-reaches : (z a b : ℤ) → int_le z (int_max a b) ≡ (int_le z a || int_le z b)
max-reaches z a b = grind (arith, ints)

above-not : (a b : ℤ) → a <ℤ b → int_le b a ≡ false
above-not a b less = grind (arith, ints)

lt-less : (a b : ℤ) → int_lt a b ≡ true → a <ℤ b
lt-less a b is = grind (arith, ints)

not-less : (a b : ℤ) → int_lt a b ≡ false → b ≤ℤ a
not-less a b is = grind (arith, ints)

-- no line reaches past those before it
pub rising-none : (lines : List ℤ) (z : ℤ) (n : ℕ) → n ≤ length lines → ((i : ℕ) → i < n → line lines i <ℤ z) → list_any (int_le z) (take n lines) ≡ false
rising-none lines z zero within under = refl
rising-none [] z (suc n) within under = absurd (omega arith)
rising-none (x ∷ lines) z (suc n) within under =
    ap (λ b. b || list_any (int_le z) (take n lines)) (above-not x z (under zero (omega arith)))
    ∙ rising-none lines z n (omega arith) (λ i less. under (suc i) (omega arith))

shifted : (a b c : Bool) → ((a || b) || c) ≡ (b || (a || c))
shifted true true c = refl
shifted true false c = refl
shifted false true c = refl
shifted false false c = refl

swapped : (a b c : Bool) → (a || (b || c)) ≡ (b || (a || c))
swapped true true c = refl
swapped true false c = refl
swapped false b c = refl

-- one of the first ends is drawn out
drawn : (z v : ℤ) (ends : List ℤ) (l n : ℕ) → l < n → l < length ends
    → list_any (int_le z) (take n (set ends l (int_max (line ends l) v))) ≡ (int_le z v || list_any (int_le z) (take n ends))
drawn z v ends l zero less within = absurd (omega arith)
drawn z v [] l (suc n) less within = absurd (omega arith)
drawn z v (e ∷ ends) zero (suc n) less within =
    ap (λ b. b || list_any (int_le z) (take n ends)) (max-reaches z e v) ∙ shifted (int_le z e) (int_le z v) (list_any (int_le z) (take n ends))
drawn z v (e ∷ ends) (suc l) (suc n) less within =
    ap (λ b. int_le z e || b) (drawn z v ends l n (omega arith) (omega arith)) ∙ swapped (int_le z e) (int_le z v) (list_any (int_le z) (take n ends))

-- a rectangle that spans the heights and begins on a line
pub further : (across ends new : List ℤ) (low high : ℤ) (r : Extent) (column left : ℕ) → true ≡ reaches low high r → int_le r.x0 (line across column) ≡ nat_le left column
    → left < length ends → new ≡ set ends left (int_max (line ends left) r.x1)
    → list_any (int_le (line across (column + 1))) (take (column + 1) new)
    ≡ (covers (line across column) (line across (column + 1)) low high r || list_any (int_le (line across (column + 1))) (take (column + 1) ends))
further across ends new low high r column left over begins within is = by (nat_le left column) refl
  where
    z : ℤ
    z = line across (column + 1)

    old : Bool
    old = list_any (int_le z) (take (column + 1) ends)

    by : (b : Bool) → nat_le left column ≡ b → list_any (int_le z) (take (column + 1) new) ≡ (covers (line across column) z low high r || old)
    by true test =
        let less : left < column + 1 = grind (arith, nat_tests) in
        ap (λ (l : List ℤ). list_any (int_le z) (take (column + 1) l)) is ∙ drawn z r.x1 ends left (column + 1) less within
        ∙ ap (λ t. (t && int_le z r.x1) || old) (sym test ∙ sym begins) ∙ ap (λ t. (t && (int_le r.x0 (line across column) && int_le z r.x1)) || old) over
    by false test =
        let more : column + 1 ≤ left = grind (arith, nat_tests) in
        ap (λ (l : List ℤ). list_any (int_le z) (take (column + 1) l)) is
        ∙ ap (λ (l : List ℤ). list_any (int_le z) l) (take-set-le (column + 1) ends left (int_max (line ends left) r.x1) more)
        ∙ ap (λ t. (t && int_le z r.x1) || old) (sym test ∙ sym begins) ∙ ap (λ t. (t && (int_le r.x0 (line across column) && int_le z r.x1)) || old) over

-- one that begins behind all lines
pub behind : (across : List ℤ) (low high : ℤ) (r : Extent) (column left : ℕ) (old : Bool) → true ≡ reaches low high r → int_le r.x0 (line across column) ≡ nat_le left column
    → column < left → old ≡ (covers (line across column) (line across (column + 1)) low high r || old)
behind across low high r column left old over begins less =
    let test : nat_le left column ≡ false = grind (arith, nat_tests) in
    ap (λ t. (t && int_le (line across (column + 1)) r.x1) || old) (sym test ∙ sym begins)
    ∙ ap (λ t. (t && (int_le r.x0 (line across column) && int_le (line across (column + 1)) r.x1)) || old) over

-- one column more
pub reach-more : (z first end e new : ℤ) (ends : List ℤ) (column : ℕ) → int_le z end ≡ (int_le z first || list_any (int_le z) (take column ends)) → column < length ends
    → e ≡ line ends column → new ≡ int_max end e → int_le z new ≡ (int_le z first || list_any (int_le z) (take (column + 1) ends))
reach-more z first end e new ends column was within here is =
    ap (int_le z) is ∙ max-reaches z end e ∙ ap (λ b. b || int_le z e) was ∙ grouped (int_le z first) (list_any (int_le z) (take column ends)) (int_le z e)
    ∙ ap (λ x. int_le z first || (list_any (int_le z) (take column ends) || int_le z x)) here
    ∙ ap (λ b. int_le z first || b) (sym (list_any_more (int_le z) ends column (pos 0) within))
  where
    grouped : (a b c : Bool) → ((a || b) || c) ≡ (a || (b || c))
    grouped true b c = refl
    grouped false b c = refl

-- before any rectangle
pub none-more : (b all : Bool) → b ≡ false → (all || b) ≡ all
none-more b true is = refl
none-more b false is = is

-- the first end is among the first ends
pub first-among : (z first : ℤ) (ends : List ℤ) (n : ℕ) → 0 < length ends → 0 < n → first ≡ line ends 0
    → (int_le z first || list_any (int_le z) (take n ends)) ≡ list_any (int_le z) (take n ends)
first-among z first ends zero some more is = absurd (omega arith)
first-among z first [] (suc n) some more is = absurd (omega arith)
first-among z first (e ∷ ends) (suc n) some more is =
    ap (λ x. int_le z x || (int_le z e || list_any (int_le z) (take n ends))) is ∙ twice (int_le z e) (list_any (int_le z) (take n ends))
  where
    twice : (a b : Bool) → (a || (a || b)) ≡ (a || b)
    twice true b = refl
    twice false b = refl

-- which lines a place lies left of or on, as far as it is known: not on those below a number, and on those from another one on
pub record Parted (lines : List ℤ) (place : ℤ) (low high : ℕ) : Type 0 where
  pub order : low ≤ high
  pub within : high ≤ length lines
  pub under : (k : ℕ) → k < low → int_le place (line lines k) ≡ false
  pub over : (k : ℕ) → high ≤ k → k < length lines → int_le place (line lines k) ≡ true

-- a line left of the place
pub parted-under : (lines : List ℤ) (place : ℤ) (low high middle : ℕ) → AreRising lines → Parted lines place low high → middle < high
    → SFits w64 (line lines middle) → int_lt (to_z w64 (of_z w64 (line lines middle))) place ≡ true → Parted lines place (middle + 1) high
parted-under lines place low high middle up was less fits test = record {
  order = omega arith;
  within = was.within;
  under = λ k below. elim (cases_eq k middle) [
    | inl same ↦ above-not (line lines k) place (subst (λ j. line lines j <ℤ place) (sym same) left)
    | inr other ↦
        let within = was.within in
        let next : line lines k <ℤ line lines middle = up k middle (omega arith) (omega arith) in
        above-not (line lines k) place (omega (arith, ints))
  ];
  over = was.over;
}
  where
    left : line lines middle <ℤ place
    left = lt-less (line lines middle) place (rw (to_z-of_z w64 (line lines middle) fits) at test)

-- a line that does not lie left of it
pub parted-over : (lines : List ℤ) (place : ℤ) (low high middle : ℕ) → AreRising lines → Parted lines place low high → low ≤ middle → middle < high
    → SFits w64 (line lines middle) → int_lt (to_z w64 (of_z w64 (line lines middle))) place ≡ false → Parted lines place low middle
parted-over lines place low high middle up was more less fits test = record {
  order = more;
  within = let within = was.within in omega arith;
  under = was.under;
  over = λ k above inside. elim (cases_eq k middle) [
    | inl same ↦ le-true place (line lines k) (subst (λ j. place ≤ℤ line lines j) (sym same) right)
    | inr other ↦
        let next : line lines middle <ℤ line lines k = up middle k (omega arith) inside in
        le-true place (line lines k) (omega (arith, ints))
  ];
}
  where
    right : place ≤ℤ line lines middle
    right = not-less (line lines middle) place (rw (to_z-of_z w64 (line lines middle) fits) at test)
