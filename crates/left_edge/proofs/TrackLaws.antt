use Rattle.std.proofs.Common.{◌≡◌, ◌≢◌, ◌<◌, ◌≤◌, ◌+◌, ◌&&◌, Bool, true, false, not, cond, eqb, ltb, ℕ, zero, suc, List, [], ◌∷◌, inl, inr, refl, sym, ap, subst, ◌∙◌, arith, get_or, length, max}
use Rattle.std.proofs.lemmas.Bool.{cases_Bool, cases_eq, cases_lt, cond-true, cond-false}
use Rattle.std.proofs.lemmas.Bool.Decides.{nat_tests}
use Rattle.std.proofs.lemmas.List.Sums.{passes_at_first}
use Rattle.std.specs.List.{position_or_len}
use Rattle.channel_model.specs.Pins.{Pins}
use Rattle.left_edge.specs.Columns.{net_at}
use Rattle.left_edge.specs.Spans.{span}
use Rattle.left_edge.specs.Tracks.{begins, ends, is_past, with_net, lasts, level_of}
use Rattle.std_laws.proofs.Searches.{position-cons, position-le}

-- a net on its track
pub with_net-at : (p : ℕ → Bool) (net : ℕ) (ls : List ℕ) → get_or (with_net p net ls) (position_or_len p ls) 0 ≡ net
with_net-at p net [] = refl
with_net-at p net (x ∷ ls) = rw (position-cons p x ls) (by (p x) (with_net-at p net ls))
  where
    by : (b : Bool) → get_or (with_net p net ls) (position_or_len p ls) 0 ≡ net
        → get_or (cond b (net ∷ ls) (x ∷ with_net p net ls)) (cond b 0 (suc (position_or_len p ls))) 0 ≡ net
    by true rest = refl
    by false rest = rest

-- the other tracks keep theirs
pub with_net-other : (p : ℕ → Bool) (net : ℕ) (ls : List ℕ) (k : ℕ) → k ≢ position_or_len p ls → get_or (with_net p net ls) k 0 ≡ get_or ls k 0
with_net-other p net [] zero other = absurd (other refl)
with_net-other p net [] (suc k) other = refl
with_net-other p net (x ∷ ls) k other = by (p x) k (rw (position-cons p x ls) at other) (with_net-other p net ls)
  where
    by : (b : Bool) (k : ℕ) → k ≢ cond b 0 (suc (position_or_len p ls))
        → ((j : ℕ) → j ≢ position_or_len p ls → get_or (with_net p net ls) j 0 ≡ get_or ls j 0)
        → get_or (cond b (net ∷ ls) (x ∷ with_net p net ls)) k 0 ≡ get_or (x ∷ ls) k 0
    by true zero other rest = absurd (other refl)
    by true (suc k) other rest = refl
    by false zero other rest = refl
    by false (suc k) other rest = rest k (λ same. other (ap suc same))

pub length-with_net : (p : ℕ → Bool) (net : ℕ) (ls : List ℕ) → length (with_net p net ls) ≡ max (length ls) (position_or_len p ls + 1)
length-with_net p net [] = refl
length-with_net p net (x ∷ ls) = rw (position-cons p x ls) (by (p x) (length-with_net p net ls))
  where
    by : (b : Bool) → length (with_net p net ls) ≡ max (length ls) (position_or_len p ls + 1)
        → length (cond b (net ∷ ls) (x ∷ with_net p net ls)) ≡ max (suc (length ls)) (cond b 0 (suc (position_or_len p ls)) + 1)
    by true rest = omega arith
    by false rest = omega arith

-- a column where a net begins, and one where none does
pub begins-true : (pins : Pins) (column : ℕ) → begins pins column ≡ true → (0 < net_at pins column) × ((span pins (net_at pins column)).first ≡ column)
begins-true pins column is = by (net_at pins column) (span pins (net_at pins column)).first is
  where
    by : (net first : ℕ) → (not (eqb net 0) && eqb first column) ≡ true → (0 < net) × (first ≡ column)
    by net first is = (grind (arith, nat_tests), grind (arith, nat_tests))

pub begins-from : (pins : Pins) (column : ℕ) → 0 < net_at pins column → (span pins (net_at pins column)).first ≡ column → begins pins column ≡ true
begins-from pins column some first = by (net_at pins column) (span pins (net_at pins column)).first some first
  where
    by : (net first : ℕ) → 0 < net → first ≡ column → (not (eqb net 0) && eqb first column) ≡ true
    by net first some is = grind (arith, nat_tests)

pub ends-true : (pins : Pins) (column : ℕ) → ends pins column ≡ true → (0 < net_at pins column) × ((span pins (net_at pins column)).last ≡ column)
ends-true pins column is = by (net_at pins column) (span pins (net_at pins column)).last is
  where
    by : (net last : ℕ) → (not (eqb net 0) && eqb last column) ≡ true → (0 < net) × (last ≡ column)
    by net last is = (grind (arith, nat_tests), grind (arith, nat_tests))

pub ends-from : (pins : Pins) (column : ℕ) → 0 < net_at pins column → (span pins (net_at pins column)).last ≡ column → ends pins column ≡ true
ends-from pins column some last = by (net_at pins column) (span pins (net_at pins column)).last some last
  where
    by : (net last : ℕ) → 0 < net → last ≡ column → (not (eqb net 0) && eqb last column) ≡ true
    by net last some is = grind (arith, nat_tests)

pub past-true : (pins : Pins) (column net : ℕ) → is_past pins column net ≡ true → (span pins net).last < column
past-true pins column net is = by (span pins net).last is
  where
    by : (last : ℕ) → ltb last column ≡ true → last < column
    by last is = grind (arith, nat_tests)

pub past-false : (pins : Pins) (column net : ℕ) → is_past pins column net ≡ false → column ≤ (span pins net).last
past-false pins column net is = by (span pins net).last is
  where
    by : (last : ℕ) → ltb last column ≡ false → column ≤ last
    by last is = grind (arith, nat_tests)

pub not_past-from : (pins : Pins) (column net : ℕ) → column ≤ (span pins net).last → is_past pins column net ≡ false
not_past-from pins column net le = by (span pins net).last le
  where
    by : (last : ℕ) → column ≤ last → ltb last column ≡ false
    by last is = grind (arith, nat_tests)

-- the last nets after a column where a net begins, and where none does
pub lasts-begin : (pins : Pins) (column : ℕ) → begins pins column ≡ true
    → lasts pins (suc column) ≡ with_net (is_past pins column) (net_at pins column) (lasts pins column)
unfolding lasts
lasts-begin pins column is = cond-true (begins pins column) _ _ is

pub lasts-same : (pins : Pins) (column : ℕ) → begins pins column ≡ false → lasts pins (suc column) ≡ lasts pins column
unfolding lasts
lasts-same pins column is = cond-false (begins pins column) _ _ is

pub lasts-none : (pins : Pins) → lasts pins 0 ≡ []
unfolding lasts
lasts-none pins = refl

-- the level of a net that begins in a column
pub level_of-begin : (pins : Pins) (net column : ℕ) → (span pins net).first ≡ column → level_of pins net ≡ position_or_len (is_past pins column) (lasts pins column)
unfolding level_of
level_of-begin pins net column first = ap (λ c. position_or_len (is_past pins c) (lasts pins c)) first

-- a net that has a pin in the column where its span begins
pub record Stands (pins : Pins) (net : ℕ) : Type 0 where
  pub some : 0 < net
  pub starts : net_at pins (span pins net).first ≡ net

-- the last net of a track began before, and has that track
pub record Holds (pins : Pins) (column place net : ℕ) : Type 0 where
  pub stands : Stands pins net
  pub before : (span pins net).first < column
  pub level : level_of pins net ≡ place

pub holder : (pins : Pins) (column level : ℕ) → level < length (lasts pins column) → Holds pins column level (get_or (lasts pins column) level 0)
holder pins zero level within = absurd (omega (arith, ap length (lasts-none pins)))
holder pins (suc column) level within =
    elim (cases_Bool (begins pins column)) [
      | inl is ↦
          let starts = begins-true pins column is in
          let p = is_past pins column in
          let ls = lasts pins column in
          let net = net_at pins column in
          let made = lasts-begin pins column is in
          elim (cases_eq level (position_or_len p ls)) [
            | inl here ↦
                let at : get_or (lasts pins (suc column)) level 0 ≡ net = rw (made, here) (with_net-at p net ls) in
                rw at (record {
                  stands = record { some = starts.0; starts = ap (net_at pins) starts.1 };
                  before = omega (arith, starts.1);
                  level = level_of-begin pins net column starts.1 ∙ sym here;
                })
            | inr other ↦
                let at : get_or (lasts pins (suc column)) level 0 ≡ get_or ls level 0 = rw made (with_net-other p net ls level other) in
                let long : length (lasts pins (suc column)) ≡ max (length ls) (position_or_len p ls + 1) = rw made (length-with_net p net ls) in
                let few = position-le p ls in
                let inside : level < length ls = omega arith in
                rw at (later column level _ (holder pins column level inside))
          ]
      | inr none ↦
          let same = lasts-same pins column none in
          let inside : level < length (lasts pins column) = rw same at within in
          rw same (later column level _ (holder pins column level inside))
    ]
  where
    later : (column level net : ℕ) → Holds pins column level net → Holds pins (suc column) level net
    later column level net holds = record { stands = holds.stands; before = omega (arith, holds.before); level = holds.level }

-- a net holds its track from its first column to behind its last
pub record Held (pins : Pins) (column net : ℕ) : Type 0 where
  pub within : level_of pins net < length (lasts pins column)
  pub at : get_or (lasts pins column) (level_of pins net) 0 ≡ net

pub held : (pins : Pins) (net column : ℕ) → Stands pins net → (span pins net).first < column → column ≤ (span pins net).last + 1 → Held pins column net
held pins net zero stands after before = absurd (omega arith)
held pins net (suc column) stands after before =
    elim (cases_eq (span pins net).first column) [
      | inl first ↦
          let here : net_at pins column ≡ net = ap (net_at pins) (sym first) ∙ stands.starts in
          let is : begins pins column ≡ true = begins-from pins column (rw here stands.some) (ap (λ n. (span pins n).first) here ∙ first) in
          let p = is_past pins column in
          let ls = lasts pins column in
          let made : lasts pins (suc column) ≡ with_net p net ls = rw here at (lasts-begin pins column is) in
          let level : level_of pins net ≡ position_or_len p ls = level_of-begin pins net column first in
          record {
            within = rw (made, level) (omega (arith, length-with_net p net ls));
            at = rw (made, level) (with_net-at p net ls);
          }
      | inr later ↦
          let was = held pins net column stands (omega arith) (omega arith) in
          elim (cases_Bool (begins pins column)) [
            | inl is ↦
                let p = is_past pins column in
                let ls = lasts pins column in
                let new = net_at pins column in
                let made = lasts-begin pins column is in
                let other : level_of pins net ≢ position_or_len p ls = λ same.
                let inside : position_or_len p ls < length ls = omega (arith, was.within) in
                let passes = passes_at_first p ls 0 inside in
                let less = past-true pins column net (subst (λ n. p n ≡ true) (rw same at was.at) passes) in
                omega arith in
                record {
                  within = rw made (omega (arith, length-with_net p new ls, was.within));
                  at = rw made (with_net-other p new ls (level_of pins net) other ∙ was.at);
                }
            | inr none ↦
                let same = lasts-same pins column none in
                record { within = rw same was.within; at = rw same was.at }
          ]
    ]

-- tracks are not given up
pub lasts-grows : (pins : Pins) (column : ℕ) → (length (lasts pins column) ≤ length (lasts pins (suc column)))
    × (length (lasts pins (suc column)) ≤ length (lasts pins column) + 1)
lasts-grows pins column =
    elim (cases_Bool (begins pins column)) [
      | inl is ↦
          let p = is_past pins column in
          let ls = lasts pins column in
          let few = position-le p ls in
          let long : length (lasts pins (suc column)) ≡ max (length ls) (position_or_len p ls + 1) =
          rw (lasts-begin pins column is) (length-with_net p (net_at pins column) ls) in
          (omega arith, omega arith)
      | inr none ↦ let same = ap length (lasts-same pins column none) in (omega arith, omega arith)
    ]

pub lasts-few : (pins : Pins) (column : ℕ) → length (lasts pins column) ≤ column
lasts-few pins zero = omega (arith, ap length (lasts-none pins))
lasts-few pins (suc column) = omega (arith, lasts-few pins column, (lasts-grows pins column).1)

pub lasts-rise : (pins : Pins) (first later : ℕ) → length (lasts pins first) ≤ length (lasts pins (first + later))
lasts-rise pins first zero = let same : first + 0 ≡ first = omega arith in rw same (omega arith)
lasts-rise pins first (suc later) =
    let next : first + suc later ≡ suc (first + later) = omega arith in
    rw next (omega (arith, lasts-rise pins first later, (lasts-grows pins (first + later)).0))

-- two nets on one track do not share a column
pub apart_first : (pins : Pins) (n m : ℕ) → Stands pins n → Stands pins m → (span pins n).first < (span pins m).first
    → (span pins m).first ≤ (span pins n).last → level_of pins n ≢ level_of pins m
apart_first pins n m one other before within same =
    let column = (span pins m).first in
    let p = is_past pins column in
    let ls = lasts pins column in
    let was = held pins n column one before (omega arith) in
    let level : level_of pins m ≡ position_or_len p ls = level_of-begin pins m column refl in
    let here : level_of pins n ≡ position_or_len p ls = same ∙ level in
    let inside : position_or_len p ls < length ls = omega (arith, was.within) in
    let passes = passes_at_first p ls 0 inside in
    let less = past-true pins column n (subst (λ k. p k ≡ true) (rw here at was.at) passes) in
    omega arith

pub same_net : (pins : Pins) (n m column : ℕ) → Stands pins n → Stands pins m → (span pins n).first ≤ column → column ≤ (span pins n).last
    → (span pins m).first ≤ column → column ≤ (span pins m).last → level_of pins n ≡ level_of pins m → n ≡ m
same_net pins n m column one other low high under over same =
    elim (cases_eq (span pins n).first (span pins m).first) [
      | inl first ↦ sym one.starts ∙ ap (net_at pins) first ∙ other.starts
      | inr apart ↦ elim (cases_lt (span pins n).first (span pins m).first) [
        | inl before ↦ absurd (apart_first pins n m one other before (omega arith) same)
        | inr behind ↦ absurd (apart_first pins m n other one (omega arith) (omega arith) (sym same))
      ]
    ]
