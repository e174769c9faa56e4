use Rattle.std.proofs.Common.{◌≡◌, ◌∙◌, ◌+◌, ◌≤◌, ℕ, List, [], ◌∷◌, ◌++◌, length, Bool, true, false, not, cond, eqb, ltb, Option, None, Some, position, ap, sym, refl, inl, inr, arith, length-append}
use Rattle.std.proofs.lemmas.Bool.{cases_lt}
use Rattle.std.proofs.lemmas.Bool.Decides.{nat_tests}
use Rattle.std.proofs.lemmas.List.Folds.{position_or_len_push}
use Rattle.std.proofs.lemmas.List.Sums.{prefix_len-le-length}
use Rattle.std.specs.BTreeMap.{BTreeMap}
use Rattle.std.specs.List.{position_or_len}
use Rattle.cif_reader.specs.Places.{ArePlaces, IsEntered, or_else}
use Rattle.cif_reader.specs.declared.table.Kept.{Kept}

at_end : (n : ℕ) (b : Bool) → cond (ltb (n + cond b 0 1) (n + 1)) (Some (n + cond b 0 1)) None ≡ cond b (Some n) None
at_end n true =
    let same : n + 0 ≡ n = omega arith in
    let within : ltb (n + 0) (n + 1) ≡ true = grind (arith, nat_tests) in
    rw within (ap (λ (k : ℕ). Some k) same)
at_end n false = let past : ltb (n + 1) (n + 1) ≡ false = grind (arith, nat_tests) in rw past refl

first-of : (r n q len : ℕ) (b : Bool) → r ≤ n → len ≡ n + 1 → q ≡ cond (eqb r n) (n + cond b 0 1) r
    → cond (ltb q len) (Some q) None ≡ or_else (cond (ltb r n) (Some r) None) (cond b (Some n) None)
first-of r n q len b few long is = elim (cases_lt r n) [
  | inl less ↦
      let same : q ≡ r = grind (arith, nat_tests) in
      let within : ltb q len ≡ true = grind (arith, nat_tests) in
      let before : ltb r n ≡ true = grind (arith, nat_tests) in
      rw (within, before) (ap (λ (k : ℕ). Some k) same)
  | inr past ↦
      let last : r ≡ n = omega arith in
      let none : ltb r n ≡ false = grind (arith, nat_tests) in
      let here : q ≡ n + cond b 0 1 = grind (arith, nat_tests) in
      rw (none, here, long) (at_end n b)
]

-- the place of the first that passes, where one more stands behind
position-push : (p : Kept → Bool) (table : List Kept) (kept : Kept)
    → position p (table ++ kept ∷ []) ≡ or_else (position p table) (cond (p kept) (Some (length table)) None)
position-push p table kept =
    first-of (position_or_len p table) (length table) (position_or_len p (table ++ kept ∷ [])) (length (table ++ kept ∷ [])) (p kept)
    (prefix_len-le-length (λ (k : Kept). not (p k)) table) (length-append table (kept ∷ [])) (position_or_len_push p table kept)

-- a symbol behind the others
pub places-push : (before after : BTreeMap ℕ ℕ) (table : List Kept) (kept : Kept) → ArePlaces before table
    → IsEntered before after kept.number (length table) → ArePlaces after (table ++ kept ∷ [])
places-push before after table kept are entered = record {
  each = λ n. entered.each n ∙ ap (λ (o : Option ℕ). or_else o (cond (eqb kept.number n) (Some (length table)) None)) (are.each n)
      ∙ sym (position-push (λ (k : Kept). eqb k.number n) table kept);
}

pub no-places : (places : BTreeMap ℕ ℕ) → places.entries ≡ [] → ArePlaces places []
no-places places none = record { each = λ n. rw none refl }
