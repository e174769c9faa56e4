use Rattle.std.proofs.Common.{◌≡◌, ◌+◌, ◌<◌, ℕ, ℤ, Bool, true, false, cond, Some, None, Ordering, refl, ap, sym, ◌∙◌, arith}
use Rattle.std.specs.BTreeMap.{btree_map_len}
use Rattle.std.specs.Ordering.{int_cmp, is_eq}
use Rattle.std.specs.declared.cmp.Ordering.TheVariants.{Less, Equal, Greater}
use Rattle.rule_check.specs.Rows.{AreRows, Rows, row_at}
use Rattle.std_laws.proofs.Integers.{int_equal, int_same}

-- heights that compare as equal are equal
pub bases-equal : (g h : ℤ) → is_eq (int_cmp g h) ≡ true → g ≡ h
bases-equal g h is = go (int_cmp g h) refl is
  where
    go : (r : Ordering) → int_cmp g h ≡ r → is_eq r ≡ true → g ≡ h
    go Less compared is = let never : ⊥ = cc in absurd never
    go Greater compared is = let never : ⊥ = cc in absurd never
    go Equal compared is = int_equal g h compared

pub bases-same : (h : ℤ) → is_eq (int_cmp h h) ≡ true
bases-same h = ap is_eq (int_same h)

-- what a row that is put in tells
pub record IsPut (rows put : Rows) (base : ℤ) (number : ℕ) : Type 0 where
  pub new : row_at rows base ≡ None
  pub next : number ≡ btree_map_len rows
  pub len : btree_map_len put ≡ btree_map_len rows + 1
  pub at : (q : ℤ) → row_at put q ≡ cond (is_eq (int_cmp base q)) (Some number) (row_at rows q)

module _ (rows put : Rows) (base : ℤ) (number : ℕ) (is : IsPut rows put base number) where
  pub put-told : row_at put base ≡ Some number
  put-told = is.at base ∙ ap (λ t. cond t (Some number) (row_at rows base)) (bases-same base)

  -- a row is the new one, or one that there was
  put-cases : {P : Type 0} (q : ℤ) (n : ℕ) → row_at put q ≡ Some n → (base ≡ q → number ≡ n → P) → (row_at rows q ≡ Some n → P) → P
  put-cases {P} q n told here there = go (is_eq (int_cmp base q)) refl (sym (is.at q) ∙ told)
    where
      go : (t : Bool) → is_eq (int_cmp base q) ≡ t → cond t (Some number) (row_at rows q) ≡ Some n → P
      go true same told = here (bases-equal base q same) cc
      go false apart told = there told

  pub put-kept : (q : ℤ) (n : ℕ) → row_at rows q ≡ Some n → row_at put q ≡ Some n
  put-kept q n told = go (is_eq (int_cmp base q)) refl
    where
      go : (t : Bool) → is_eq (int_cmp base q) ≡ t → row_at put q ≡ Some n
      go true same =
          let one : base ≡ q = bases-equal base q same in
          let none : row_at rows q ≡ None = ap (row_at rows) (sym one) ∙ is.new in
          let never : ⊥ = cc in
          absurd never
      go false apart = is.at q ∙ ap (λ t. cond t (Some number) (row_at rows q)) apart ∙ told

  pub put-rows : AreRows rows → AreRows put
  put-rows numbered = record {
    once = λ g h n g_told h_told. put-cases g n g_told
        (λ g_new g_number. put-cases h n h_told
        (λ h_new h_number. sym g_new ∙ h_new)
        (λ h_old. let less : n < btree_map_len rows = numbered.below h n h_old in let next : number ≡ btree_map_len rows = is.next in absurd (omega arith)))
        (λ g_old. put-cases h n h_told
        (λ h_new h_number. let less : n < btree_map_len rows = numbered.below g n g_old in let next : number ≡ btree_map_len rows = is.next in absurd (omega arith))
        (λ h_old. numbered.once g h n g_old h_old));
    below = λ h n told.
        let len : btree_map_len put ≡ btree_map_len rows + 1 = is.len in
        let next : number ≡ btree_map_len rows = is.next in
        put-cases h n told (λ new number_is. omega arith) (λ old. let less : n < btree_map_len rows = numbered.below h n old in omega arith);
  }
