use Rattle.std.proofs.Common.{◌≡◌, ◌⊎◌, ◌≢◌, ◌∙◌, ◌<◌, ◌≤◌, ◌+◌, ◌-◌, inl, inr, ℕ, zero, suc, Bool, true, false, cond, List, [], ◌∷◌, ◌++◌, filter, map, ap, ap₂, refl, sym, subst, arith}
use Rattle.std.proofs.lemmas.Bool.{both_ways, cases_eq, cases_lt, cond-false}
use Rattle.std.proofs.lemmas.List.Elements.{filter-append}
use Rattle.std.specs.List.{flat_map, range_with_len}
use Rattle.std_laws.proofs.Ranges.{range-append}
use Rattle.region_cut.specs.Blocks.{Block, blocks_at, blocks_to, is_maximal, numbers}
use Rattle.region_cut.specs.Ceilings.{IsCeiling, is_filled_under}
use Rattle.region_cut.proofs.GrowthLaws.{block, cannot-grow, grows-down, grows-left, grows-right, grows-up, past-ceiling, cell-under}

-- a filter of lists one after the other
pub filter-flat_map : {X Y : Type 0} (p : Y → Bool) (f : X → List Y) (xs : List X) → filter p (flat_map f xs) ≡ flat_map (λ x. filter p (f x)) xs
filter-flat_map p f [] = refl
filter-flat_map p f (x ∷ xs) = filter-append p (f x) (flat_map f xs) ∙ ap (λ l. filter p (f x) ++ l) (filter-flat_map p f xs)

-- images of numbers none of which passes, or one alone
filter-none : {X : Type 0} (p : X → Bool) (f : ℕ → X) (a n : ℕ) → ((k : ℕ) → a ≤ k → k < a + n → p (f k) ≡ false) → filter p (map f (range_with_len a n)) ≡ []
filter-none p f a zero none = refl
filter-none p f a (suc n) none =
    cond-false (p (f a)) _ _ (none a (omega arith) (omega arith)) ∙ filter-none p f (a + 1) n (λ k from to. none k (omega arith) (omega arith))

filter-only : {X : Type 0} (p : X → Bool) (f : ℕ → X) (a n e : ℕ) → a ≤ e → e < a + n → ((k : ℕ) → k ≢ e → a ≤ k → k < a + n → p (f k) ≡ false) → p (f e) ≡ true
    → filter p (map f (range_with_len a n)) ≡ f e ∷ []
filter-only p f a zero e from to others one = absurd (omega arith)
filter-only {X = X} p f a (suc n) e from to others one =
    elim (cases_eq a e) [
      | inl same ↦
          let none = filter-none p f (a + 1) n (λ k first last. others k (omega arith) (omega arith) (omega arith)) in
          ap (λ (l : List X). cond (p (f a)) (f a ∷ l) l) none
          ∙ ap (λ k. cond (p (f k)) (f k ∷ []) []) same ∙ ap (λ b. cond b (f e ∷ []) []) one
      | inr other ↦
          cond-false (p (f a)) _ _ (others a other (omega arith) (omega arith))
          ∙ filter-only p f (a + 1) n e (omega arith) (omega arith) (λ k apart first last. others k apart (omega arith) (omega arith)) one
    ]

-- numbers one after the other
pub numbers-split : (a b c : ℕ) → a ≤ b → b ≤ c → numbers a c ≡ numbers a b ++ numbers b c
numbers-split a b c first second =
    let long : c - a ≡ (b - a) + (c - b) = omega arith in
    let at : a + (b - a) ≡ b = omega arith in
    ap (λ n. range_with_len a n) long ∙ range-append a (b - a) (c - b) ∙ ap (λ k. range_with_len a (b - a) ++ range_with_len k (c - b)) at

pub numbers-first : (a b : ℕ) → a < b → numbers a b ≡ a ∷ numbers (a + 1) b
numbers-first a b less =
    let long : b - a ≡ suc (b - (a + 1)) = omega arith in
    ap (λ n. range_with_len a n) long

flat-none : {X : Type 0} (f : ℕ → List X) (a n : ℕ) → ((k : ℕ) → a ≤ k → k < a + n → f k ≡ []) → flat_map f (range_with_len a n) ≡ []
flat-none f a zero none = refl
flat-none f a (suc n) none =
    ap₂ (λ x y. x ++ y) (none a (omega arith) (omega arith)) (flat-none f (a + 1) n (λ k from to. none k (omega arith) (omega arith)))

pub numbers-none : {X : Type 0} (f : ℕ → List X) (a b : ℕ) → ((k : ℕ) → a ≤ k → k < b → f k ≡ []) → flat_map f (numbers a b) ≡ []
numbers-none f a b none = flat-none f a (b - a) (λ k from to. none k from (omega arith))

module _ (filled : ℕ → ℕ → Bool) (strips columns : ℕ) where
  -- the maximal blocks of a lower left corner with their upper sides at one height, those above one, and all of them
  abbrev pub row_of : ℕ → ℕ → ℕ → List Block
  row_of low left high = filter (is_maximal filled strips columns) (blocks_to strips columns low left high)

  abbrev pub rows_above : ℕ → ℕ → ℕ → List Block
  rows_above low left high = flat_map (row_of low left) (numbers (high + 1) (strips + 1))

  pub corner-rows : (low left : ℕ) → filter (is_maximal filled strips columns) (blocks_at strips columns low left) ≡ rows_above low left low
  corner-rows low left = filter-flat_map (is_maximal filled strips columns) (blocks_to strips columns low left) (numbers (low + 1) (strips + 1))

  module _ (low left : ℕ) (tops : ℕ → ℕ) (ceilings : (column : ℕ) → column < columns → IsCeiling filled strips low column (tops column)) where
    -- a row has no maximal block where none of its blocks is one
    row-none : (high : ℕ) → ((right : ℕ) → left < right → right ≤ columns → is_maximal filled strips columns (block low left high right) ≡ false) → row_of low left high ≡ []
    row-none high none =
        filter-none (is_maximal filled strips columns) (block low left high) (left + 1) (columns + 1 - (left + 1)) (λ right from to. none right (omega arith) (omega arith))

    -- a block can grow down where all cells under it are filled
    fills-down : (high right : ℕ) → low < high → high ≤ strips → left < right → right ≤ columns
        → ((column : ℕ) → left ≤ column → column < right → is_filled_under filled low column ≡ true) → is_maximal filled strips columns (block low left high right) ≡ false
    fills-down high right tall up wide within full = by low refl
      where
        by : (l : ℕ) → low ≡ l → is_maximal filled strips columns (block low left high right) ≡ false
        by zero is =
            let never = full left (omega arith) wide in
            absurd (both_ways (is_filled_under filled zero left) refl (subst (λ k. is_filled_under filled k left ≡ true) is never))
        by (suc before) is =
            subst (λ k. is_maximal filled strips columns (block k left high right) ≡ false) (sym is)
            (grows-down filled strips columns before left high right (omega arith) up wide within
            (λ c first last. subst (λ k. is_filled_under filled k c ≡ true) is (full c first last)))

    -- and where each of them has a column that does not reach its upper side, or can grow down
    pub row-limited : (high : ℕ) → low < high → high ≤ strips
        → ((right : ℕ) → left < right → right ≤ columns
        → ((column : ℕ) × (left ≤ column) × (column < right) × (tops column < high)) ⊎ ((column : ℕ) → left ≤ column → column < right → is_filled_under filled low column ≡ true))
        → row_of low left high ≡ []
    row-limited high tall up each =
        row-none high (λ right from to. elim (each right from to) [
          | inl past ↦ past-ceiling filled strips columns low tops ceilings left high right past.0 to up past.1 past.2 past.3
          | inr full ↦ fills-down high right tall up from to full
        ])

    -- up to the ceiling of the column before the first
    pub row-beside : (before high : ℕ) → left ≡ suc before → left < columns → low < high → high ≤ tops before → high ≤ strips → row_of low left high ≡ []
    row-beside before high is within tall beside up =
        row-none high (λ right from to.
        subst (λ l. is_maximal filled strips columns (block low l high right) ≡ false) (sym is)
        (grows-left filled strips columns low before high right tall up (omega arith) to
        (λ s below above. cell-under filled strips columns low tops ceilings s before high (omega arith) beside below above)))

    -- and where the columns up to one go on above it, and that one does not reach it
    pub row-between : (high right : ℕ) → low < high → high < strips → left < right → right ≤ columns → ((column : ℕ) → left ≤ column → column < right → high < tops column)
        → (right < columns → tops right < high) → row_of low left high ≡ []
    row-between high right tall up wide within over stops =
        row-none high (λ r from to. elim (cases_lt right r) [
          | inl more ↦ past-ceiling filled strips columns low tops ceilings left high r right to (omega arith) (omega arith) more (stops (omega arith))
          | inr fits ↦
              grows-up filled strips columns low left high r tall up from to
              (λ c first last. (ceilings c (omega arith)).cells high (omega arith) (over c first (omega arith)))
        ])

    -- a row has one where the columns up to one go up to it, one of them no further, and where one of the cells under them is not filled
    pub row-held : (high right : ℕ) → low < high → high ≤ strips → left < right → right ≤ columns
        → ((column : ℕ) → left ≤ column → column < right → high ≤ tops column)
        → (right < columns → tops right < high)
        → ((before : ℕ) → left ≡ suc before → tops before < high)
        → (column : ℕ) → left ≤ column → column < right → tops column ≡ high
        → (other : ℕ) → left ≤ other → other < right → is_filled_under filled low other ≡ false
        → row_of low left high ≡ block low left high right ∷ []
    row-held high right tall up wide within under stops begins column from to met other on under_end empty =
        filter-only (is_maximal filled strips columns) (block low left high) (left + 1) (columns + 1 - (left + 1)) right (omega arith) (omega arith)
        (λ r apart first last. elim (cases_lt right r) [
          | inl more ↦ past-ceiling filled strips columns low tops ceilings left high r right (omega arith) up (omega arith) more (stops (omega arith))
          | inr fits ↦
              let less : r < right = omega arith in
              grows-right filled strips columns low left high r tall up (omega arith) (omega arith)
              (λ s below above. cell-under filled strips columns low tops ceilings s r high (omega arith) (under r (omega arith) less) below above)
        ])
        (cannot-grow filled strips columns low tops ceilings left high right tall up wide within under stops begins column from to met other on under_end empty)
