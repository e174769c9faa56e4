use Rattle.std.proofs.Common.{◌≡◌, ◌∙◌, ◌<◌, ◌≤◌, ◌+◌, ◌-◌, inl, inr, ℕ, zero, suc, Bool, true, false, cond, List, [], ◌∷◌, ◌++◌, length, length-append, max, ap, refl, sym, subst, arith}
use Rattle.std.proofs.lemmas.Bool.{cases_lt, cond-false, ne_eqb}
use Rattle.std.proofs.lemmas.Grind.{flat_map-append}
use Rattle.std.proofs.lemmas.List.{get_or_past}
use Rattle.std.specs.List.{flat_map}
use Rattle.std.specs.Prelude.{slice_index, slice_index_or, ◌==◌, None}
use Rattle.region_cut.specs.Blocks.{numbers}
use Rattle.region_cut.specs.Ceilings.{AreCeilings, AreUnder, IsHeld, IsLeast, IsLowest, is_filled_under}
use Rattle.region_cut.specs.Falls.{IsFall}
use Rattle.region_cut.proofs.GrowthLaws.{block}
use Rattle.region_cut.proofs.RowLaws.{numbers-first, numbers-none, numbers-split, row-beside, row-between, row-held, row-limited, row_of, rows_above}

-- a number that a strip's column is filled up to, from which on blocks that begin behind the column cannot grow there
pub record IsFloor (low left : ℕ) (tops : List ℕ) (floor : ℕ) : Type 0 where
  pub first : left ≡ 0 → floor ≡ low
  pub beside : (before : ℕ) → left ≡ suc before → floor ≡ slice_index tops before

-- the number that is looked up
pub floor-is : (low left : ℕ) (tops : List ℕ) (floor : ℕ) → floor ≡ cond (left == 0) low (slice_index tops (left - 1)) → IsFloor low left tops floor
floor-is low left tops floor is = record {
  first = λ none. by left none is;
  beside = λ before at. over left before at is;
}
  where
    by : (l : ℕ) → l ≡ 0 → floor ≡ cond (l == 0) low (slice_index tops (l - 1)) → floor ≡ low
    by zero none is = is
    by (suc l) none is = absurd (omega arith)

    over : (l before : ℕ) → l ≡ suc before → floor ≡ cond (l == 0) low (slice_index tops (l - 1)) → floor ≡ slice_index tops before
    over zero before at is = absurd (omega arith)
    over (suc l) before at is =
        let same : suc l - 1 ≡ before = omega arith in
        is ∙ cond-false (suc l == 0) low (slice_index tops (suc l - 1)) (ne_eqb (suc l) 0 (λ e. omega arith)) ∙ ap (λ k. slice_index tops k) same

module _ (filled : ℕ → ℕ → Bool) (strips columns low : ℕ) (tops : List ℕ) (ceilings : AreCeilings filled strips columns low tops) where
  abbrev top_of : ℕ → ℕ
  top_of column = slice_index tops column

  -- from one line on to the next
  rows-between : (left stop high : ℕ) → stop ≤ high → high ≤ strips → ((k : ℕ) → stop < k → k ≤ high → row_of filled strips columns low left k ≡ [])
      → rows_above filled strips columns low left stop ≡ rows_above filled strips columns low left high
  rows-between left stop high less up none =
      ap (λ l. flat_map (row_of filled strips columns low left) l) (numbers-split (stop + 1) (high + 1) (strips + 1) (omega arith) (omega arith))
      ∙ flat_map-append (row_of filled strips columns low left) (numbers (stop + 1) (high + 1)) (numbers (high + 1) (strips + 1))
      ∙ ap (λ l. l ++ rows_above filled strips columns low left high)
      (numbers-none (row_of filled strips columns low left) (stop + 1) (high + 1) (λ k from to. none k (omega arith) (omega arith)))

  -- a floor lies from the strip on
  pub floor-low : (left floor : ℕ) → left < columns → IsFloor low left tops floor → (low ≤ floor) × (floor ≤ strips)
  floor-low left floor within is = by left refl
    where
      by : (l : ℕ) → left ≡ l → (low ≤ floor) × (floor ≤ strips)
      by zero at = let ceiling = ceilings.each left within in let e = is.first at in (omega arith, omega (arith, ceiling.from, ceiling.to))
      by (suc before) at = let ceiling = ceilings.each before (omega arith) in let e = is.beside before at in (omega (arith, ceiling.from), omega (arith, ceiling.to))

  pub rows-floor : (left floor : ℕ) → left < columns → IsFloor low left tops floor → rows_above filled strips columns low left low ≡ rows_above filled strips columns low left floor
  rows-floor left floor within is =
      let bounds = floor-low left floor within is in
      rows-between left low floor bounds.0 bounds.1 (λ k from to. by left refl k from to bounds.1)
    where
      by : (l : ℕ) → left ≡ l → (k : ℕ) → low < k → k ≤ floor → floor ≤ strips → row_of filled strips columns low left k ≡ []
      by zero at k from to up = let e = is.first at in absurd (omega arith)
      by (suc before) at k from to up =
          row-beside filled strips columns low left top_of ceilings.each before k at within from (let e = is.beside before at in omega arith) (omega arith)

  -- a corner whose blocks can all grow down has none
  pub rows-none : (left : ℕ) → IsLowest filled columns low tops left None → rows_above filled strips columns low left low ≡ []
  rows-none left full =
      numbers-none (row_of filled strips columns low left) (low + 1) (strips + 1)
      (λ k more fewer.
      row-limited filled strips columns low left top_of ceilings.each k (omega arith) (omega arith)
      (λ right first last. inr (λ c from to. full c from (omega arith))))

  -- and none is higher than the lowest column
  pub rows-lowest : (left high column : ℕ) → low ≤ high → IsLeast filled columns low tops left column → top_of column ≤ high → rows_above filled strips columns low left high ≡ []
  rows-lowest left high column from least past =
      numbers-none (row_of filled strips columns low left) (high + 1) (strips + 1)
      (λ k more fewer.
      row-limited filled strips columns low left top_of ceilings.each k (omega arith) (omega arith)
      (λ right first last. elim (cases_lt column right) [
        | inl inside ↦ inl (column, least.held.from, inside, omega arith)
        | inr outside ↦ inr (λ c begin end. least.full c begin (omega arith))
      ]))

  -- behind the last column there is none
  pub lowest-start : (left : ℕ) → columns ≤ left → IsLowest filled columns low tops left None
  lowest-start left past = λ c from to. absurd (omega arith)

  -- a column whose cell under the strip is not filled is the lowest up to itself
  pub lowest-empty : (under : List Bool) (left : ℕ) → AreUnder filled columns low under → left < columns → slice_index_or under left false ≡ false → IsLeast filled columns low tops left left
  lowest-empty under left cells within empty = record {
    within = within;
    held = record {
      from = omega arith;
      over = λ c from to. absurd (omega arith);
      empty = (left, omega arith, within, sym (cells.each left within) ∙ empty, λ c from to. let same : left ≡ c = omega arith in subst (λ k. top_of left ≤ top_of k) same (omega arith));
    };
    full = λ c from to. absurd (omega arith);
  }

  -- another together with those behind it
  module _ (under : List Bool) (left : ℕ) (cells : AreUnder filled columns low under) (within : left < columns) where
    filled-from : (column : ℕ) → slice_index_or under left false ≡ true → left ≤ column → (left + 1 ≤ column → is_filled_under filled low column ≡ true)
        → is_filled_under filled low column ≡ true
    filled-from column full from behind = elim (cases_lt left column) [
      | inl more ↦ behind (omega arith)
      | inr none ↦ let same : left ≡ column = omega arith in subst (λ k. is_filled_under filled low k ≡ true) same (sym (cells.each left within) ∙ full)
    ]

    pub lowest-none : slice_index_or under left false ≡ true → IsLowest filled columns low tops (left + 1) None → IsLowest filled columns low tops left None
    lowest-none full was = λ c from to. filled-from c full from (λ more. was c more to)

    over-from : (column other : ℕ) → top_of column ≤ top_of left → left ≤ other → (left + 1 ≤ other → top_of column ≤ top_of other) → top_of column ≤ top_of other
    over-from column other higher from behind = elim (cases_lt left other) [
      | inl more ↦ behind (omega arith)
      | inr none ↦ let same : left ≡ other = omega arith in subst (λ k. top_of column ≤ top_of k) same higher
    ]

    pub lowest-kept : (column : ℕ) → slice_index_or under left false ≡ true → IsLeast filled columns low tops (left + 1) column → top_of column < top_of left
        → IsLeast filled columns low tops left column
    lowest-kept column full was less =
        let old = was.held.empty in
        let begin = was.held.from in
        record {
          within = was.within;
          held = record {
            from = omega arith;
            over = λ c from to. over-from column c (omega arith) from (λ more. was.held.over c more to);
            empty = (old.0, (let first = old.1 in omega arith), old.2, old.3, old.4);
          };
          full = λ c from to. filled-from c full from (λ more. was.full c more to);
        }

    pub lowest-first : (column : ℕ) → IsLeast filled columns low tops (left + 1) column → top_of left ≤ top_of column → IsLeast filled columns low tops left left
    lowest-first column was less =
        let old = was.held.empty in
        record {
          within = within;
          held = record {
            from = omega arith;
            over = λ c from to. absurd (omega arith);
            empty = (
              old.0,
              (let first = old.1 in omega arith),
              old.2,
              old.3,
              λ c from to. over-from left c (omega arith) from (λ more. elim (cases_lt c column) [
                | inl before ↦ let up = was.held.over c more before in omega arith
                | inr behind ↦ let up = old.4 c behind to in omega arith
              ]),
            );
          };
          full = λ c from to. absurd (omega arith);
        }

  -- nothing is filled behind the last column
  pub top-end : (column : ℕ) → columns ≤ column → top_of column ≡ 0
  top-end column past = let long = ceilings.long in get_or_past tops column 0 (omega arith)

  -- from a column to the next that is filled less far up
  module _ (left floor column next : ℕ) (held : IsHeld filled columns low tops left column) (inside : column < columns) (fall : IsFall tops column next)
      (base : IsFloor low left tops floor) (above : floor < top_of column) where
    ends : next ≤ columns
    ends = let long = ceilings.long in let within = fall.within in omega arith

    pub lower : top_of next < top_of column
    lower = elim (cases_lt next columns) [
      | inl more ↦ let long = ceilings.long in fall.stops (omega arith)
      | inr end ↦ let none = top-end next end in omega arith
    ]

    over-all : (other : ℕ) → left ≤ other → other < next → top_of column ≤ top_of other
    over-all other from to = elim (cases_lt other column) [
      | inl before ↦ held.over other from before
      | inr behind ↦ fall.over other behind to
    ]

    empty-before : held.empty.0 < next
    empty-before = elim (cases_lt held.empty.0 next) [
      | inl before ↦ before
      | inr behind ↦
          let wide = fall.wide in
          let up = held.empty.4 next (omega arith) behind in
          let less = lower in
          absurd (omega arith)
    ]

    pub held-next : IsHeld filled columns low tops left next
    held-next = record {
      from = omega (arith, held.from, fall.wide);
      over = λ other from to. let up = over-all other from to in let less = lower in omega arith;
      empty = (held.empty.0, held.empty.1, held.empty.2, held.empty.3, λ other from to. let before = empty-before in absurd (omega arith));
    }

    -- there is one block down to where the next goes up to
    rows-one : (stop : ℕ) → low ≤ stop → stop < top_of column → top_of next ≤ stop
        → rows_above filled strips columns low left stop ≡ block low left (top_of column) next ∷ rows_above filled strips columns low left (top_of column)
    rows-one stop from less stops =
        let high_up = (ceilings.each column inside).to in
        let one : (top_of column - 1) + 1 ≡ top_of column = omega arith in
        let tall : low < top_of column = omega arith in
        let wide : left < next = omega (arith, held.from, fall.wide) in
        rows-between left stop (top_of column - 1) (omega arith) (omega arith)
        (λ k more fewer.
        row-between filled strips columns low left top_of ceilings.each k next (omega arith) (omega arith) wide ends
        (λ c first last. let up = over-all c first last in omega arith) (λ more_columns. omega arith))
        ∙ ap (λ k. flat_map (row_of filled strips columns low left) (numbers k (strips + 1))) one
        ∙ ap (λ l. flat_map (row_of filled strips columns low left) l) (numbers-first (top_of column) (strips + 1) (omega arith))
        ∙ ap (λ l. l ++ rows_above filled strips columns low left (top_of column))
        (row-held filled strips columns low left top_of ceilings.each (top_of column) next tall high_up wide ends over-all (λ more_columns. lower)
        (λ before at. let e = base.beside before at in omega arith) column held.from fall.wide refl held.empty.0 held.empty.1 empty-before held.empty.3)

    pub rows-next : left < columns
        → rows_above filled strips columns low left (max floor (top_of next)) ≡ block low left (top_of column) next ∷ rows_above filled strips columns low left (max floor (top_of column))
    rows-next within =
        let bounds = floor-low left floor within base in
        let less = lower in
        let same : top_of column ≡ max floor (top_of column) = omega arith in
        rows-one (max floor (top_of next)) (let from = bounds.0 in omega arith) (omega arith) (omega arith)
        ∙ ap (λ k. block low left (top_of column) next ∷ rows_above filled strips columns low left k) same

    pub rows-more : left < columns → suc (length (rows_above filled strips columns low left (max floor (top_of column)))) ≤ length (rows_above filled strips columns low left low)
    rows-more within =
        let from = (floor-low left floor within base).0 in
        let less = lower in
        let high_up = (ceilings.each column inside).to in
        let same : max floor (top_of column) ≡ top_of column = omega arith in
        let whole = ap length (rows-one (top_of column - 1) (omega arith) (omega arith) (omega arith)) in
        let split =
        ap (λ l. flat_map (row_of filled strips columns low left) l) (numbers-split (low + 1) ((top_of column - 1) + 1) (strips + 1) (omega arith) (omega arith))
        ∙ flat_map-append (row_of filled strips columns low left) (numbers (low + 1) ((top_of column - 1) + 1)) (numbers ((top_of column - 1) + 1) (strips + 1)) in
        let long = ap length split ∙ length-append (flat_map (row_of filled strips columns low left) (numbers (low + 1) ((top_of column - 1) + 1))) (rows_above filled strips columns low left (top_of column - 1)) in
        subst (λ k. suc (length (rows_above filled strips columns low left k)) ≤ length (rows_above filled strips columns low left low)) (sym same)
        (omega (arith, long, whole))
