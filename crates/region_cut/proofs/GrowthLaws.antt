use Rattle.std.proofs.Common.{◌≡◌, ◌<◌, ◌≤◌, ◌+◌, inl, inr, ℕ, zero, suc, Bool, true, false, refl, subst, arith}
use Rattle.std.proofs.lemmas.Bool.{both_ways, cases_lt}
use Rattle.region_cut.specs.Blocks.{Block, IsBlock, is_filled_block, is_maximal}
use Rattle.region_cut.specs.Ceilings.{IsCeiling, is_filled_under}
use Rattle.region_cut.proofs.BlockLaws.{LiesIn, filled-cell, filled-from, grows, maximal-from, not-filled}

-- the block with these sides
abbrev pub block : ℕ → ℕ → ℕ → ℕ → Block
block low left high right = record { low = low; left = left; high = high; right = right }

module _ (filled : ℕ → ℕ → Bool) (strips columns : ℕ) where
  -- a block that can grow on one side is not maximal
  pub grows-right : (low left high right : ℕ) → low < high → high ≤ strips → left < right → right < columns
      → ((strip : ℕ) → low ≤ strip → strip < high → filled strip right ≡ true) → is_maximal filled strips columns (block low left high right) ≡ false
  grows-right low left high right tall up wide within beside =
      grows filled strips columns (block low left high right) (block low left high (right + 1))
      (record { wide = omega arith; tall = tall; across = omega arith; up = up })
      (record { low = omega arith; left = omega arith; high = omega arith; right = omega arith })
      (λ back. omega (arith, back.right))
      (λ full. filled-from filled (block low left high (right + 1)) (λ s c below above from to. elim (cases_lt c right) [
        | inl inside ↦ filled-cell filled (block low left high right) s c full below above from inside
        | inr outside ↦ let same : right ≡ c = omega arith in subst (λ k. filled s k ≡ true) same (beside s below above)
      ]))

  pub grows-left : (low left high right : ℕ) → low < high → high ≤ strips → suc left < right → right ≤ columns
      → ((strip : ℕ) → low ≤ strip → strip < high → filled strip left ≡ true) → is_maximal filled strips columns (block low (suc left) high right) ≡ false
  grows-left low left high right tall up wide within beside =
      grows filled strips columns (block low (suc left) high right) (block low left high right)
      (record { wide = omega arith; tall = tall; across = within; up = up })
      (record { low = omega arith; left = omega arith; high = omega arith; right = omega arith })
      (λ back. omega (arith, back.left))
      (λ full. filled-from filled (block low left high right) (λ s c below above from to. elim (cases_lt left c) [
        | inl inside ↦ filled-cell filled (block low (suc left) high right) s c full below above (omega arith) to
        | inr outside ↦ let same : left ≡ c = omega arith in subst (λ k. filled s k ≡ true) same (beside s below above)
      ]))

  pub grows-up : (low left high right : ℕ) → low < high → high < strips → left < right → right ≤ columns
      → ((column : ℕ) → left ≤ column → column < right → filled high column ≡ true) → is_maximal filled strips columns (block low left high right) ≡ false
  grows-up low left high right tall up wide within beside =
      grows filled strips columns (block low left high right) (block low left (high + 1) right)
      (record { wide = wide; tall = omega arith; across = within; up = omega arith })
      (record { low = omega arith; left = omega arith; high = omega arith; right = omega arith })
      (λ back. omega (arith, back.high))
      (λ full. filled-from filled (block low left (high + 1) right) (λ s c below above from to. elim (cases_lt s high) [
        | inl inside ↦ filled-cell filled (block low left high right) s c full below inside from to
        | inr outside ↦ let same : high ≡ s = omega arith in subst (λ k. filled k c ≡ true) same (beside c from to)
      ]))

  pub grows-down : (low left high right : ℕ) → suc low < high → high ≤ strips → left < right → right ≤ columns
      → ((column : ℕ) → left ≤ column → column < right → filled low column ≡ true) → is_maximal filled strips columns (block (suc low) left high right) ≡ false
  grows-down low left high right tall up wide within beside =
      grows filled strips columns (block (suc low) left high right) (block low left high right)
      (record { wide = wide; tall = omega arith; across = within; up = up })
      (record { low = omega arith; left = omega arith; high = omega arith; right = omega arith })
      (λ back. omega (arith, back.low))
      (λ full. filled-from filled (block low left high right) (λ s c below above from to. elim (cases_lt low s) [
        | inl inside ↦ filled-cell filled (block (suc low) left high right) s c full (omega arith) above from to
        | inr outside ↦ let same : low ≡ s = omega arith in subst (λ k. filled k c ≡ true) same (beside c from to)
      ]))

  -- where all columns of a block are filled up to its upper side
  module _ (low : ℕ) (tops : ℕ → ℕ) (ceilings : (column : ℕ) → column < columns → IsCeiling filled strips low column (tops column)) where
    -- up to its ceiling a column is filled, and it is not where a block reaches past the ceiling
    pub cell-under : (strip column high : ℕ) → column < columns → high ≤ tops column → low ≤ strip → strip < high → filled strip column ≡ true
    cell-under strip column high within under from to = (ceilings column within).cells strip from (omega arith)

    pub past-ceiling : (left high right column : ℕ) → right ≤ columns → high ≤ strips → left ≤ column → column < right → tops column < high
        → is_maximal filled strips columns (block low left high right) ≡ false
    past-ceiling left high right column within up from to past =
        let ceiling = ceilings column (omega arith) in
        not-filled filled strips columns (block low left high right) (tops column) column ceiling.from past from to (ceiling.next (omega arith))

    -- a column that is filled over the strips of a block has its ceiling no lower
    over : (column high : ℕ) → column < columns → low < high → high ≤ strips → ((strip : ℕ) → low ≤ strip → strip < high → filled strip column ≡ true) → tops column < high → ⊥
    over column high within tall up full past =
        let ceiling = ceilings column within in
        both_ways (filled (tops column) column) (ceiling.next (omega arith)) (full (tops column) ceiling.from past)

    -- a block that can grow on no side is maximal
    pub cannot-grow : (left high right : ℕ) → low < high → high ≤ strips → left < right → right ≤ columns
        → ((column : ℕ) → left ≤ column → column < right → high ≤ tops column)
        → (right < columns → tops right < high)
        → ((before : ℕ) → left ≡ suc before → tops before < high)
        → (column : ℕ) → left ≤ column → column < right → tops column ≡ high
        → (other : ℕ) → left ≤ other → other < right → is_filled_under filled low other ≡ false
        → is_maximal filled strips columns (block low left high right) ≡ true
    cannot-grow left high right tall up wide within under stops begins column from to met other on under_end empty =
        maximal-from filled strips columns (block low left high right)
        (filled-from filled (block low left high right) (λ s c below above first last. cell-under s c high (omega arith) (under c first last) below above))
        (λ c valid full inside. record {
          low = not_lower c valid full inside;
          left = not_before c valid full inside;
          high = not_higher c valid full inside;
          right = not_behind c valid full inside;
        })
      where
        not_behind : (c : Block) → IsBlock strips columns c → is_filled_block filled c ≡ true → LiesIn (block low left high right) c → c.right ≤ right
        not_behind c valid full inside = elim (cases_lt right c.right) [
          | inl more ↦
              absurd (over right high (omega (arith, valid.across)) tall up
              (λ s below above. filled-cell filled c s right full (omega (arith, inside.low)) (omega (arith, inside.high)) (omega (arith, inside.left)) more) (stops (omega (arith, valid.across))))
          | inr fits ↦ fits
        ]

        not_before : (c : Block) → IsBlock strips columns c → is_filled_block filled c ≡ true → LiesIn (block low left high right) c → left ≤ c.left
        not_before c valid full inside = by left refl
          where
            by : (l : ℕ) → left ≡ l → left ≤ c.left
            by zero is = omega arith
            by (suc before) is = elim (cases_lt c.left left) [
              | inl less ↦
                  absurd (over before high (omega arith) tall up
                  (λ s below above. filled-cell filled c s before full (omega (arith, inside.low)) (omega (arith, inside.high)) (omega arith) (omega (arith, inside.right))) (begins before is))
              | inr fits ↦ fits
            ]

        not_higher : (c : Block) → IsBlock strips columns c → is_filled_block filled c ≡ true → LiesIn (block low left high right) c → c.high ≤ high
        not_higher c valid full inside = elim (cases_lt high c.high) [
          | inl more ↦
              absurd (both_ways (filled high column)
              (subst (λ k. filled k column ≡ false) met ((ceilings column (omega arith)).next (omega (arith, valid.up))))
              (filled-cell filled c high column full (omega (arith, inside.low)) more (omega (arith, inside.left)) (omega (arith, inside.right))))
          | inr fits ↦ fits
        ]

        not_lower : (c : Block) → IsBlock strips columns c → is_filled_block filled c ≡ true → LiesIn (block low left high right) c → low ≤ c.low
        not_lower c valid full inside = by low refl
          where
            by : (l : ℕ) → low ≡ l → low ≤ c.low
            by zero is = omega arith
            by (suc before) is = elim (cases_lt c.low low) [
              | inl less ↦
                  absurd (both_ways (filled before other)
                  (subst (λ k. is_filled_under filled k other ≡ false) is empty)
                  (filled-cell filled c before other full (omega arith) (omega (arith, inside.high)) (omega (arith, inside.left)) (omega (arith, inside.right))))
              | inr fits ↦ fits
            ]
