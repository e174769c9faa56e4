use Rattle.std.proofs.Common.{◌≡◌, ◌∙◌, ◌<◌, inl, inr, ℕ, suc, Bool, true, false, cond, List, length, replicate, ap, refl, subst, sym, arith}
use Rattle.std.proofs.lemmas.Bool.{cases_eq}
use Rattle.std.proofs.lemmas.List.{get_or-replicate, length-replicate}
use Rattle.std.specs.Prelude.{slice_index, slice_index_or}
use Rattle.region_cut.specs.Ceilings.{AreCeilings, AreUnder, IsCeiling, is_filled_under}

-- above the highest strip
pub ceilings-start : (filled : ℕ → ℕ → Bool) (strips columns : ℕ) (tops : List ℕ) → tops ≡ replicate columns strips → AreCeilings filled strips columns strips tops
ceilings-start filled strips columns tops is = record {
  long = ap length is ∙ length-replicate columns strips;
  each = λ column within.
      subst (IsCeiling filled strips strips column) (sym (ap (λ (l : List ℕ). slice_index l column) is ∙ get_or-replicate columns column strips 0 within))
      (record { from = omega arith; to = omega arith; cells = λ strip low high. absurd (omega arith); next = λ less. absurd (omega arith) });
}

-- one strip lower
pub ceilings-lower : (filled : ℕ → ℕ → Bool) (strips columns low above : ℕ) (tops new : List ℕ) (cells : List Bool) → above ≡ suc low → low < strips
    → AreCeilings filled strips columns above tops → AreUnder filled columns above cells → length new ≡ length tops
    → ((column : ℕ) → column < length tops → slice_index new column ≡ cond (slice_index_or cells column false) (slice_index tops column) low)
    → AreCeilings filled strips columns low new
ceilings-lower filled strips columns low above tops new cells is within was under long each = record {
  long = long ∙ was.long;
  each = λ column inside.
      let length_is = was.long in
      subst (IsCeiling filled strips low column) (sym (each column (omega arith)))
      (by column (slice_index_or cells column false) (sym (under.each column inside) ∙ refl) (was.each column inside));
}
  where
    by : (column : ℕ) (b : Bool) → is_filled_under filled above column ≡ b → IsCeiling filled strips above column (slice_index tops column)
        → IsCeiling filled strips low column (cond b (slice_index tops column) low)
    by column true cell ceiling = record {
      from = omega (arith, ceiling.from);
      to = ceiling.to;
      cells = λ strip from to. elim (cases_eq low strip) [
        | inl same ↦ subst (λ k. filled k column ≡ true) same (subst (λ k. is_filled_under filled k column ≡ true) is cell)
        | inr other ↦ ceiling.cells strip (omega arith) to
      ];
      next = ceiling.next;
    }
    by column false cell ceiling = record {
      from = omega arith;
      to = omega arith;
      cells = λ strip from to. absurd (omega arith);
      next = λ less. subst (λ k. is_filled_under filled k column ≡ false) is cell;
    }
