use Rattle.std.proofs.Common.{◌≡◌, ◌<◌, ◌∙◌, ℕ, Some, true, length, refl, ap, sym, arith, rules}
use Rattle.std.specs.List.{slice_get, slice_index}
use Rattle.std.proofs.lemmas.Option.{slice_get_read, slice_get_within}
use Rattle.rule_check.specs.Rows.{row_at}
use Rattle.rule_check.specs.Narrow.{is_on}
use Rattle.rule_check.proofs.OutlineLaws.{told-more}
use Rattle.rule_check.proofs.outlines.row_numbers.Goals as goal

pub loop-k-preserved : goal.loop-k-preserved
loop-k-preserved c =
    let shape : slice_get c.shapes-shapes.result.now c.loop-k.k ≡ Some c.index-shapes-k.result =
    slice_get_read c.shapes-shapes.result.now (length c.shapes-shapes.result.now) c.loop-k.k c.index-shapes-k.result refl c.loop-k-test.true c.index-shapes-k.is in
    record {
      each = search rules;
      few = omega (arith, c.number_of.ensures.len);
      rows = c.number_of.ensures.numbered;
      told = told-more (λ i s n. is_on c.args.rules.now.outline.layer s ≡ true → row_at c.number_of.new.rows s.rect.y0 ≡ Some n)
          c.shapes-shapes.result.now c.loop-k.numbers.items _ c.loop-k.k c.in_ok-number.number c.index-shapes-k.result c.loop-k.invariant.each
          c.in_ok-push.ensures.items shape c.in_ok-number.ensures.told
          (λ i s below at on. c.number_of.ensures.kept s.rect.y0 _ (c.loop-k.invariant.told i s below at on));
    }

pub returns : goal.returns
returns c = rw (← c.shapes-shapes.ensures.is) (record {
  each = search rules;
  same = λ i j s t s_is t_is s_on t_on.
      let s_within : i < length c.shapes-shapes.result.now = slice_get_within c.shapes-shapes.result.now i s s_is in
      let t_within : j < length c.shapes-shapes.result.now = slice_get_within c.shapes-shapes.result.now j t t_is in
      let first : row_at c.loop-k.rows s.rect.y0 ≡ Some (slice_index c.loop-k.numbers.items i) =
      c.loop-k.invariant.told i s (omega arith) s_is s_on in
      let second : row_at c.loop-k.rows t.rect.y0 ≡ Some (slice_index c.loop-k.numbers.items j) =
      c.loop-k.invariant.told j t (omega arith) t_is t_on in (
        λ same. c.loop-k.invariant.rows.once s.rect.y0 t.rect.y0 (slice_index c.loop-k.numbers.items i) first
            (second ∙ ap (λ (n : ℕ). Some n) (sym same)),
        λ level. let both : Some (slice_index c.loop-k.numbers.items i) ≡ Some (slice_index c.loop-k.numbers.items j) =
            sym first ∙ ap (row_at c.loop-k.rows) level ∙ second in cc,
      );
})
