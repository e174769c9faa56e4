use Rattle.std.proofs.Common.{◌≡◌, ◌+◌, ◌∙◌, ℕ, map, sum, arith}
use Rattle.std.proofs.lemmas.List.FromFn.{sum_by-map-range_with_len_more}
use Rattle.std.specs.List.{range_with_len}
use Rattle.row_model.specs.Widths.{columns_of}
use Rattle.row_model.proofs.widths.all_columns.Goals as goal

more-columns : (f : ℕ → ℕ) (n : ℕ) → sum (map f (range_with_len 0 (n + 1))) ≡ sum (map f (range_with_len 0 n)) + f n
more-columns f n = sum_by-map-range_with_len_more (λ (x : ℕ). x) f 0 n n (omega arith)

pub loop-instance-preserved : goal.loop-instance-preserved
loop-instance-preserved c =
    let more = more-columns (columns_of c.args.design.now) c.loop-instance.instance in
    let width = c.from-width.ensures ∙ c.columns_of.ensures.width in
    record {
      so_far = omega (arith, more, width, c.loop-instance.invariant.so_far);
      small = omega (arith, c.columns_of.ensures.few, c.from-width.ensures, c.loop-instance.invariant.small);
    }
