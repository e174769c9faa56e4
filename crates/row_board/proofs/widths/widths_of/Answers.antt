use Rattle.std.proofs.Common.{ℕ, List, [], ◌∷◌, ◌++◌, ap₂, sym, ◌∙◌, arith}
use Rattle.std.proofs.lemmas.List.FromFn.{map-range_with_len_more}
use Rattle.row_model.specs.Widths.{columns_of}
use Rattle.row_board.proofs.widths.widths_of.Goals as goal

pub loop-instance-preserved : goal.loop-instance-preserved
loop-instance-preserved c =
    c.in_ok-push.ensures.items ∙ ap₂ (λ (l : List ℕ) (n : ℕ). l ++ n ∷ []) c.loop-instance.invariant c.columns_of.ensures.width
    ∙ sym (map-range_with_len_more (columns_of c.args.design.now) 0 c.loop-instance.instance c.loop-instance.instance (omega arith))
