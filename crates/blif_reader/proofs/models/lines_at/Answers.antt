use Rattle.std.proofs.Common.{arith, sym, ◌∙◌}
use Rattle.std.proofs.lemmas.Result.{err_from_is_err_and}
use Rattle.blif_reader.proofs.RunLaws.{lines-end, lines-fail, lines-on, lines-open, lines-stop}
use Rattle.blif_reader.proofs.models.lines_at.Goals as goal

pub returns-in_err-first : goal.returns-in_err-first
returns-in_err-first c = λ n lt.
    let p = err_from_is_err_and c.from_residual.result c.from_residual.ensures.1 in
    rw (p.1, p.2) (lines-stop c.args.size c.loop-found.found _ _ _ _ (rw c.line_at.ensures.gives at c.in_err-first.ensures.gives) (c.loop-found.invariant.0 n lt))

pub returns-in_err-closed_at : goal.returns-in_err-closed_at
returns-in_err-closed_at c = λ n lt.
    let p = err_from_is_err_and c.from_residual-in_err-closed_at.result c.from_residual-in_err-closed_at.ensures.1 in
    rw (p.1, p.2)
    (lines-open c.args.size c.loop-found.found _ _ _ _ _ _ (rw c.line_at.ensures.gives at c.in_ok-first.ensures.gives) (sym c.is_word.ensures ∙ c.if-is_word.true) c.in_err-closed_at.ensures (c.loop-found.invariant.0 n lt))

pub returns-then-is_word : goal.returns-then-is_word
returns-then-is_word c = λ n lt.
    lines-end c.args.size c.loop-found.found _ _ _ _ _ (rw c.line_at.ensures.gives at c.in_ok-first.ensures.gives) (sym c.is_word.ensures ∙ c.if-is_word.true) c.in_ok-closed_at.ensures (c.loop-found.invariant.0 n lt)

pub returns-in_err-more : goal.returns-in_err-more
returns-in_err-more c = λ n lt.
    let p = err_from_is_err_and c.from_residual-in_err-more.result c.from_residual-in_err-more.ensures.1 in
    rw (p.1, p.2)
    (lines-fail c.args.size _ c.loop-found.found _ _ _ _ _ (rw c.line_at.ensures.gives at c.in_ok-first.ensures.gives) (sym c.is_word.ensures ∙ c.if-is_word.false) c.in_err-more.ensures.gives (c.loop-found.invariant.0 n lt))

pub loop-found-preserved : goal.loop-found-preserved
loop-found-preserved c = (
  λ n lt.
      lines-on c.args.size c.loop-found.found _ _ _ _ _ _ _ _ (rw c.line_at.ensures.gives at c.in_ok-first.ensures.gives) (sym c.is_word.ensures ∙ c.if-is_word.false) c.in_ok-more.ensures.gives
      (omega (arith, c.line_at.ensures.shorter, c.in_ok-first.ensures.shorter, c.in_ok-more.ensures.shorter)) (c.loop-found.invariant.0 n lt),
  omega (arith, c.line_at.ensures.shorter, c.in_ok-first.ensures.shorter, c.in_ok-more.ensures.shorter, c.loop-found.invariant.1),
)
