use Rattle.std.proofs.Common.{arith, length, sym, ◌∙◌}
use Rattle.std.proofs.lemmas.Result.{err_from_is_err_and}
use Rattle.yal_reader.proofs.FuelLaws.{sections-ends, sections-fails, sections-here, sections-on, sections-open}
use Rattle.yal_reader.proofs.sections.sections_at.Goals as goal

pub returns-in_err-first-clause-gives : goal.returns-in_err-first-clause-gives
returns-in_err-first-clause-gives c = λ n lt.
    let p = err_from_is_err_and c.from_residual.result c.from_residual.ensures.1 in
    rw (p.1, p.2) (sections-ends c.args.numbers c.args.kind c.loop-parts.parts _ _ _ _ (rw c.statement_at.ensures.gives at c.in_err-first.ensures.gives) (c.loop-parts.invariant.0 n lt))

pub returns-in_err-after-clause-gives : goal.returns-in_err-after-clause-gives
returns-in_err-after-clause-gives c = λ n lt.
    let p = err_from_is_err_and c.from_residual-in_err-after.result c.from_residual-in_err-after.ensures.1 in
    rw (p.1, p.2)
    (sections-open c.args.numbers c.args.kind c.loop-parts.parts _ _ _ _ _ _ (rw c.statement_at.ensures.gives at c.in_ok-first.ensures.gives) (sym c.is_word.ensures ∙ c.if-is_word.true) c.in_err-after.ensures.gives (c.loop-parts.invariant.0 n lt))

pub returns-then-is_word-clause-gives : goal.returns-then-is_word-clause-gives
returns-then-is_word-clause-gives c = λ n lt.
    sections-here c.args.numbers c.args.kind c.loop-parts.parts _ _ _ _ _ _ (rw c.statement_at.ensures.gives at c.in_ok-first.ensures.gives) (sym c.is_word.ensures ∙ c.if-is_word.true) c.in_ok-after.ensures.gives (c.loop-parts.invariant.0 n lt)

pub returns-in_err-more-clause-gives : goal.returns-in_err-more-clause-gives
returns-in_err-more-clause-gives c = λ n lt.
    let p = err_from_is_err_and c.from_residual-in_err-more.result c.from_residual-in_err-more.ensures.1 in
    rw (p.1, p.2)
    (sections-fails c.args.numbers _ c.args.kind c.loop-parts.parts _ _ _ (length c.in_ok-first.after.now) _ _ (rw c.statement_at.ensures.gives at c.in_ok-first.ensures.gives) (sym c.is_word.ensures ∙ c.if-is_word.false)
    (omega (arith, c.statement_at.ensures.shorter, c.in_ok-first.ensures.shorter)) c.in_err-more.ensures.gives (c.loop-parts.invariant.0 n lt))

pub loop-parts-preserved : goal.loop-parts-preserved
loop-parts-preserved c = (
  λ n lt.
      sections-on c.args.numbers c.args.kind c.loop-parts.parts _ _ _ _ _ _ (length c.in_ok-first.after.now) _ _ (rw c.statement_at.ensures.gives at c.in_ok-first.ensures.gives) (sym c.is_word.ensures ∙ c.if-is_word.false)
      (omega (arith, c.statement_at.ensures.shorter, c.in_ok-first.ensures.shorter)) c.in_ok-more.ensures.shorter c.in_ok-more.ensures.gives (c.loop-parts.invariant.0 n lt),
  omega (arith, c.statement_at.ensures.shorter, c.in_ok-first.ensures.shorter, c.in_ok-more.ensures.shorter, c.loop-parts.invariant.1),
)
