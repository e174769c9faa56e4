use Rattle.std.proofs.Common.{sym, ◌∙◌, eqb-true, length}
use borrow.Author.Tests.{eqb-false}
use Rattle.blif_reader.proofs.Lexing.{end-empty, end-found, end-none}
use Rattle.blif_reader.proofs.tokens.feed_at.Goals as goal

pub returns-then-is_empty-clause-gives : goal.returns-then-is_empty-clause-gives
returns-then-is_empty-clause-gives c =
    let rest = c.skip_blanks-rest.result.now in
    rw (← c.skip_blanks-rest.ensures.same, c.flaw_at.ensures) (end-empty rest (eqb-true (length rest) 0 (sym c.is_empty.ensures ∙ c.if-is_empty.true)))

pub returns-then-rest-ne10-clause-gives : goal.returns-then-rest-ne10-clause-gives
returns-then-rest-ne10-clause-gives c =
    rw (← c.skip_blanks-rest.ensures.same, c.flaw_at-then-rest-ne10.ensures) (end-none c.skip_blanks-rest.result.now c.skip_blanks-rest.ensures.bare c.if-rest-ne10.true)

pub returns-clause-gives : goal.returns-clause-gives
returns-clause-gives c =
    let rest = c.skip_blanks-rest.result.now in
    rw (← c.skip_blanks-rest.ensures.same, c.split_at.ensures.back) (end-found rest (eqb-false (length rest) 0 (sym c.is_empty.ensures ∙ c.if-is_empty.false)) c.if-rest-ne10.false)
