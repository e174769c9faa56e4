use Rattle.std.proofs.Common.{sym, ◌∙◌}
use Rattle.std.proofs.lemmas.Result.{err_from_is_err_and}
use Rattle.yal_reader.proofs.PlainLaws.{comment-opened, comment-ends_text, plain-ends, plain-moves}
use Rattle.yal_reader.proofs.plain.without_comments.Goals as goal

pub returns-in_err-rest : goal.returns-in_err-rest
returns-in_err-rest c =
    let p = err_from_is_err_and c.from_residual-in_err-rest.result c.from_residual-in_err-rest.ensures.1 in
    rw (p.1, p.2)
    (comment-ends_text c.loop-byte.text.items c.loop-byte.rest.now _ _ (sym c.begins.ensures ∙ c.if-begins.true) c.loop-byte.invariant (rw c.split_at.ensures.back at c.in_err-rest.ensures.fails))

pub loop-byte-preserved-then-begins : goal.loop-byte-preserved-then-begins
loop-byte-preserved-then-begins c =
    sym c.in_ok-rest.ensures.passes ∙ rw (c.in_ok-push_blanks.ensures.items, c.split_at.ensures.back)
    (sym (comment-opened c.loop-byte.text.items c.loop-byte.rest.now (sym c.begins.ensures ∙ c.if-begins.true)) ∙ c.loop-byte.invariant)

pub loop-byte-preserved : goal.loop-byte-preserved
loop-byte-preserved c =
    rw c.in_ok-push.ensures.items
    (sym (plain-moves c.loop-byte.text.items c.loop-byte.rest.now c.in-Some.byte.now c.in-Some.after.now c.in-Some.ensures.cases.0 (sym c.begins.ensures ∙ c.if-begins.false)) ∙ c.loop-byte.invariant)

pub returns : goal.returns
returns c = sym c.loop-byte.invariant ∙ plain-ends c.loop-byte.text.items c.loop-byte.rest.now c.in_default.ensures.cases
