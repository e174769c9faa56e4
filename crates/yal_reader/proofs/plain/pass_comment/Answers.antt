use Rattle.std.proofs.Common.{sym, ◌∙◌, refl, arith}
use Rattle.yal_reader.proofs.PlainLaws.{comment-moves, comment-passed, comment-stays_open, with_text-fails}
use Rattle.yal_reader.proofs.plain.pass_comment.Goals as goal

pub returns-then-begins-clause-passes : goal.returns-then-begins-clause-passes
returns-then-begins-clause-passes c =
    c.loop-after.invariant.0 ∙ comment-passed c.loop-after.text.items c.args.left c.loop-after.rest.now (sym c.begins.ensures ∙ c.if-begins.true)
    ∙ rw (c.in_ok-push_blanks.ensures.items, c.split_at.ensures.back) refl

pub loop-after-preserved : goal.loop-after-preserved
loop-after-preserved c = (
  c.loop-after.invariant.0 ∙ comment-moves c.loop-after.text.items c.args.left c.loop-after.rest.now _ c.in-Some.after.now c.in-Some.ensures.cases.0 (sym c.begins.ensures ∙ c.if-begins.false)
      ∙ rw c.in_ok-push.ensures.items refl,
  omega (arith, c.in-Some.ensures.cases.1, c.loop-after.invariant.1),
)

pub returns-clause-fails : goal.returns-clause-fails
returns-clause-fails c =
    with_text-fails c.args.text.now.items _ _ (c.loop-after.invariant.0 ∙ comment-stays_open c.loop-after.text.items c.args.left c.loop-after.rest.now c.in_default.ensures.cases)
