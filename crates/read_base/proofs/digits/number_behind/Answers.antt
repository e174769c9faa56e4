use Rattle.std.proofs.Common.{sym, ◌∙◌}
use Rattle.read_base.proofs.DigitsLaws.{behind-great, behind-over}
use Rattle.read_base.proofs.digits.number_behind.Goals as goal

pub returns-then-before-most-clause-is : goal.returns-then-before-most-clause-is
returns-then-before-most-clause-is c = sym (behind-great c.args.most c.args.before c.args.digits.now c.if-before-most.true)

pub returns-in_default-with_digit-clause-is : goal.returns-in_default-with_digit-clause-is
returns-in_default-with_digit-clause-is c =
    behind-over c.args.most c.loop-byte.n c.in-Some.byte.now _ c.in-Some.after.now _ c.in-Some.ensures.cases.0 (sym c.is_ascii_digit.ensures.value ∙ c.if-not-is_ascii_digit.false)
    (sym c.with_digit.ensures ∙ c.in_default-with_digit.is) c.loop-byte.invariant.0
