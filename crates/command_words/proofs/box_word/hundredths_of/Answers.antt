use Rattle.std.proofs.Common.{◌∙◌, sym}
use Rattle.command_words.proofs.LengthLaws.{hundredths-are, hundredths-none}
use Rattle.command_words.proofs.box_word.hundredths_of.Goals as goal

pub returns-in_err-microns-clause-is : goal.returns-in_err-microns-clause-is
returns-in_err-microns-clause-is c =
    c.from_residual.ensures ∙ sym (hundredths-none c.args.whole.now c.args.tenth c.args.hundredth (sym c.number_within.ensures.is ∙ c.in_err-microns.was))

pub returns-clause-is : goal.returns-clause-is
returns-clause-is c =
    c.number_behind.ensures.is ∙ sym (hundredths-are c.in_ok-microns.microns c.args.whole.now c.args.tenth c.args.hundredth (sym c.is_empty.ensures ∙ c.if-is_empty.false)
    (sym c.number_within.ensures.is ∙ c.in_ok-microns.was))
