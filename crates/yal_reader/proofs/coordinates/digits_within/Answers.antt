use Rattle.std.proofs.Common.{replicate, sym, ◌∙◌}
use Rattle.limits.specs.declared.TheConstants.{MOST_COORDINATE}
use Rattle.yal_reader.proofs.PlacesLaws.{digits-are, digits-fail, digits-none}
use Rattle.yal_reader.proofs.coordinates.digits_within.Goals as goal

pub returns-in_err-n : goal.returns-in_err-n
returns-in_err-n c =
    c.from_residual.ensures ∙ sym (digits-none MOST_COORDINATE c.args.digits.now c.args.further.now (replicate c.args.zeros 48) (sym c.number_within.ensures.is ∙ c.in_err-n.was))

pub returns-in_err-n-2 : goal.returns-in_err-n-2
returns-in_err-n-2 c =
    c.from_residual-in_err-n-2.ensures ∙ sym (digits-fail MOST_COORDINATE c.in_ok-n.n c.args.digits.now c.args.further.now (replicate c.args.zeros 48) (sym c.number_within.ensures.is ∙ c.in_ok-n.was)
    (sym c.number_behind.ensures.is ∙ c.in_err-n-2.was))

pub returns : goal.returns
returns c =
    c.with_zeros.ensures ∙ sym (digits-are MOST_COORDINATE c.in_ok-n.n c.in_ok-n-2.n c.args.digits.now c.args.further.now (replicate c.args.zeros 48) (sym c.number_within.ensures.is ∙ c.in_ok-n.was)
    (sym c.number_behind.ensures.is ∙ c.in_ok-n-2.was))
