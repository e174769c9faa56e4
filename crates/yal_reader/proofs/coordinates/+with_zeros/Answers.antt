use Rattle.std.proofs.Common.{◌-◌, sym, ◌∙◌, arith}
use Rattle.limits.specs.declared.TheConstants.{MOST_COORDINATE}
use Rattle.yal_reader.proofs.PlacesLaws.{zeros-fail, zeros-none}
use Rattle.yal_reader.proofs.coordinates.+with_zeros.Goals as goal

pub returns-then-n-eq0 : goal.returns-then-n-eq0
returns-then-n-eq0 t c = rw c.if-n-eq0.true (sym (zeros-none MOST_COORDINATE c.args.zeros))

pub returns-in_err-more : goal.returns-in_err-more
returns-in_err-more t c =
    c.from_residual.ensures ∙ sym (zeros-fail MOST_COORDINATE c.args.n (c.args.zeros - 1) c.args.zeros (omega (arith, c.if-zeros-eq0.false)) (sym c.number_behind.ensures.is ∙ c.in_err-more.was))
