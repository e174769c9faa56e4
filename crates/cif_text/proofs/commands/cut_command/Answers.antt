use Rattle.std.proofs.Common.{arith, length, ◌+◌}
use Rattle.cif_text.proofs.PlaceLaws.{form-places, has-place}
use Rattle.cif_text.proofs.commands.cut_command.Goals as goal

pub from_form-requires-clause-place : goal.from_form-requires-clause-place
from_form-requires-clause-place c =
    let places = rw c.in_ok-form.ensures.is at (form-places c.args.first c.split_body.result.0.now) in
    has-place (length c.args.bytes.now + 1) (length c.in-Some.rest.now) (length c.split_body.result.0.now) c.in_ok-form.form
    (omega (arith, c.split_body.ensures.whole, c.in-Some.ensures.cases.1)) places
