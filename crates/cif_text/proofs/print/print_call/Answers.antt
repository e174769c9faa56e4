use Rattle.std.proofs.Common.{rules, w64, SFits, to_z-of_z, decimal, drop}
use Rattle.std.specs.Fmt.{signed_decimal}
use Rattle.cif_text.proofs.LineLemmas.{call-joined}
use Rattle.cif_text.proofs.print.print_call.Goals as goal

pub returns-clause-line : goal.returns-clause-line
returns-clause-line c =
    let across : SFits w64 c.args.dx = search rules in
    let up : SFits w64 c.args.dy = search rules in
    call-joined _ _ _ _ _ _ _ _ (decimal c.args.n) (signed_decimal c.args.dx) (signed_decimal c.args.dy) (drop c.args.end c.args.into.now) c.args.flip c.args.quarters
    c.put-start.ensures.text
    (rw (to_z-of_z up) at c.put_number-start.ensures.text)
    (rw (to_z-of_z across) at c.put_number-start-2.ensures.text)
    c.put-start-2.ensures.text
    (rw c.quarters_text.ensures.text at c.put-start-3.ensures.text)
    (rw c.flip_text.ensures.text at c.put-start-4.ensures.text)
    c.put_natural-start.ensures.text
    c.put.ensures.text
