use Rattle.std.proofs.Common.{rules, w64, SFits, to_z-of_z, drop}
use Rattle.std.specs.Fmt.{signed_decimal}
use Rattle.cif_text.proofs.LineLemmas.{box-joined}
use Rattle.cif_text.proofs.print.print_box.Goals as goal

pub returns-clause-line : goal.returns-clause-line
returns-clause-line c =
    let long : SFits w64 c.args.length = search rules in
    let wide : SFits w64 c.args.width = search rules in
    let across : SFits w64 c.args.cx = search rules in
    let up : SFits w64 c.args.cy = search rules in
    box-joined _ _ _ _ _ _ _ (signed_decimal c.args.length) (signed_decimal c.args.width) (signed_decimal c.args.cx) (signed_decimal c.args.cy) _ (drop c.args.end c.args.into.now)
    c.put-start.ensures.text
    (rw c.upright_text.ensures.text at c.put-start-2.ensures.text)
    (rw (to_z-of_z up) at c.put_number-start.ensures.text)
    (rw (to_z-of_z across) at c.put_number-start-2.ensures.text)
    (rw (to_z-of_z wide) at c.put_number-start-3.ensures.text)
    (rw (to_z-of_z long) at c.put_number-start-4.ensures.text)
    c.put.ensures.text
