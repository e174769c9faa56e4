use Rattle.std.proofs.Common.{rules, arith, ◌≤◌, length, decimal}
use Rattle.std.proofs.lemmas.Fmt.{length-decimal-le}
use Rattle.cif_text.proofs.print.put_number.Goals as goal

pub write_digits-start-requires : goal.write_digits-start-requires
write_digits-start-requires c =
    let short : length (decimal c.unsigned_abs.result) ≤ 19 = length-decimal-le 19 c.unsigned_abs.result (omega arith) (omega arith) (omega arith) in
    (omega (arith, short), search rules)

pub put-requires-clause-room : goal.put-requires-clause-room
put-requires-clause-room c =
    omega (arith, length-decimal-le 19 c.unsigned_abs.result (omega arith) (omega arith) (omega arith))

pub returns-then-n-lt0-clause-short : goal.returns-then-n-lt0-clause-short
returns-then-n-lt0-clause-short c =
    omega (arith, length-decimal-le 19 c.unsigned_abs.result (omega arith) (omega arith) (omega arith))

pub put-requires-2-clause-room : goal.put-requires-2-clause-room
put-requires-2-clause-room c =
    omega (arith, length-decimal-le 19 c.unsigned_abs.result (omega arith) (omega arith) (omega arith))

pub returns-clause-short : goal.returns-clause-short
returns-clause-short c =
    omega (arith, length-decimal-le 19 c.unsigned_abs.result (omega arith) (omega arith) (omega arith))
