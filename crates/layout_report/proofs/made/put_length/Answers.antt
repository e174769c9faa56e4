use Rattle.std.proofs.Common.{◌≤◌, ◌^◌, arith}
use Rattle.std.proofs.Math.Nat.{one-le-pow}
use Rattle.layout_report.proofs.made.put_length.Goals as goal

pub nonzero_div-units : goal.nonzero_div-units
nonzero_div-units c =
    let some : 1 ≤ 10 ^ c.args.decimals = one-le-pow c.args.decimals 10 (omega arith) in
    rw c.power_of_ten.ensures (omega (arith, some))
