use Rattle.geom_core.proofs.rect.gap_between.Goals as goal
use Rattle.std.proofs.Common.{arith, rules, ◌≡◌}
use Rattle.std.specs.Int.{int_max, int_min}
use Rattle.std.proofs.lemmas.Int.{to_z-of_z, ints, clamps}
use Rattle.std_laws.proofs.Integers.{difference}

pub overflow_sub-result : goal.overflow_sub-result
overflow_sub-result c = omega (arith, ints, clamps)

pub returns : goal.returns
returns c =
    let begin : c.max-begin.result ≡ int_max c.args.other_low c.args.low = grind (arith, to_z-of_z) in
    let end : c.min-end.result ≡ int_min c.args.high c.args.other_high = grind (arith, to_z-of_z) in
    difference _ _ _ _ (search rules) (search rules) begin end (overflow_sub-result c)
