use Rattle.layout_picture.proofs.scale.+bar_below.Goals as goal
use Rattle.std.proofs.Common.{arith, sym}
use Rattle.std.proofs.lemmas.Bool.Decides.{nat_tests}
use Rattle.layout_picture.proofs.Bars.{bar-none, bar-step, ten-small}

pub returns-then-power-eq0-clause-is : goal.returns-then-power-eq0-clause-is
returns-then-power-eq0-clause-is t c = sym (bar-none c.args.power c.args.room (omega arith))

pub overflow_mul-ten : goal.overflow_mul-ten
overflow_mul-ten t c = omega (arith, ten-small c.args.power c.requires, c.pow-ten.ensures)

pub overflow_mul-ten-else-ten-room : goal.overflow_mul-ten-else-ten-room
overflow_mul-ten-else-ten-room t c = omega (arith, ten-small c.args.power c.requires, c.pow-ten.ensures)

pub returns-then-ten-room-clause-is : goal.returns-then-ten-room-clause-is
returns-then-ten-room-clause-is t c =
    grind (arith, nat_tests, bar-step c.args.power c.args.room c.pow-ten.result (omega arith) c.pow-ten.ensures)

pub returns-then-ten-room-2-clause-is : goal.returns-then-ten-room-2-clause-is
returns-then-ten-room-2-clause-is t c =
    grind (arith, nat_tests, bar-step c.args.power c.args.room c.pow-ten.result (omega arith) c.pow-ten.ensures)

pub returns-then-ten-room-3-clause-is : goal.returns-then-ten-room-3-clause-is
returns-then-ten-room-3-clause-is t c =
    grind (arith, nat_tests, bar-step c.args.power c.args.room c.pow-ten.result (omega arith) c.pow-ten.ensures)

pub returns-else-ten-room-3-clause-is : goal.returns-else-ten-room-3-clause-is
returns-else-ten-room-3-clause-is t c =
    grind (arith, nat_tests, bar-step c.args.power c.args.room c.pow-ten.result (omega arith) c.pow-ten.ensures)
