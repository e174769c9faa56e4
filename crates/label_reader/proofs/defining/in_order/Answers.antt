use Rattle.std.proofs.Common.{◌<◌, arith}
use Rattle.label_reader.specs.Defining.{in_order}
use Rattle.label_reader.proofs.OrderLaws.{pass-done, pass-start}
use Rattle.label_reader.proofs.defining.in_order.Goals as goal

pub loop-passes-init : goal.loop-passes-init
loop-passes-init c = (pass-start c.args.commands.now c.args.expander c.args.places.items c.requires.places, c.requires.outside, omega arith)

pub loop-passes-preserved : goal.loop-passes-preserved
loop-passes-preserved c =
    let below : c.loop-passes.passes < 64 = c.loop-passes-test.true in (
      pass-done c.loop-passes.passes c.args.commands.now c.loop-passes.pass.expander c.in_ok-pass.pass.expander c.loop-passes.pass.left.items c.in_ok-pass.pass.left.items
          (in_order c.args.commands.now c.args.expander) below c.loop-passes.invariant.0 (rw c.as_slice.ensures.value at c.in_ok-pass.ensures.takes),
      c.in_ok-pass.ensures.outside,
      omega arith,
    )
