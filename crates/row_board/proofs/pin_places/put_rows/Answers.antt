use Rattle.std.proofs.Common.{◌∙◌}
use Rattle.row_board.specs.declared.net_pins.InstancePin.{InstancePin}
use Rattle.row_board.proofs.PinPlaceLaws.{puts-more}
use Rattle.row_board.proofs.pin_places.put_rows.Goals as goal

pub loop-pin-preserved : goal.loop-pin-preserved
loop-pin-preserved c = record {
  most = c.set.ensures.most ∙ c.loop-pin.invariant.most;
  lists = λ net.
      puts-more (λ (p : InstancePin). c.args.row) c.in-Some.pin.now c.loop-pin.rest.now c.in-Some.after.now net _ _ _ c.in-Some.ensures.cases.0 c.from.ensures (c.set.ensures.lists net)
      ∙ c.loop-pin.invariant.lists net;
}
