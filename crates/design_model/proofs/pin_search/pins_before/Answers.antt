use Rattle.std.proofs.Common.{◌<◌, ◌+◌, ◌-◌, ◌/◌, length, get_or, sym, arith}
use Rattle.std.proofs.lemmas.Option.{slice_get-get_or}
use Rattle.design_model.specs.declared.design.Pin.{Pin}
use Rattle.design_model.proofs.PairOrder.{few-before, pin-before, pin-past}
use Rattle.design_model.proofs.pin_search.pins_before.Goals as goal

no_pin : Pin
no_pin = record { instance = 0; terminal = 0; net = 0 }

pub loop-low-init : goal.loop-low-init
loop-low-init c = record {
  below = omega arith;
  above = few-before c.args.pins.now (c.args.instance, c.args.terminal);
  within = omega arith;
}

pub loop-low-preserved-then-is_before : goal.loop-low-preserved-then-is_before
unfolding no_pin
loop-low-preserved-then-is_before c =
    let middle = c.loop-low.low + (c.loop-low.high - c.loop-low.low) / 2 in
    let inside : middle < length c.args.pins.now = omega (arith, c.loop-low.invariant.within, c.loop-low-test.true) in
    let more = pin-before c.args.pins.now (c.args.instance, c.args.terminal) middle (get_or c.args.pins.now middle no_pin) c.requires
    (slice_get-get_or c.args.pins.now middle no_pin inside) (sym c.if-is_before.ensures) in
    record {
      below = omega (arith, more);
      above = c.loop-low.invariant.above;
      within = c.loop-low.invariant.within;
    }

pub loop-low-preserved : goal.loop-low-preserved
unfolding no_pin
loop-low-preserved c =
    let middle = c.loop-low.low + (c.loop-low.high - c.loop-low.low) / 2 in
    let inside : middle < length c.args.pins.now = omega (arith, c.loop-low.invariant.within, c.loop-low-test.true) in
    record {
      below = c.loop-low.invariant.below;
      above = pin-past c.args.pins.now (c.args.instance, c.args.terminal) middle (get_or c.args.pins.now middle no_pin)
          (slice_get-get_or c.args.pins.now middle no_pin inside) (sym c.if-is_before.ensures);
      within = omega (arith, inside);
    }
