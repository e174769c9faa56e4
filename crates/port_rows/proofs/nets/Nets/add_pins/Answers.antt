use Rattle.std.proofs.Common.{arith}
use Rattle.port_rows.proofs.PortPins.{pins-next}
use Rattle.port_rows.proofs.nets.Nets.add_pins.Goals as goal

pub loop-port-preserved : goal.loop-port-preserved
loop-port-preserved c = record {
  instance = omega (arith, c.loop-port.invariant.instance);
  pins = pins-next c.args.self.now c.loop-port.pins.items _ _ c.loop-port.instance c.net.result c.loop-port.port-index c.args.ports.now _ c.loop-port-test.true c.net.ensures
      c.in_ok-push.ensures.items c.loop-port.invariant.pins;
}
