use Rattle.std.proofs.Common.{◌≡◌, List, arith, length, map}
use Rattle.row_board.specs.NetPins.{net_pins, own_pin, pin_with_net, pins_of_instance, AreInstancePins}
use Rattle.row_board.specs.declared.net_pins.InstancePin.{InstancePin}
use Rattle.row_board.proofs.FlatLaws.{anywhere}
use Rattle.row_board.proofs.PinTableLaws.{own-nowhere, pins-nowhere}
use Rattle.row_board.proofs.nets.Nets.of.Goals as goal

pub returns : goal.returns
returns c =
    let is = c.self.invariant in
    let d = c.self.inside.design.now in
    let i = c.args.instance in
    let placed = anywhere (AreInstancePins (net_pins d) (length d.nets) i) c.self.inside.by_instance i (λ within. is.by_instance.each i (omega (arith, within, is.long)))
    (λ past. pins-nowhere d i is.good (omega (arith, past, is.long))) in
    let in_order = anywhere (λ (pins : List InstancePin). map (own_pin i) pins ≡ map (pin_with_net d) (pins_of_instance d i)) c.self.inside.by_instance i
    (λ within. is.in_order.each i (omega (arith, within, is.long))) (λ past. own-nowhere d i is.good (omega (arith, past, is.long))) in
    record {
      placed = rw (c.known.ensures, ← c.self.view_is) placed;
      in_order = rw (c.known.ensures, ← c.self.view_is) in_order;
    }
