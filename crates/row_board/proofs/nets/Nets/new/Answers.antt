use Rattle.std.proofs.Common.{◌≡◌, ◌<◌, ◌≤◌, ◌+◌, ℕ, ap, ◌∙◌, length, map, sum, arith, slice_get, subst}
use Rattle.std.specs.List.{range_with_len}
use Rattle.list_facts.specs.Lists.{list_there}
use Rattle.design_model.specs.Netlist.{IsNetlist, Netlist}
use Rattle.row_board.specs.NetPins.{joined_by}
use Rattle.row_board.specs.Trial.{joined, marked_pins}
use Rattle.row_board.proofs.EndLaws.{own-few}
use Rattle.row_board.proofs.JoinLaws.{joined-told}
use Rattle.row_board.proofs.PinTableLaws.{pins-most}
use Rattle.std_laws.proofs.Images.{map-same}
use Rattle.std_laws.proofs.Ranges.{range-bounds}
use Rattle.row_board.proofs.nets.Nets.new.Goals as goal

pub most_pins_of-most_pins-requires : goal.most_pins_of-most_pins-requires
most_pins_of-most_pins-requires c = λ i within.
    let d = c.args.design.now in
    let there : i < length d.instances = omega (arith, within, ap length c.items-count.ensures, ap (λ (d : Netlist). length d.instances) c.design.view_is) in
    own-few d i (list_there (slice_get c.in_ok-by_net.by_instance i)) (subst IsNetlist c.design.view_is c.design.invariant.netlist) (c.in_ok-by_net.ensures.in_order.each i there)

pub joined_of-requires : goal.joined_of-requires
joined_of-requires c = λ i within.
    let d = c.args.design.now in
    let there : i < length d.instances = omega (arith, within, ap length c.items-count.ensures, ap (λ (d : Netlist). length d.instances) c.design.view_is) in
    own-few d i (list_there (slice_get c.in_ok-by_net.by_instance i)) (subst IsNetlist c.design.view_is c.design.invariant.netlist) (c.in_ok-by_net.ensures.in_order.each i there)

pub invariant_of-result : goal.invariant_of-result
invariant_of-result c =
    let d = c.args.design.now in
    let good = subst IsNetlist c.design.view_is c.design.invariant.netlist in
    let by_net = c.in_ok-by_net.by_net in
    let by_instance = c.in_ok-by_net.by_instance in
    let count : length c.items-count.result.now ≡ length d.instances = ap length c.items-count.ensures ∙ ap (λ (d : Netlist). length d.instances) c.design.view_is in
    record {
      good = good;
      by_net = c.in_ok-by_net.ensures.by_net;
      by_instance = c.in_ok-by_net.ensures.by_instance;
      in_order = c.in_ok-by_net.ensures.in_order;
      long = c.in_ok-by_net.ensures.long;
      widths = c.in_ok-widths.ensures;
      joined = c.in_ok-joined.ensures
          ∙ map-same (λ (i : ℕ). (0 ≤ i) × (i < 0 + length c.items-count.result.now)) (λ (i : ℕ). sum (map (joined_by by_net) (list_there (slice_get by_instance i)))) (marked_pins d (joined d))
          (λ i within. joined-told d by_net i (list_there (slice_get by_instance i)) good c.in_ok-by_net.ensures.by_net (c.in_ok-by_net.ensures.in_order.each i (omega (arith, within.1, count))))
          (range_with_len 0 (length c.items-count.result.now)) (range-bounds 0 (length c.items-count.result.now))
          ∙ ap (λ (n : ℕ). map (marked_pins d (joined d)) (range_with_len 0 n)) count;
      most = pins-most d c.in_ok-by_net.by_instance c.most_pins_of-most_pins.result good c.in_ok-by_net.ensures.in_order
          (λ i within. c.most_pins_of-most_pins.ensures.all i (omega (arith, within, ap length c.items-count.ensures, ap (λ (d : Netlist). length d.instances) c.design.view_is)));
      few = c.most_pins_of-most_pins.ensures.few;
    }
