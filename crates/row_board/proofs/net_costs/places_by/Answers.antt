use Rattle.std.proofs.Common.{◌≡◌, ◌≤◌, ℕ, length, map, ap, sym, ◌∙◌, arith, subst}
use Rattle.std.proofs.lemmas.List.FromFn.{length-range_with_len}
use Rattle.std.proofs.lemmas.List.{length-map}
use Rattle.std.specs.List.{range_with_len, AllByRecursion}
use Rattle.design_model.specs.Netlist.{Netlist}
use Rattle.row_board.specs.NetPins.{net_pins, pin_column, pin_row}
use Rattle.row_board.specs.Spreads.{NumberLists}
use Rattle.row_board.proofs.BoardLaws.{few-nets}
use Rattle.row_board.proofs.PinPlaceLaws.{places-more}
use Rattle.row_board.proofs.net_costs.places_by.Goals as goal

pub with_list-requires-clause-few : goal.with_list-requires-clause-few
with_list-requires-clause-few c =
    let names : c.items.result.now ≡ c.args.nets.now.nets = c.items.ensures ∙ ap (λ (d : Netlist). d.nets) (c.design.view_is ∙ c.design-design.ensures.is) in
    omega (
      arith,
      few-nets c.args.nets.now c.design-design.ensures.good,
      ap length names,
      ap (λ (v : NumberLists). length v.lists) c.loop-net.invariant.columns,
      length-map (range_with_len 0 c.loop-net.net) (λ (n : ℕ). map (pin_column c.args.standings.now) (net_pins c.args.nets.now n)),
      length-range_with_len 0 c.loop-net.net,
    )

pub with_list-requires-clause-small : goal.with_list-requires-clause-small
with_list-requires-clause-small c =
    subst (λ (m : ℕ). AllByRecursion (λ (n : ℕ). n ≤ m) c.as_slice.result.now) (sym (ap (λ (v : NumberLists). v.most) c.loop-net.invariant.columns))
    (subst (AllByRecursion (λ (n : ℕ). n ≤ 2004294967295)) (sym c.as_slice.ensures.value) c.in_ok-net_columns.ensures.far)

pub with_list-requires-in-loop-net-clause-small : goal.with_list-requires-in-loop-net-clause-small
with_list-requires-in-loop-net-clause-small c =
    subst (λ (m : ℕ). AllByRecursion (λ (n : ℕ). n ≤ m) c.as_slice-in-loop-net.result.now) (sym (ap (λ (v : NumberLists). v.most) c.loop-net.invariant.rows))
    (subst (AllByRecursion (λ (n : ℕ). n ≤ 513)) (sym c.as_slice-in-loop-net.ensures.value) c.in_ok-net_columns.ensures.high)

pub loop-net-preserved : goal.loop-net-preserved
loop-net-preserved c =
    let d = c.args.nets.now in
    let names : c.items.result.now ≡ d.nets = c.items.ensures ∙ ap (λ (d : Netlist). d.nets) (c.design.view_is ∙ c.design-design.ensures.is) in
    let pins : c.pins.result.now ≡ net_pins d c.loop-net.net = c.pins.ensures.is (omega (arith, ap length names)) in
    record {
      columns = places-more d (pin_column c.args.standings.now) c.loop-net.net 2004294967295 c.loop-net.columns c.in_ok-columns.columns c.as_slice.result.now c.in_ok-columns.ensures
          c.loop-net.invariant.columns (c.as_slice.ensures.value ∙ c.in_ok-net_columns.ensures.columns ∙ ap (map (pin_column c.args.standings.now)) pins);
      rows = places-more d (pin_row c.args.standings.now) c.loop-net.net 513 c.loop-net.rows c.in_ok-rows.rows c.as_slice-in-loop-net.result.now c.in_ok-rows.ensures
          c.loop-net.invariant.rows (c.as_slice-in-loop-net.ensures.value ∙ c.in_ok-net_columns.ensures.rows ∙ ap (map (pin_row c.args.standings.now)) pins);
    }
