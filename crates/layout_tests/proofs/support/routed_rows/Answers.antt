use Rattle.std.proofs.Common.{◌≡◌, List, ap, subst, sym, ◌∙◌, arith}
use Rattle.channel_model.specs.Pins.{Pins}
use Rattle.pin_assign.specs.Bounds.{bound_of}
use Rattle.pin_assign.specs.ChannelTables.{AreTablesFor}
use Rattle.pin_assign.specs.Tables.{tables_of}
use Rattle.pin_assign.specs.declared.bound.Bound.{Bound}
use Rattle.layout_tests.proofs.RoutedLaws.{plain-routed}
use Rattle.layout_tests.proofs.support.routed_rows.Goals as goal

pub returns-clause-routed : goal.returns-clause-routed
returns-clause-routed c =
    let channels : List Pins = c.as_slice.result.now in
    let are : channels ≡ tables_of c.args.design.now c.args.fed.now = c.as_slice.ensures.value ∙ c.in_ok-channels.ensures.is in
    let tables : AreTablesFor c.args.fed.now channels = subst (AreTablesFor c.args.fed.now) (sym c.as_slice.ensures.value) c.in_ok-channels.ensures.tables in
    let wide : c.bound_of-bound.result.width ≡ (bound_of c.args.rules.now c.args.design.now c.args.fed.now).width = ap (λ (b : Bound). b.width) c.bound_of-bound.ensures.is in
    let high : c.bound_of-bound.result.height ≡ (bound_of c.args.rules.now c.args.design.now c.args.fed.now).height = ap (λ (b : Bound). b.height) c.bound_of-bound.ensures.is in
    plain-routed c.args.design.now c.args.fed.now channels are tables c.in_ok-wirings.ensures.wired c.in_ok-wirings.wirings.items
    c.in_ok-wirings.ensures.stated c.args.rules.now (omega (arith, c.if-bound-gt1000000000.false)) (omega (arith, c.if-bound-gt1000000000-2.false))
