use Rattle.std.proofs.Common.{◌≡◌, None, ap, refl, subst, sym, ◌∙◌, arith}
use Rattle.feed_cells.specs.Fed.{Fed}
use Rattle.pin_assign.specs.Bounds.{bound_of}
use Rattle.pin_assign.specs.ChannelTables.{AreTablesFor}
use Rattle.command_jobs.specs.Limits.{size_refusal}
use Rattle.command_jobs.proofs.RoutedLaws.{routed-wired, routed-within, told-routed}
use Rattle.command_jobs.proofs.SizeLaws.{unrefused-within}
use Rattle.command_jobs.proofs.routing.route_rows.Goals as goal

pub channels-requires-clause-narrow : goal.channels-requires-clause-narrow
channels-requires-clause-narrow g c =
    let small : size_refusal c.bound_of.result ≡ None = sym c.size_refusal.ensures.is ∙ c.in_default.is in
    let within = (unrefused-within c.bound_of.result small).0 in
    let wide = c.bound_of.ensures.wide in
    omega arith

pub returns-clause-narrow : goal.returns-clause-narrow
returns-clause-narrow g c =
    let small : size_refusal c.bound_of.result ≡ None = sym c.size_refusal.ensures.is ∙ c.in_default.is in
    let within = (unrefused-within c.bound_of.result small).0 in
    let wide = c.bound_of.ensures.wide in
    omega arith

pub returns-clause-kept : goal.returns-clause-kept
returns-clause-kept g c = told-routed _ _ _ _ _ _ _ (c.as_slice.ensures.value ∙ c.in_ok-channels.ensures.is) refl c.in_ok-routed.ensures.routed

pub returns-clause-wired : goal.returns-clause-wired
returns-clause-wired g c =
    let fed : Fed = c.args.fed.now in
    routed-wired _ _ _ c.args.drawn.now fed (subst (AreTablesFor fed) c.in_ok-channels.ensures.is c.in_ok-channels.ensures.tables) _
    (told-routed _ _ _ _ _ _ _ (c.as_slice.ensures.value ∙ c.in_ok-channels.ensures.is) refl c.in_ok-routed.ensures.routed)

pub returns-clause-routed : goal.returns-clause-routed
returns-clause-routed g c =
    let fed : Fed = c.args.fed.now in
    let bound = bound_of c.args.rules.now c.args.drawn.now fed in
    let small : size_refusal bound ≡ None = ap size_refusal (sym c.bound_of.ensures.is) ∙ sym c.size_refusal.ensures.is ∙ c.in_default.is in
    let within = unrefused-within bound small in
    routed-within _ _ _ c.args.drawn.now fed (subst (AreTablesFor fed) c.in_ok-channels.ensures.is c.in_ok-channels.ensures.tables) _
    (told-routed _ _ _ _ _ _ _ (c.as_slice.ensures.value ∙ c.in_ok-channels.ensures.is) refl c.in_ok-routed.ensures.routed)
    c.args.rules.now within.1.0 within.1.1
