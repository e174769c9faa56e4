use Rattle.greedy_router.proofs.channels.route_all.Goals as goal
use Rattle.std.proofs.Common.{◌≡◌, ◌++◌, ◌∷◌, [], Some, length, ap, arith, rules, length-append, sym, ◌∙◌}
use Rattle.std.proofs.lemmas.Option.{slice_get-get_or}
use Rattle.std.specs.Prelude.{slice_get}
use Rattle.channel_model.specs.Pins.{Pins}
use Rattle.greedy_router.specs.declared.sweep.Routed.{Routed}
use Rattle.greedy_router.specs.Answers.{IsRoutedAs}
use Rattle.std_laws.proofs.Places.{each-push}

pub loop-channel-preserved : goal.loop-channel-preserved
loop-channel-preserved g c =
    let one : Routed = c.in_ok-route_one.field-0 in
    let pins : Pins = c.channel-item.result in
    let more : c.push.new.self.items ≡ c.loop-channel.routed.items ++ one ∷ [] = search rules in
    let there : slice_get c.args.channels.now (length c.loop-channel.routed.items) ≡ Some pins =
    ap (slice_get c.args.channels.now) c.loop-channel.invariant.each
    ∙ slice_get-get_or c.args.channels.now c.loop-channel.channel-index pins c.loop-channel-test.true ∙ ap Some (sym c.channel-item.is) in
    rw more
    (record {
      each = omega (arith, length-append c.loop-channel.routed.items (one ∷ []), c.loop-channel.invariant.each);
      within = each-push (λ p q. IsRoutedAs c.args.edge c.args.plan.now (g.C.Chooses.answers c.args.chooser.now) p q) c.args.channels.now c.loop-channel.routed.items pins one
          c.loop-channel.invariant.within there c.in_ok-route_one.ensures;
      goes = g.met.W.Watch.goes_then _ _ _ c.loop-channel.invariant.goes c.told.ensures;
    })
