use Rattle.channel_stack.proofs.stacking.stack.Goals as goal
use Rattle.std.proofs.Common.{rules as all_rules, ◌≡◌, ℕ, Some, map, sym, subst}
use Rattle.std.specs.List.{All, slice_get}
use Rattle.channel_model.specs.Elements.{elements}
use Rattle.channel_model.specs.Wired.{IsOnGrid}
use Rattle.channel_model.specs.declared.wiring.Wiring.{Wiring}
use Rattle.design_model.specs.Good.{Good}
use Rattle.channel_stack.specs.Layouts.{layout_of}
use Rattle.channel_stack.specs.Routed.{IsWithin}
use Rattle.channel_stack.specs.Stack.{Stacked, stack_of}
use Rattle.channel_stack.specs.Risers.{AreRisers}
use Rattle.channel_stack.proofs.RowRisers.{risers-are}
use Rattle.std_laws.proofs.Every.{every-from-get}

pub drawings-requires : goal.drawings-requires
drawings-requires g c =
    every-from-get (λ (w : Wiring). All (IsOnGrid w.columns w.tracks) (elements w)) (map g.W.HasWiring.wiring_of c.args.wirings.now)
    (λ (k : ℕ) (w : Wiring) (at : slice_get (map g.W.HasWiring.wiring_of c.args.wirings.now) k ≡ Some w). c.requires.routed.on_grid k w at)

pub returns-clause-stacked : goal.returns-clause-stacked
unfolding stack_of
returns-clause-stacked g c = search all_rules

pub returns-clause-risers : goal.returns-clause-risers
unfolding stack_of
returns-clause-risers g c =
    let ws = map g.W.HasWiring.wiring_of c.args.wirings.now in
    subst (λ (p : Stacked). AreRisers c.args.rules.now c.args.design.now c.args.fed.now p.row_base p.risers) (sym (returns-clause-stacked g c))
    (risers-are c.args.rules.now c.args.design.now c.args.fed.now c.requires.fed ws c.requires.routed.each)

pub returns-clause-within : goal.returns-clause-within
returns-clause-within g c =
    subst (IsWithin c.args.rules.now c.args.design.now c.args.fed.now (map g.W.HasWiring.wiring_of c.args.wirings.now)) (sym (returns-clause-stacked g c)) c.in_ok-laid.ensures.within

pub returns-clause-good : goal.returns-clause-good
returns-clause-good g c =
    λ room wired.
    subst (λ (p : Stacked). Good c.args.rules.now c.args.design.now (layout_of c.args.rules.now c.args.design.now p)) (sym (returns-clause-stacked g c))
    (c.in_ok-laid.ensures.good room wired)
