use Rattle.std.proofs.Common.{◌≡◌, ◌++◌, length, map}
use Rattle.std.specs.List.{All, AllByRecursion}
use Rattle.channel_model.specs.Elements.{elements}
use Rattle.channel_model.specs.Wired.{IsOnGrid}
use Rattle.channel_model.specs.declared.wiring.Wiring.{Wiring}
use Rattle.channel_stack.specs.Stack.{drawings}
use Rattle.channel_stack.proofs.stacking.drawings.Given as goal

abbrev pub invariant-loop-one : goal.invariant-loop-one
invariant-loop-one g l = record {
  so_far : l.drawn.items ++ drawings l.rules (map g.W.HasWiring.wiring_of l.rest) l.edges ≡ drawings l.rules (map g.W.HasWiring.wiring_of l.wirings) l.bases;
  on_grid : AllByRecursion (λ (w : Wiring). All (IsOnGrid w.columns w.tracks) (elements w)) (map g.W.HasWiring.wiring_of l.rest);
}

abbrev pub decreases-loop-one : goal.decreases-loop-one
decreases-loop-one g l = length l.rest
