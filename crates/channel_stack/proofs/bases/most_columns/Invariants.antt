use Rattle.std.proofs.Common.{◌≡◌, length, map}
use Rattle.std.specs.Prelude.{fold, max}
use Rattle.channel_model.specs.declared.wiring.Wiring.{Wiring}
use Rattle.channel_stack.specs.Stack.{most_columns}
use Rattle.channel_stack.proofs.bases.most_columns.Given as goal

abbrev pub invariant-loop-one : goal.invariant-loop-one
invariant-loop-one g l = fold max l.most (map (λ (w : Wiring). w.columns) (map g.W.HasWiring.wiring_of l.rest)) ≡ most_columns (map g.W.HasWiring.wiring_of l.wirings)

abbrev pub decreases-loop-one : goal.decreases-loop-one
decreases-loop-one g l = length l.rest
