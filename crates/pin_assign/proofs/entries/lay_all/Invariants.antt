use Rattle.std.proofs.Common.{◌≡◌, ℕ, length, fold, slice_get}
use Rattle.std.specs.Option.{option_map}
use Rattle.pin_assign.specs.Tabled.{laid}
use Rattle.pin_assign.proofs.entries.lay_all.Given as goal

abbrev pub invariant-loop-pin : goal.invariant-loop-pin
invariant-loop-pin l = (k : ℕ) → option_map (λ (net : ℕ). fold (laid l.mirror l.columns l.top l.channel k) net l.rest) (slice_get l.entries k)
    ≡ option_map (λ (net : ℕ). fold (laid l.mirror l.columns l.top l.channel k) net l.fn.pins) (slice_get l.initial.entries k)

abbrev pub decreases-loop-pin : goal.decreases-loop-pin
decreases-loop-pin l = length l.rest
