use Rattle.std.proofs.Common.{◌≡◌, ◌++◌, ◌<◌, ◌≤◌, ℕ, length, map}
use Rattle.std.specs.List.{AllByRecursion}
use Rattle.channel_stack.specs.Layouts.{feed_drawing}
use Rattle.cif_writer.proofs.drawings.feed_drawings.Given as goal

abbrev pub invariant-loop-height : goal.invariant-loop-height
invariant-loop-height l = record {
  drawn : l.drawings.items ++ map (feed_drawing l.rules) l.rest ≡ map (feed_drawing l.rules) l.heights;
  room : AllByRecursion (λ (h : ℕ). (0 < h) × (h ≤ 200000000)) l.rest;
}

abbrev pub decreases-loop-height : goal.decreases-loop-height
decreases-loop-height l = length l.rest
