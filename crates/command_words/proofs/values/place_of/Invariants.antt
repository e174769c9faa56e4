use Rattle.std.proofs.Common.{◌≡◌, ◌+◌, ℕ, length, map, option_map}
use Rattle.command_words.specs.Command.{place_of}
use Rattle.command_words.proofs.values.place_of.Given as goal

abbrev pub invariant-loop-style : goal.invariant-loop-style
invariant-loop-style g l = record {
  so_far : option_map (λ (p : ℕ). l.place + p) (place_of (map (λ s. s.chooser.name) l.rest) l.name) ≡ place_of (map (λ s. s.chooser.name) l.fn.styles) l.fn.name;
  count : l.place + length l.rest ≡ length l.fn.styles;
}

abbrev pub decreases-loop-style : goal.decreases-loop-style
decreases-loop-style g l = length l.rest
