use Rattle.std.proofs.Common.{◌≡◌, ◌<◌, ℕ, Some, length, map, take, eqb}
use Rattle.std.specs.Prelude.{All}
use Rattle.std.specs.List.{position_from, slice_get}
use Rattle.layout_check.specs.Groups.{first_of}
use Rattle.layout_check.proofs.groups.firsts_of.Given as goal

abbrev pub invariant-loop-k : goal.invariant-loop-k
invariant-loop-k l = record {
  firsts : l.firsts.items ≡ map (first_of l.members.groups.now) (take l.k l.members.groups.now);
  table : (g : ℕ) → g < length l.table.items → slice_get l.table.items g ≡ Some (position_from (λ (h : ℕ). eqb g h) 0 (take l.k l.members.groups.now));
  within : All (λ (g : ℕ). g < length l.table.items) l.members.groups.now;
}
