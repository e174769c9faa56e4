use Rattle.std.proofs.Common.{◌≡◌, ◌≤◌, ◌<◌, ◌-◌, ℕ, length}
use Rattle.std.specs.Prelude.{slice_index}
use Rattle.geom_extract.specs.Walks.{IsFree, IsWalk}
use Rattle.geom_extract.specs.Webs.{Linked}
use Rattle.geom_extract.proofs.walked.Classes.walk.Given as goal

abbrev pub invariant-loop-at : goal.invariant-loop-at
invariant-loop-at l = record {
  web : l.walk.web ≡ l.fn.self.web;
  start : l.walk.start ≡ l.start;
  walk : IsWalk l.fn.self.web l.start l.fn.self.classes l.walk.classes l.walk.queue;
  within : l.at ≤ length l.walk.queue;
  begun : IsFree l.walk.classes l.start → ⊥;
  done : (i y : ℕ) → i < l.at → Linked l.fn.self.web (slice_index l.walk.queue i) y → IsFree l.walk.classes y → ⊥;
}

abbrev pub decreases-loop-at : goal.decreases-loop-at
decreases-loop-at l = length l.fn.self.web.asks - l.at
