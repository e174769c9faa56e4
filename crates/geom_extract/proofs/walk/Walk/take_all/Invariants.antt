use Rattle.std.proofs.Common.{◌≡◌, ℕ, List, length}
use Rattle.geom_extract.specs.Walks.{IsGrown, IsLonger, IsRest, IsWalk}
use Rattle.geom_extract.specs.Webs.{Chain, Leads}
use Rattle.geom_extract.proofs.walk.Walk.take_all.Given as goal

abbrev pub invariant-loop-number : goal.invariant-loop-number
invariant-loop-number l = record {
  web : l.self-inside.web.now ≡ l.fn.self.web;
  start : l.self-inside.start ≡ l.fn.self.start;
  rest : IsRest l.fn.self.web l.self-inside.classes.items l.self-inside.set;
  grown : IsGrown l.fn.self.classes l.self-inside.classes.items;
  longer : IsLonger l.fn.self.queue l.self-inside.queue.items;
  walk : (before : List ℕ) → ((y : ℕ) → Leads l.fn.self.web l.ask y → Chain l.fn.self.web l.fn.self.start y)
      → IsWalk l.fn.self.web l.fn.self.start before l.fn.self.classes l.fn.self.queue
      → IsWalk l.fn.self.web l.fn.self.start before l.self-inside.classes.items l.self-inside.queue.items;
}

abbrev pub decreases-loop-number : goal.decreases-loop-number
decreases-loop-number l = length l.self-inside.set
