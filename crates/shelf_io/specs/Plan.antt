-- the failures that an object in memory is told to make
use Rattle.std.specs.Prelude.{◌==◌, Bool}
use Rattle.std.specs.List.{list_any}
use Rattle.shelf_io.specs.Count.{raised}
use Rattle.shelf_io.specs.declared.plan.Plan.{Plan}

-- the next call is a marked one
abbrev pub is_marked : Plan → Bool
is_marked plan = list_any (λ mark. mark == plan.calls) plan.marks.items

-- the plan after one more call
abbrev pub called : Plan → Plan
called plan = record plan { calls = raised plan.calls }
