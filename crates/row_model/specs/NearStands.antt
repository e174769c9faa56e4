-- rows that are short, and tables of stands
use Rattle.std.specs.Prelude.{◌≤◌, List, length}
use Rattle.std.specs.List.{AllByRecursion}
use Rattle.row_model.specs.declared.rows.Seat.{Seat}
use Rattle.limits.specs.declared.TheConstants.{MOST_INSTANCES}

-- rows of at most 20,000 seats
abbrev pub AreShort : List (List Seat) → Type 0
AreShort rows = AllByRecursion (λ (seats : List Seat). length seats ≤ MOST_INSTANCES) rows
