-- how many nets lie over a column at most, and how many cross from a column to the next at most
use Rattle.std.specs.Prelude.{◌&&◌, ◌-◌, if◌then◌else◌, nat_lt, Option, Some, None, ℕ, zero, suc, List, length, Bool, nat_le, count_by, max}
use Rattle.std.specs.List.{filter_map}
use Rattle.channel_model.specs.declared.reach.Reach.{Reach}
use Rattle.channel_model.specs.Nets.{nets_of}
use Rattle.channel_model.specs.Pins.{Pins}
use Rattle.channel_model.specs.Reach.{span_of}

-- the first pin is not right of the column, and the last is not left of it
abbrev pub is_over : ℕ → Reach → Bool
is_over column span = nat_le span.first column && nat_le column span.last

-- the spans of nets
abbrev pub spans_of : Pins → List ℕ → List Reach
spans_of pins nets = filter_map (span_of pins) nets

-- the greatest value of a function below a number, 0 where there is none
abbrev pub greatest : (ℕ → ℕ) → ℕ → ℕ
greatest f zero = 0
greatest f (suc n) = max (greatest f n) (f n)

-- the greatest number, over all columns, of spans over a column
abbrev pub most_over : List Reach → ℕ → ℕ
most_over spans columns = greatest (λ column. count_by (is_over column) spans) columns

-- the greatest number, over all columns, of nets over a column
abbrev pub density_of : Pins → ℕ
density_of pins = most_over (spans_of pins (nets_of pins)) (length pins.top)

-- the columns behind which a net has pins on both sides: from its first pin column to the one before its last, and none where these are one
abbrev pub crossing_of : Reach → Option Reach
crossing_of span = if nat_lt span.first span.last then Some (record { first = span.first; last = span.last - 1 }) else None

-- the cut density: the greatest number, over all columns, of nets with a pin in the column or left of it and with one right of it
abbrev pub cut_density_of : Pins → ℕ
cut_density_of pins = most_over (filter_map crossing_of (spans_of pins (nets_of pins))) (length pins.top)
