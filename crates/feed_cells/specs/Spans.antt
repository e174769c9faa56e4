-- how far the pins of a net reach, pin by pin, and which channels and which middle that gives the net
use Rattle.std.specs.Prelude.{ℕ, ◌/◌, ◌+◌, List, fold, min, max, true, false, if◌then◌else◌, Option, None, Some}
use Rattle.row_model.specs.PinPlaces.{highest_of, lowest_of}
use Rattle.row_model.specs.declared.places.PinPlace.{PinPlace}
use Rattle.feed_cells.specs.Crossings.{crossing_between}
use Rattle.feed_cells.specs.declared.crossing.Crossing.{Crossing}
use Rattle.feed_cells.specs.declared.crossing.Crossing.TheVariants.{Alone}
use Rattle.feed_cells.specs.declared.net_spans.NetSpan.{NetSpan}

-- how far pins reach together with one more, if there were any
abbrev pub joined : Option NetSpan → PinPlace → Option NetSpan
joined None p = Some (record { many = false; floor = lowest_of p; ceiling = highest_of p; left = p.column; right = p.column })
joined (Some s) p = Some (record {
  many = true;
  floor = max s.floor (lowest_of p);
  ceiling = min s.ceiling (highest_of p);
  left = min s.left p.column;
  right = max s.right p.column;
})

-- how far pins reach, if there are any
abbrev pub span_of : List PinPlace → Option NetSpan
span_of pins = fold joined None pins

-- which channels a net stands in whose pins reach so far
abbrev pub crossing_in : Option NetSpan → Crossing
crossing_in None = Alone
crossing_in (Some s) = if s.many then crossing_between s.floor s.ceiling else Alone

-- the middle of a net whose pins reach so far
abbrev pub middle_in : Option NetSpan → ℕ
middle_in None = 0
middle_in (Some s) = (s.left + s.right) / 2
