-- the same wiring, from tables by ids
use Rattle.std.specs.Prelude.{◌≡◌, ◌<◌, ◌≤◌, ◌++◌, ◌==◌, ◌&&◌, ◌||◌, if◌then◌else◌, nat_le, Bool, ℕ, List, Contains, map, filter, length, slice_index}
use Rattle.std.specs.List.{list_any}
use Rattle.channel_model.specs.declared.wiring.Segment.{Segment}
use Rattle.channel_model.specs.declared.wiring.Segment.TheVariants.{Across, Along}
use Rattle.channel_model.specs.declared.wiring.Via.{Via}
use Rattle.greedy_column.specs.declared.column.Column.{Column}
use Rattle.greedy_column.specs.declared.span.Span.{Span}
use Rattle.greedy_column.specs.Tracks.{line_of}
use Rattle.greedy_router.specs.SweepWiring.{leaves, is_of}
use Rattle.greedy_router.specs.declared.by_id.ById.{ById}

-- a table has, for each id below its length, what a function says
abbrev pub Tells : List ℕ → (ℕ → ℕ) → Type 0
Tells table says = (id : ℕ) → id < length table → slice_index table id ≡ says id

-- tables have entries for all ids of an order, and as many
pub record HasAll (order : List ℕ) (by_id : ById) : Type 0 where
  pub within : (id : ℕ) → Contains order id → id < length by_id.since.items
  pub nets : length by_id.nets.items ≡ length by_id.since.items
  pub laters : length by_id.laters.items ≡ length by_id.since.items
  pub lefts : length by_id.lefts.rounds.items ≡ length by_id.since.items
  pub ends : length by_id.ends.rounds.items ≡ length by_id.since.items

-- at most so many columns have been marked
pub record AreRounds (columns : ℕ) (by_id : ById) : Type 0 where
  pub lefts : by_id.lefts.round ≤ columns
  pub ends : by_id.ends.round ≤ columns

-- a join or a move of a column ends on a track
abbrev pub has_end : Column → ℕ → Bool
has_end done id = list_any (is_of id) done.joins || list_any (is_of id) done.moves

-- a piece of wire in a column
abbrev pub across_on : ℕ → Span → Segment
across_on column span = Across span.net column span.low span.high

-- the piece between two tracks, on the lines of the final order, of the net that holds the first by a table
abbrev pub pair_span : List ℕ → List ℕ → (ℕ × ℕ) → Span
pair_span nets order pair =
    if nat_le (line_of order pair.0) (line_of order pair.1)
    then record { net = slice_index nets pair.0; low = line_of order pair.0; high = line_of order pair.1 }
    else record { net = slice_index nets pair.0; low = line_of order pair.1; high = line_of order pair.0 }

-- the wires along the tracks that are left in a column, from tables of nets and of the columns since when they hold their tracks
abbrev pub along_by : List ℕ → ℕ → List ℕ → List ℕ → ℕ → Segment
along_by order column nets since id = Along (slice_index nets id) (line_of order id) (slice_index since id) column

abbrev pub alongs_by : List ℕ → ℕ → List ℕ → List ℕ → Column → List Segment
alongs_by order column nets since done = map (along_by order column nets since) (filter (leaves done) order)

-- the segments of a column, from the pieces of its pins
abbrev pub column_segments_by : List ℕ → ℕ → List ℕ → List ℕ → List Span → Column → List Segment
column_segments_by order column nets since spans done =
    map (across_on column) ((spans ++ map (pair_span nets order) done.joins) ++ map (pair_span nets order) done.moves)
    ++ alongs_by order column nets since done

-- a pin's piece of wire meets a track of its net
abbrev pub meets_by : List ℕ → List ℕ → ℕ → Span → Bool
meets_by order nets id span =
    span.net == slice_index nets id && (nat_le span.low (line_of order id) && nat_le (line_of order id) span.high)

-- the vias of a column, from the pieces of its pins and tables of the nets that hold the tracks, once the pins have entered and later
abbrev pub has_via_by : List ℕ → List ℕ → List Span → Column → ℕ → Bool
has_via_by order nets spans done id =
    list_any (meets_by order nets id) spans || (list_any (is_of id) done.joins || list_any (is_of id) done.moves)

abbrev pub via_by : List ℕ → ℕ → List ℕ → List ℕ → ℕ → Via
via_by order column nets later id = record {
  net = if slice_index nets id == 0 then slice_index later id else slice_index nets id;
  column = column;
  track = line_of order id;
}

abbrev pub vias_by : List ℕ → ℕ → List ℕ → List ℕ → List Span → Column → List Via
vias_by order column nets later spans done = map (via_by order column nets later) (filter (has_via_by order nets spans done) order)
