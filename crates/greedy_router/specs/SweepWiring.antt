-- the wiring of a sweep that has ended
use Rattle.std.specs.Prelude.{◌++◌, ◌==◌, ◌&&◌, ◌||◌, if◌then◌else◌, nat_le, Bool, ℕ, suc, List, [], ◌∷◌, filter, map, length}
use Rattle.std.specs.List.{list_any}
use Rattle.channel_model.specs.Pins.{Pins}
use Rattle.channel_model.specs.declared.wiring.Segment.{Segment}
use Rattle.channel_model.specs.declared.wiring.Segment.TheVariants.{Across, Along}
use Rattle.channel_model.specs.declared.wiring.Via.{Via}
use Rattle.channel_model.specs.declared.wiring.Wiring.{Wiring}
use Rattle.greedy_column.specs.declared.column.Track.{Track}
use Rattle.greedy_column.specs.declared.column.Column.{Column}
use Rattle.greedy_column.specs.Tracks.{held_by, line_of}
use Rattle.greedy_column.specs.Replay.{entered, after, free_tracks}
use Rattle.greedy_column.specs.Verticals.{Vertical, line_at, pin_verticals, verticals}
use Rattle.greedy_router.specs.declared.sweep.Sweep.{Sweep}

-- a vertical of a column, drawn on the lines of the final order
abbrev pub across : List ℕ → ℕ → Vertical → Segment
across order column v = Across v.net column (line_at order v.low) (line_at order v.high)

-- an id is one of a pair
abbrev pub is_of : ℕ → (ℕ × ℕ) → Bool
is_of id pair = pair.0 == id || pair.1 == id

-- a net leaves a track in a column: the track ends there, or the net moves to another one
abbrev pub leaves : Column → ℕ → Bool
leaves done id = list_any (λ ended. ended == id) done.ended || list_any (λ (move : ℕ × ℕ). move.0 == id) done.moves

-- since when each track is held, after a column: a track that was free before has been entered in this column if at all
abbrev pub since_after : ℕ → List Track → (ℕ → ℕ) → ℕ → ℕ
since_after column before since id = if held_by before id == 0 then column else since id

-- the wire along a track that a net leaves in a column
abbrev pub along : List ℕ → ℕ → List Track → (ℕ → ℕ) → ℕ → Segment
along order column now since id = Along (held_by now id) (line_of order id) (since id) column

-- the wires along all tracks that are left in a column, by position
abbrev pub alongs : List ℕ → ℕ → List Track → (ℕ → ℕ) → Column → List Segment
alongs order column now since done = map (along order column now since) (filter (leaves done) order)

-- a vertical of a pin meets a track that its net holds
abbrev pub meets_track : List ℕ → List Track → ℕ → Vertical → Bool
meets_track order now id v =
    v.net == held_by now id && (nat_le (line_at order v.low) (line_of order id) && nat_le (line_of order id) (line_at order v.high))

-- a track has a via in a column: a vertical of a pin of its net meets it, or a join or a move ends there
abbrev pub has_via : List ℕ → List Track → List Vertical → Column → ℕ → Bool
has_via order now pin_verticals done id =
    list_any (meets_track order now id) pin_verticals || (list_any (is_of id) done.joins || list_any (is_of id) done.moves)

-- the net of a wire on a track in a column: the one that holds it once the pins have entered, or else the one that moves there
abbrev pub net_there : List Track → List Track → ℕ → ℕ
net_there now later id = if held_by now id == 0 then held_by later id else held_by now id

abbrev pub via_there : List ℕ → ℕ → List Track → List Track → ℕ → Via
via_there order column now later id = record { net = net_there now later id; column = column; track = line_of order id }

-- the vias of a column, by position
abbrev pub column_vias : List ℕ → ℕ → List Track → List Track → List Vertical → Column → List Via
column_vias order column now later pin_verticals done =
    map (via_there order column now later) (filter (has_via order now pin_verticals done) order)

-- the segments of a column: its verticals, and the wires along the tracks that are left
abbrev pub column_segments : List ℕ → Pins → ℕ → List Track → List Track → (ℕ → ℕ) → Column → List Segment
column_segments order pins column before now since done =
    map (across order column) (verticals pins column done now) ++ alongs order column now (since_after column before since) done

-- the segments and the vias of some columns, the first of which is this one
abbrev pub segments_from : List ℕ → Pins → ℕ → List Track → (ℕ → ℕ) → List Column → List Segment
segments_from order pins column before since [] = []
segments_from order pins column before since (done ∷ columns) =
    column_segments order pins column before (entered pins column done before) since done
    ++ segments_from order pins (suc column) (after pins column done before) (since_after column before since) columns

abbrev pub vias_from : List ℕ → Pins → ℕ → List Track → List Column → List Via
vias_from order pins column before [] = []
vias_from order pins column before (done ∷ columns) =
    column_vias order column (entered pins column done before) (after pins column done before) (pin_verticals pins column done) done
    ++ vias_from order pins (suc column) (after pins column done before) columns

-- The wiring of a sweep that has ended, with its tracks numbered by the final order.
abbrev pub wiring_of : Pins → Sweep → Wiring
wiring_of pins sweep = record {
  tracks = length sweep.order;
  columns = length sweep.columns;
  segments = segments_from sweep.order pins 0 (free_tracks sweep.begun) (λ id. 0) sweep.columns;
  vias = vias_from sweep.order pins 0 (free_tracks sweep.begun) sweep.columns;
}
