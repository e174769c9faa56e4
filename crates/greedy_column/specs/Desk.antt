-- tables by the nets of tracks: of lines, and of marks
use Rattle.std.specs.Prelude.{◌≡◌, ◌==◌, ◌<◌, ◌≤◌, ◌-◌, nat_le, not, if◌then◌else◌, ℕ, List, Bool, Option, Some, None, false, length, slice_index, slice_index_or}
use Rattle.std.specs.List.{list_any}
use Rattle.greedy_column.specs.declared.column.Track.{Track}
use Rattle.greedy_column.specs.declared.span.Span.{Span}
use Rattle.greedy_column.specs.Ending.{is_split}

-- the line that an entry tells above a base: none where it does not lie above it
abbrev pub noted : ℕ → ℕ → Option ℕ
noted base entry = if nat_le entry base then None else Some (entry - base)

-- no entry of a table lies above a base, so that none tells a line above it
abbrev pub IsBelow : ℕ → List ℕ → Type 0
IsBelow base table = (net : ℕ) → slice_index table net ≤ base

-- no track is held by a net of a greater number
abbrev pub HaveNetsTo : List Track → ℕ → Type 0
HaveNetsTo tracks most = (k : ℕ) (none : Track) → k < length tracks → (slice_index_or tracks k none).net ≤ most

-- no entry of a table is a mark
abbrev pub IsBlank : List ℕ → Type 0
IsBlank table = (net : ℕ) → slice_index table net ≡ 0

-- a net is marked; the nets that are marked are those of more than one group; none are marked but those of some pairs
abbrev pub is_marked : List ℕ → ℕ → Bool
is_marked marks net = not (slice_index marks net == 0)

abbrev pub MarksSplit : List Span → List Span → List ℕ → Type 0
MarksSplit spans pairs marks = (net : ℕ) → is_marked marks net ≡ is_split spans pairs net

abbrev pub MarksWithin : List Span → List ℕ → Type 0
MarksWithin pairs marks = (net : ℕ) → list_any (λ (pair : Span). pair.net == net) pairs ≡ false → slice_index marks net ≡ 0
