-- pairs of neighbouring tracks of a net, which joins of them are possible, and in which order they are made
use Rattle.std.specs.Prelude.{◌≡◌, ◌<◌, ◌==◌, ◌&&◌, ◌||◌, ◌+◌, ◌^◌, ◌++◌, length, not, nat_le, nat_lt, if◌then◌else◌, ℕ, suc, List, [], ◌∷◌, Bool, Contains, filter, Option, Some, None}
use Rattle.std.specs.List.{list_any, list_all}
use Rattle.choose_core.specs.declared.candidate.Candidate.{Candidate}
use Rattle.choose_core.specs.declared.candidate.Next.{Next}
use Rattle.greedy_column.specs.declared.column.Track.{Track}
use Rattle.greedy_column.specs.declared.span.Span.{Span}
use Rattle.greedy_column.specs.Lines.{id_on}
use Rattle.greedy_column.specs.Offers.{IsPicked, join_offer}
use Rattle.greedy_column.specs.Verticals.{Vertical, line_at}

-- a vertical on the lines of its ends, in some order of the tracks
abbrev pub span_in : List ℕ → Vertical → Span
span_in order v = record { net = v.net; low = line_at order v.low; high = line_at order v.high }

-- the verticals of a column's pins, by the lines of the tracks that the top pin and the bottom pin enter and that of the upper edge
abbrev pub spans_of_pins : Bool → ℕ → ℕ → ℕ → ℕ → ℕ → List Span
spans_of_pins straight top_net bottom_net top bottom upper_edge =
    if straight then record { net = top_net; low = 0; high = upper_edge } ∷ []
    else ((if bottom_net == 0 then [] else record { net = bottom_net; low = 0; high = bottom } ∷ [])
    ++ (if top_net == 0 then [] else record { net = top_net; low = top; high = upper_edge } ∷ []))

-- the line of the lowest of these tracks that a net holds, the first of which stands on this line
abbrev pub next_line : ℕ → ℕ → List Track → Option ℕ
next_line net line [] = None
next_line net line (t ∷ tracks) = if t.net == net then Some line else next_line net (suc line) tracks

-- a track of a net and the net's next one above it, where there is one
abbrev pub pair_of : ℕ → ℕ → Option ℕ → List Span
pair_of net line None = []
pair_of net line (Some above) = if net == 0 then [] else record { net = net; low = line; high = above } ∷ []

-- all two neighbouring tracks of a net, by ascending lower track, the first track standing on this line
abbrev pub neighbours_from : ℕ → List Track → List Span
neighbours_from line [] = []
neighbours_from line (t ∷ tracks) = pair_of t.net line (next_line t.net (suc line) tracks) ++ neighbours_from (suc line) tracks

abbrev pub neighbours : List Track → List Span
neighbours tracks = neighbours_from 1 tracks

-- few pieces, whose lower lines lie above the lower edge
pub record ArePairs (pairs : List Span) : Type 0 where
  pub few : length pairs + 2 < 2 ^ 32
  pub above : (pair : Span) → Contains pairs pair → 0 < pair.low

-- a vertical of the net joins the ends of a piece, and no vertical of another net shares a point with it
abbrev pub covers : Span → Span → Bool
covers piece s = s.net == piece.net && (nat_le s.low piece.low && nat_le piece.high s.high)

abbrev pub passes : Span → Span → Bool
passes piece s = s.net == piece.net || (nat_lt s.high piece.low || nat_lt piece.high s.low)

abbrev pub is_joined : List Span → Span → Bool
is_joined spans piece = list_any (covers piece) spans

abbrev pub is_clear : List Span → Span → Bool
is_clear spans piece = list_all (passes piece) spans

-- the joins that are possible
abbrev pub possible_joins : List Span → List Span → List Span
possible_joins spans pairs = filter (λ pair. not (is_joined spans pair) && is_clear spans pair) pairs

-- the next of some joins: none where there is none, else one that is picked
abbrev pub IsNextJoin : (List Candidate → ℕ → Type 0) → (ℕ → Next) → List Span → Option Span → Type 0
IsNextJoin may next joins None = joins ≡ []
IsNextJoin may next joins (Some pair) = IsPicked may (join_offer next) joins pair

-- Step 2: while a join is possible, one is picked, and becomes a vertical.
abbrev pub JoinsFollow : (List Candidate → ℕ → Type 0) → (ℕ → Next) → List Span → List Span → List Span → Type 0
JoinsFollow may next pairs spans [] = possible_joins spans pairs ≡ []
JoinsFollow may next pairs spans (pair ∷ joined) =
    IsPicked may (join_offer next) (possible_joins spans pairs) pair × JoinsFollow may next pairs (spans ++ pair ∷ []) joined

-- the ids of a piece's lower and upper track
abbrev pub ids_of : List Track → Span → ℕ × ℕ
ids_of tracks piece = (id_on tracks piece.low, id_on tracks piece.high)
