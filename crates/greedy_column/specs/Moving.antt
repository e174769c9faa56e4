-- the free lines that each kept track may go to, the order in which those move that have one, and the moves that are made
use Rattle.std.specs.Prelude.{◌≡◌, ◌≢◌, ◌⊎◌, ◌<◌, ◌==◌, ◌^◌, ◌+◌, ◌-◌, ◌%◌, ◌++◌, ◌&&◌, ◌||◌, not, if◌then◌else◌, nat_le, nat_lt, Bool, false, true, ℕ, List, [], ◌∷◌, Contains, filter, length, min, max, slice_index_or}
use Rattle.std.specs.List.{list_all, list_any}
use Rattle.std.specs.List.Sorted.{IsNonDecreasingBy, IsStableByKey}
use Rattle.std.specs.Ordering.{nat_cmp}
use Rattle.choose_core.specs.declared.candidate.Candidate.{Candidate}
use Rattle.choose_core.specs.declared.candidate.Next.{Next}
use Rattle.choose_core.specs.declared.candidate.Next.TheVariants.{Ends, Top, Bottom, Both}
use Rattle.choose_core.specs.declared.plan.Manner.{Manner}
use Rattle.choose_core.specs.declared.plan.Manner.TheVariants.{Published, LookingAhead}
use Rattle.greedy_column.specs.declared.column.Track.{Track}
use Rattle.greedy_column.specs.declared.move_order.Waiting.{Waiting}
use Rattle.greedy_column.specs.declared.span.Span.{Span}
use Rattle.greedy_column.specs.declared.stretch.Stretch.{Stretch}
use Rattle.greedy_column.specs.declared.window.Window.{Window}
use Rattle.greedy_column.specs.Lines.{held_lines, id_on, net_on, own_lines}
use Rattle.greedy_column.specs.Replay.{moved}
use Rattle.greedy_column.specs.Offers.{IsPicked, offer, move_question}
use Rattle.greedy_column.specs.Joining.{is_clear}

-- the piece between two lines
abbrev pub piece_between : ℕ → ℕ → ℕ → Span
piece_between net one other = record { net = net; low = min one other; high = max one other }

-- the free lines to which a track may move
abbrev pub move_options : List Span → ℕ → ℕ → List ℕ → List ℕ
move_options spans net line free = filter (λ other. is_clear spans (piece_between net line other)) free

-- a line lies within a window
abbrev pub is_within : Window → ℕ → Bool
is_within window line = nat_le window.low line && nat_le line window.high

-- the lines that a vertical covers
abbrev pub lines_of : Span → Window
lines_of s = record { low = s.low; high = s.high }

-- a track of a net on a line has one of some free lines to go to
abbrev pub has_option : List Span → List ℕ → ℕ → ℕ → Bool
has_option spans free net line = nat_lt 0 (length (move_options spans net line free))

-- a net has none of some verticals, which lie each from a lower line to one that is no lower
abbrev pub is_apart_from : Span → ℕ → Bool
is_apart_from s net = not (s.net == net) && nat_le s.low s.high

abbrev pub is_foreign : List Span → ℕ → Bool
is_foreign spans net = list_all (λ s. is_apart_from s net) spans

-- a net may have one of some verticals, as its remainder at 64 is noted
abbrev pub may_have : List Bool → ℕ → Bool
may_have remainders net = slice_index_or remainders (net % 64) true

-- no net has one of some verticals but those of the remainders that are noted
abbrev pub TellForeign : List Span → List Bool → Type 0
TellForeign spans remainders = (net : ℕ) → may_have remainders net ≡ false → is_foreign spans net ≡ true

-- within a stretch the tracks of all nets that have none of these verticals have a free line to go to, or none of them has one
abbrev pub IsStretch : List Span → List ℕ → Stretch → Type 0
IsStretch spans free stretch =
    (net line : ℕ) → line < 2 ^ 32 → is_foreign spans net ≡ true → is_within stretch.window line ≡ true → stretch.has_free ≡ has_option spans free net line

-- a kept track has a free line to go to before any move, and the lines of those that have
abbrev pub is_movable : List Span → List ℕ → List Track → ℕ → Bool
is_movable spans free kept line = has_option spans free (net_on kept line) line

abbrev pub movable_lines : List Span → List ℕ → List Track → List ℕ
movable_lines spans free kept = filter (is_movable spans free kept) (held_lines kept)

-- the net of a track holds others too
abbrev pub is_split : List Track → ℕ → Bool
is_split kept line = nat_lt 1 (length (own_lines (net_on kept line) kept))

-- a pair of a net has an end whose line passes a test
abbrev pub is_end_of : ℕ → (ℕ → Bool) → Span → Bool
is_end_of net passes pair = pair.net == net && (passes pair.low || passes pair.high)

-- a net holds a line, which is another one than this
abbrev pub is_held_beside : List Track → ℕ → ℕ → ℕ → Bool
is_held_beside kept net line other = not (other == line) && net_on kept other == net

-- a net that holds a line holds another end of some pairs of it too
abbrev pub has_other_end : List Span → List Track → ℕ → ℕ → Bool
has_other_end pairs kept net line = list_any (is_end_of net (is_held_beside kept net line)) pairs

-- some pairs tell which kept tracks have nets that hold others too
abbrev pub TellSplit : List Span → List Track → Type 0
TellSplit pairs kept = (line : ℕ) → Contains (held_lines kept) line → has_other_end pairs kept (net_on kept line) line ≡ is_split kept line

-- all of some lines are held
abbrev pub AreHeld : List Track → List ℕ → Type 0
AreHeld kept lines = (line : ℕ) → Contains lines line → Contains (held_lines kept) line

-- how much of a channel of so many tracks lies behind a line on the way to the next pins, and all of it where these lie at no one edge
abbrev pub behind : ℕ → Next → ℕ → ℕ
behind tracks Top line = line
behind tracks Bottom line = tracks + 1 - line
behind tracks Both line = tracks + 1
behind tracks Ends line = tracks + 1

abbrev pub behind_on : (ℕ → Next) → List Track → ℕ → ℕ
behind_on next kept line = behind (length kept) (next (net_on kept line)) line

-- the rank of a line in the order of moves: the lowest one where its net is split, and else by how much of the channel lies behind it
abbrev pub rank_on : (ℕ → Next) → List Track → ℕ → ℕ
rank_on next kept line = if is_split kept line then 0 else 1 + behind_on next kept line

-- a line that waits for its move, by its rank
abbrev pub waiting : (ℕ → ℕ) → ℕ → Waiting
waiting rank line = record { line = line; rank = rank line }

-- lines by ascending key, those of one key as they stood
pub record AreOrdered (key : ℕ → ℕ) (lines ordered : List ℕ) : Type 0 where
  pub sorted : IsNonDecreasingBy key ordered
  pub stable : IsStableByKey key nat_cmp lines ordered

-- first those lines whose nets are split, from bottom to top, and then the others, of which those go first that have the farthest to go
pub record IsOrderAhead (next : ℕ → Next) (kept : List Track) (lines order : List ℕ) : Type 0 where
  pub others : List ℕ
  pub split_first : order ≡ filter (is_split kept) lines ++ others
  pub farthest_first : AreOrdered (behind_on next kept) (filter (λ line. not (is_split kept line)) lines) others

-- the order in which the kept tracks of some lines may move: as published, from bottom to top
abbrev pub IsOrderOfMoves : Manner → (ℕ → Next) → List Track → List ℕ → List ℕ → Type 0
IsOrderOfMoves Published next kept lines order = order ≡ lines
IsOrderOfMoves LookingAhead next kept lines order = IsOrderAhead next kept lines order

-- a kept track goes on on a line: its own where it has no option, else one that is picked, be it its own
abbrev pub GoesTo : (List Candidate → ℕ → Type 0) → Next → List ℕ → ℕ → List ℕ → ℕ → Type 0
GoesTo may next others line [] target = target ≡ line
GoesTo may next others line (option ∷ options) target =
    IsPicked may (offer (move_question line next) others) (line ∷ (option ∷ options)) target

-- what is left of some lines once one is taken
abbrev pub without : ℕ → List ℕ → List ℕ
without line lines = filter (λ other. not (other == line)) lines

-- the ids of a move's lines
abbrev pub move_ids : List Track → (ℕ × ℕ) → ℕ × ℕ
move_ids tracks move = (id_on tracks move.0, id_on tracks move.1)

-- the other lines on which the net of a line holds tracks, as the moves so far have left them
abbrev pub others_of_net : List Track → List Track → ℕ → List ℕ
others_of_net tracks kept line = without line (own_lines (net_on tracks line) kept)

-- the tracks after one more move between lines
abbrev pub carried : List Track → List Track → ℕ → ℕ → List Track
carried tracks kept line target = moved (move_ids tracks (line, target) ∷ []) kept

-- Step 4: each kept track stays or moves to a free one, and is a vertical then. The moves are pairs of lines.
abbrev pub MovesFollow : (List Candidate → ℕ → Type 0) → (ℕ → Next) → List Track → List Track → List ℕ → List Span → List ℕ → List (ℕ × ℕ) → Type 0
MovesFollow may next tracks kept [] spans free moves = moves ≡ []
MovesFollow may next tracks kept (line ∷ lines) spans free moves =
    (GoesTo may (next (net_on tracks line)) (others_of_net tracks kept line) line (move_options spans (net_on tracks line) line free) line
    × MovesFollow may next tracks kept lines spans free moves)
    ⊎ ((target : ℕ) × ((rest : List (ℕ × ℕ))
    × GoesTo may (next (net_on tracks line)) (others_of_net tracks kept line) line (move_options spans (net_on tracks line) line free) target
    × (target ≢ line) × (moves ≡ (line, target) ∷ rest)
    × MovesFollow may next tracks (carried tracks kept line target) lines (spans ++ piece_between (net_on tracks line) line target ∷ [])
    (without target free) rest))
