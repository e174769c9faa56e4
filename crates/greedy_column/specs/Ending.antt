-- the groups that joined tracks make, and which lines of each group end
use Rattle.std.specs.Prelude.{◌≡◌, ◌==◌, ◌&&◌, ◌++◌, not, nat_le, if◌then◌else◌, ℕ, List, [], ◌∷◌, Bool, true, false, filter, map, length, slice_index}
use Rattle.std.specs.List.{list_any}
use Rattle.choose_core.specs.declared.candidate.Candidate.{Candidate}
use Rattle.choose_core.specs.declared.candidate.Next.{Next}
use Rattle.greedy_column.specs.declared.column.Track.{Track}
use Rattle.greedy_column.specs.declared.span.Span.{Span}
use Rattle.greedy_column.specs.Lines.{is_held, net_on, own_lines}
use Rattle.greedy_column.specs.Offers.{IsPicked, offer, keep_question}
use Rattle.greedy_column.specs.Entering.{is_ending}
use Rattle.greedy_column.specs.Joining.{is_joined, neighbours}

-- the neighbouring tracks that the column's verticals join
abbrev pub joined_pairs : List Span → List Span → List Span
joined_pairs spans pairs = filter (is_joined spans) pairs

-- the lines that are joined to a line and lie above it, and itself, from the joined neighbours by ascending lower track
abbrev pub chain_from : List Span → ℕ → List ℕ
chain_from [] line = line ∷ []
chain_from (pair ∷ joined) line = if pair.low == line then line ∷ chain_from joined pair.high else chain_from joined line

-- a line is joined to one below it
abbrev pub is_joined_below : List Span → ℕ → Bool
is_joined_below joined line = list_any (λ (pair : Span). pair.high == line) joined

-- a line is joined to one above it
abbrev pub is_joined_above : List Span → ℕ → Bool
is_joined_above joined line = list_any (λ (pair : Span). pair.low == line) joined

-- the groups of some lines, in the order of their lowest tracks
abbrev pub groups : List Span → List ℕ → List (List ℕ)
groups joined lines = map (chain_from joined) (filter (λ line. not (is_joined_below joined line)) lines)

-- a net has two neighbouring tracks that are not joined, and so more than one group
abbrev pub is_split : List Span → List Span → ℕ → Bool
is_split spans pairs net = list_any (λ (pair : Span). pair.net == net && not (is_joined spans pair)) pairs

-- the lines of a group but one
abbrev pub others_of : List ℕ → ℕ → List ℕ
others_of group kept = filter (λ line. not (line == kept)) group

-- the lines of a net outside a group
abbrev pub outside : List ℕ → List ℕ → List ℕ
outside group own = filter (λ line. not (list_any (λ member. member == line) group)) own

-- the lines of a group that end where its net, which holds tracks on these lines, has more to do: all but one that is picked, and none of
-- one line
abbrev pub EndsButOne : (List Candidate → ℕ → Type 0) → ℕ → Next → List ℕ → List ℕ → List ℕ → Type 0
EndsButOne may tracks next own [] ending = ending ≡ []
EndsButOne may tracks next own (line ∷ []) ending = ending ≡ []
EndsButOne may tracks next own (line ∷ (above ∷ group)) ending =
    (kept : ℕ) × IsPicked may (offer (keep_question tracks next) (outside (line ∷ (above ∷ group)) own)) (line ∷ (above ∷ group)) kept
    × (ending ≡ others_of (line ∷ (above ∷ group)) kept)

-- a held track of a net that gives up its one track, by the columns of the nets' last pins and the marks of nets of more than one group
abbrev pub ends_alone : List ℕ → List ℕ → ℕ → Track → Bool
ends_alone lasts marks column t =
    is_held t && (nat_le (slice_index lasts t.net) column && slice_index marks t.net == 0)

-- the lines of a group that end: all of them where its net is one group and has no later pin
abbrev pub EndsOf : (List Candidate → ℕ → Type 0) → ℕ → Next → List ℕ → Bool → List ℕ → List ℕ → Type 0
EndsOf may tracks next own true group ending = ending ≡ group
EndsOf may tracks next own false group ending = EndsButOne may tracks next own group ending

-- a net gives up all its tracks
abbrev pub is_given_up : Next → Bool → Bool
is_given_up next split = is_ending next && not split

-- the next pins of a group's net, and whether the net gives up all its tracks
abbrev pub next_on : (ℕ → Next) → List Track → List ℕ → Next
next_on next tracks group = next (net_on tracks (slice_index group 0))

abbrev pub gives_up : (ℕ → Next) → List Track → List Span → List ℕ → Bool
gives_up next tracks spans group =
    is_given_up (next_on next tracks group) (is_split spans (neighbours tracks) (net_on tracks (slice_index group 0)))

-- Step 3: the lines that end, group by group.
abbrev pub EndsFollow : (List Candidate → ℕ → Type 0) → (ℕ → Next) → List Track → List Span → List (List ℕ) → List ℕ → Type 0
EndsFollow may next tracks spans [] ending = ending ≡ []
EndsFollow may next tracks spans (group ∷ groups) ending =
    (these : List ℕ) × ((others : List ℕ) × EndsOf may (length tracks) (next_on next tracks group)
    (own_lines (net_on tracks (slice_index group 0)) tracks) (gives_up next tracks spans group) group these
    × EndsFollow may next tracks spans groups others × (ending ≡ these ++ others))

-- the lines that end of some groups are added to others
pub record AddsEnds (may : List Candidate → ℕ → Type 0) (next : ℕ → Next) (tracks : List Track) (spans : List Span) (groups : List (List ℕ))
    (before after : List ℕ) : Type 0 where
  pub these : List ℕ
  pub follow : EndsFollow may next tracks spans groups these
  pub added : after ≡ before ++ these
