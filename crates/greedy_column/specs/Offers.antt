-- what is asked of a chooser, the candidates that tracks are offered as, and which option is picked
use Rattle.std.specs.Prelude.{◌≡◌, ◌+◌, ◌-◌, ℕ, suc, min, List, [], ◌∷◌, map, slice_get, Option, Some, None}
use Rattle.choose_core.specs.declared.candidate.Candidate.{Candidate}
use Rattle.choose_core.specs.declared.candidate.Ask.TheVariants.{Join, Enter, Keep, Move}
use Rattle.choose_core.specs.declared.candidate.Next.{Next}
use Rattle.choose_core.specs.declared.candidate.Next.TheVariants.{Ends, Top, Bottom, Both}
use Rattle.greedy_column.specs.declared.question.Question.{Question}
use Rattle.greedy_column.specs.declared.span.Span.{Span}

-- how far a line lies from the one that is aimed at
abbrev pub gap_to : Option ℕ → ℕ → ℕ
gap_to None line = 0
gap_to (Some aim) line = (aim - line) + (line - aim)

-- how far two lines lie apart
abbrev pub distance : ℕ → ℕ → ℕ
distance one other = (one - other) + (other - one)

-- the least of a distance and of those from a line to others
abbrev pub least_distance : ℕ → ℕ → List ℕ → ℕ
least_distance line least [] = least
least_distance line least (other ∷ others) = least_distance line (min least (distance line other)) others

-- how near the others of a net's lines are to a line: 0 where there is none, else 1 more than the least distance
abbrev pub pull_to : List ℕ → ℕ → ℕ
pull_to [] line = 0
pull_to (other ∷ others) line = suc (least_distance line (distance line other) others)

-- a track as it is offered for a question, beside the others of its net, and two tracks as they are offered for a join
abbrev pub offer : Question → List ℕ → ℕ → Candidate
offer question others line =
    record { ask = question.ask; track = line; gap = gap_to question.aim line; next = question.next; pull = pull_to others line }

abbrev pub join_offer : (ℕ → Next) → Span → Candidate
join_offer next pair =
    record { ask = Join; track = pair.low; gap = pair.high - pair.low; next = next pair.net; pull = suc (pair.high - pair.low) }

-- one of these options is picked, by an answer that may be given to the list of their offers
abbrev pub IsPicked : {X : Type 0} → (List Candidate → ℕ → Type 0) → (X → Candidate) → List X → X → Type 0
IsPicked may offers options option = (answer : ℕ) × may (map offers options) answer × (slice_get options answer ≡ Some option)

-- what is asked where a pin of a net enters a track, which group member is kept, and where a kept track goes on
abbrev pub entry_question : Option ℕ → Next → Question
entry_question aim next = record { ask = Enter; aim = aim; next = next }

-- the edge at which a net has its next pins, where they lie at one edge alone
abbrev pub edge_ahead : ℕ → Next → Option ℕ
edge_ahead tracks Ends = None
edge_ahead tracks Top = Some (tracks + 1)
edge_ahead tracks Bottom = Some 0
edge_ahead tracks Both = None

abbrev pub keep_question : ℕ → Next → Question
keep_question tracks next = record { ask = Keep; aim = edge_ahead tracks next; next = next }

abbrev pub move_question : ℕ → Next → Question
move_question line next = record { ask = Move; aim = Some line; next = next }
