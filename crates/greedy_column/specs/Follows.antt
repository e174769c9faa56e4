-- when a record is what the four steps make of a column: lines are found, and told by the ids of tracks
use Rattle.std.specs.Prelude.{◌≡◌, ◌↔◌, ◌++◌, IsTrue, ℕ, List, map, Contains}
use Rattle.std.specs.List.Sorted.{IsStrictlyIncreasing}
use Rattle.channel_model.specs.Pins.{Pins}
use Rattle.choose_core.specs.declared.candidate.Candidate.{Candidate}
use Rattle.choose_core.specs.declared.candidate.Next.{Next}
use Rattle.choose_core.specs.declared.plan.Manner.{Manner}
use Rattle.greedy_column.specs.declared.column.Track.{Track}
use Rattle.greedy_column.specs.declared.column.Column.{Column}
use Rattle.greedy_column.specs.declared.span.Span.{Span}
use Rattle.greedy_column.specs.declared.entering.Entries.{Entries}
use Rattle.greedy_column.specs.declared.entering.EnteringPin.{EnteringPin}
use Rattle.greedy_column.specs.Tracks.{ids}
use Rattle.greedy_column.specs.Replay.{top_pin, bottom_pin, entered, freed}
use Rattle.greedy_column.specs.Ahead.{next_of}
use Rattle.greedy_column.specs.Lawful.{HasEqualPins}
use Rattle.greedy_column.specs.Verticals.{pin_verticals}
use Rattle.greedy_column.specs.Lines.{free_lines, held_lines, id_on}
use Rattle.greedy_column.specs.Entering.{Enters}
use Rattle.greedy_column.specs.Joining.{span_in, neighbours, JoinsFollow, ids_of}
use Rattle.greedy_column.specs.Ending.{joined_pairs, groups, EndsFollow}
use Rattle.greedy_column.specs.Moving.{IsOrderOfMoves, MovesFollow, movable_lines, move_ids}

-- a pin of a net
abbrev pub pin_with : (ℕ → Next) → ℕ → EnteringPin
pin_with next net = record { net = net; next = next net }

abbrev pub pin_of : Pins → ℕ → ℕ → EnteringPin
pin_of pins column net = pin_with (next_of pins column) net

-- the entries that a record tells
abbrev pub entries_of : Column → Entries
entries_of done = record { made = done.made; top = done.top; bottom = done.bottom }

-- the verticals of the pins, on their lines
abbrev pub pin_spans : Pins → ℕ → List Track → Column → List Span
pin_spans pins column now done = map (span_in (ids now)) (pin_verticals pins column done)

-- ids that end: in ascending order, those of these lines
pub record AreEnded (tracks : List Track) (ending ended : List ℕ) : Type 0 where
  pub ascending : IsStrictlyIncreasing ended
  pub members : (id : ℕ) → Contains ended id ↔ Contains (map (id_on tracks) ending) id

-- Step 2, over these verticals, which are `drawn` after it: the joins are told by ids, and are found by lines.
pub record AreJoinsTold (may : List Candidate → ℕ → Type 0) (next : ℕ → Next) (now : List Track) (spans drawn : List Span) (joins : List (ℕ × ℕ)) : Type 0 where
  pub joined : List Span
  pub follow : JoinsFollow may next (neighbours now) spans joined
  pub grown : drawn ≡ spans ++ joined
  pub told : joins ≡ map (ids_of now) joined

-- Step 3, over these verticals
pub record AreEndsTold (may : List Candidate → ℕ → Type 0) (next : ℕ → Next) (now : List Track) (drawn : List Span) (ended : List ℕ) : Type 0 where
  pub ending : List ℕ
  pub follow : EndsFollow may next now drawn (groups (joined_pairs drawn (neighbours now)) (held_lines now)) ending
  pub told : AreEnded now ending ended

-- Step 4, over the tracks that are kept and these verticals, of those that have somewhere to go, in their order
pub record AreMovesTold (manner : Manner) (may : List Candidate → ℕ → Type 0) (next : ℕ → Next) (now kept : List Track) (drawn : List Span)
    (moves : List (ℕ × ℕ)) : Type 0 where
  pub order : List ℕ
  pub moving : List (ℕ × ℕ)
  pub ordered : IsOrderOfMoves manner next kept (movable_lines drawn (free_lines now) kept) order
  pub follow : MovesFollow may next now kept order drawn (free_lines now) moving
  pub told : moves ≡ map (move_ids now) moving

-- Steps 2 to 4, over the tracks that the pins have entered and the verticals of these. The joins, ends and moves are told by
-- ids, and are found by lines.
pub record FollowsOn (manner : Manner) (may : List Candidate → ℕ → Type 0) (next : ℕ → Next) (now : List Track) (spans : List Span)
    (joins : List (ℕ × ℕ)) (ended : List ℕ) (moves : List (ℕ × ℕ)) : Type 0 where
  pub joined : List Span
  pub ending : List ℕ
  pub order : List ℕ
  pub moving : List (ℕ × ℕ)
  pub joins_follow : JoinsFollow may next (neighbours now) spans joined
  pub ends_follow : EndsFollow may next now (spans ++ joined) (groups (joined_pairs (spans ++ joined) (neighbours now)) (held_lines now)) ending
  pub ordered : IsOrderOfMoves manner next (freed ended now) (movable_lines (spans ++ joined) (free_lines now) (freed ended now)) order
  pub moves_follow : MovesFollow may next now (freed ended now) order (spans ++ joined) (free_lines now) moving
  pub joins_told : joins ≡ map (ids_of now) joined
  pub ends_told : AreEnded now ending ended
  pub moves_told : moves ≡ map (move_ids now) moving

-- A record is what the four steps make of these tracks and this first new id in a manner, each choice being one that may be answered.
pub record Follows (manner : Manner) (may : List Candidate → ℕ → Type 0) (pins : Pins) (column fresh : ℕ) (before : List Track) (done : Column) : Type 0 where
  pub straight : IsTrue done.straight ↔ HasEqualPins pins column
  pub enters : Enters manner may (pin_of pins column (top_pin pins column)) (pin_of pins column (bottom_pin pins column)) before fresh (entries_of done)
  pub goes_on : FollowsOn manner may (next_of pins column) (entered pins column done before) (pin_spans pins column (entered pins column done before) done)
      done.joins done.ended done.moves
