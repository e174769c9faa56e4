-- which tracks the pins of a column enter and which are made for them, by the answers of a chooser
use Rattle.std.specs.Prelude.{◌≡◌, ◌+◌, ◌-◌, ◌==◌, ◌||◌, ◌&&◌, not, if◌then◌else◌, ℕ, List, [], ◌∷◌, length, Some, None, Bool, true, false}
use Rattle.choose_core.specs.declared.candidate.Candidate.{Candidate}
use Rattle.choose_core.specs.declared.candidate.Next.{Next}
use Rattle.choose_core.specs.declared.candidate.Next.TheVariants.{Ends, Top, Bottom, Both}
use Rattle.choose_core.specs.declared.plan.Manner.{Manner}
use Rattle.choose_core.specs.declared.plan.Manner.TheVariants.{Published, LookingAhead}
use Rattle.greedy_column.specs.declared.column.Track.{Track}
use Rattle.greedy_column.specs.declared.column.Made.{Made}
use Rattle.greedy_column.specs.declared.question.Question.{Question}
use Rattle.greedy_column.specs.declared.entering.EnteringPin.{EnteringPin}
use Rattle.greedy_column.specs.declared.entering.Entries.{Entries}
use Rattle.greedy_column.specs.declared.entering.ChannelEdge.{ChannelEdge}
use Rattle.greedy_column.specs.declared.entering.ChannelEdge.TheVariants.{Upper, Lower}
use Rattle.greedy_column.specs.declared.entering.PinKind.{PinKind}
use Rattle.greedy_column.specs.declared.entering.PinKind.TheVariants.{NoPins, BottomAlone, TopAlone, EqualPins, TwoPins}
use Rattle.greedy_column.specs.declared.entering.Newcomer.{Newcomer}
use Rattle.greedy_column.specs.declared.entering.Newcomer.TheVariants.{TopPin, BottomPin, BothPins}
use Rattle.greedy_column.specs.Lines.{id_on, open_lines, own_lines, holds_track, above_lowest, below_line}
use Rattle.greedy_column.specs.Places.{place_of_new}
use Rattle.greedy_column.specs.Offers.{IsPicked, offer, entry_question}

-- a net has no later pin
abbrev pub is_ending : Next → Bool
is_ending Ends = true
is_ending Top = false
is_ending Bottom = false
is_ending Both = false

-- a track that a pin at an edge enters, beside the tracks that are made for it
abbrev pub entry_at : ChannelEdge → List Made → ℕ → Entries
entry_at Upper made id = record { made = made; top = id; bottom = 0 }
entry_at Lower made id = record { made = made; top = 0; bottom = id }

abbrev pub no_entry : Entries
no_entry = record { made = []; top = 0; bottom = 0 }

-- a track that is made
abbrev pub new_track : ℕ → ℕ → Made
new_track id below = record { id = id; below = below }

-- what is asked of two equal pins, of a pin at the top above some tracks, and of one at the bottom
abbrev pub straight_question : EnteringPin → Question
straight_question pin = entry_question None pin.next

abbrev pub top_question : EnteringPin → ℕ → Question
top_question pin tracks = entry_question (Some (tracks + 1)) pin.next

abbrev pub bottom_question : EnteringPin → Question
bottom_question pin = entry_question (Some 0) pin.next

-- a pin alone, or two equal ones: its net enters one of these lines, or where there is none a new track with so many below it
abbrev pub EntersAlone : (List Candidate → ℕ → Type 0) → ChannelEdge → Question → List ℕ → ℕ → List Track → ℕ → List ℕ → Entries → Type 0
EntersAlone may edge question own below before fresh [] entries = entries ≡ entry_at edge (new_track fresh below ∷ []) fresh
EntersAlone may edge question own below before fresh (line ∷ lines) entries =
    (picked : ℕ) × IsPicked may (offer question own) (line ∷ lines) picked × (entries ≡ entry_at edge [] (id_on before picked))

-- how many of the tracks lie below a new one for a pin at an edge, among all places or among these
abbrev pub place_for : Manner → EnteringPin → ChannelEdge → List Track → ℕ → ℕ → ℕ
place_for manner pin edge before least most =
    place_of_new manner (holds_track before pin.net) pin.next edge (length before) least most

abbrev pub any_place : Manner → EnteringPin → ChannelEdge → List Track → ℕ
any_place manner pin edge before = place_for manner pin edge before 0 (length before)

-- two equal pins: their net enters a track unless it holds one or ends here
abbrev pub EntersEqual : Manner → (List Candidate → ℕ → Type 0) → EnteringPin → List Track → ℕ → Bool → Entries → Type 0
EntersEqual manner may pin before fresh true entries = entries ≡ no_entry
EntersEqual manner may pin before fresh false entries =
    EntersAlone may Upper (straight_question pin) (own_lines pin.net before) (any_place manner pin Lower before) before fresh
    (open_lines pin.net before) entries

-- looking ahead, the bottom pin gets a new track where the top pin's net alone holds one
abbrev pub newcomer_by : Manner → Bool → Bool → Newcomer
newcomer_by Published top_holds bottom_holds = TopPin
newcomer_by LookingAhead top_holds bottom_holds = if top_holds && not bottom_holds then BottomPin else TopPin

-- the pins that get a new track where two pins have no pair of lines, from the lines of the top pin and of the bottom pin
abbrev pub newcomer_of : Manner → Bool → Bool → List ℕ → List ℕ → Newcomer
newcomer_of manner top_holds bottom_holds [] (line ∷ lowers) = TopPin
newcomer_of manner top_holds bottom_holds (upper ∷ uppers) (line ∷ lowers) = newcomer_by manner top_holds bottom_holds
newcomer_of manner top_holds bottom_holds (line ∷ uppers) [] = BottomPin
newcomer_of manner top_holds bottom_holds [] [] = BothPins

-- the bottom pin's net enters one of its lines, and that of the top pin a new track above it
abbrev pub EntersAbove : Manner → (List Candidate → ℕ → Type 0) → EnteringPin → EnteringPin → List Track → ℕ → List ℕ → Entries → Type 0
EntersAbove manner may top bottom before fresh lowers entries =
    (line : ℕ) × IsPicked may (offer (bottom_question bottom) (own_lines bottom.net before)) lowers line
    × (entries ≡ record {
      made = new_track fresh (place_for manner top Upper before line (length before)) ∷ [];
      top = fresh;
      bottom = id_on before line;
    })

-- the top pin's net enters one of its lines, and that of the bottom pin a new track below it
abbrev pub EntersBelow : Manner → (List Candidate → ℕ → Type 0) → EnteringPin → EnteringPin → List Track → ℕ → List ℕ → Entries → Type 0
EntersBelow manner may top bottom before fresh uppers entries =
    (line : ℕ) × IsPicked may (offer (top_question top (length before)) (own_lines top.net before)) uppers line
    × (entries ≡ record {
      made = new_track fresh (place_for manner bottom Lower before 0 (line - 1)) ∷ [];
      top = id_on before line;
      bottom = fresh;
    })

-- both nets enter new tracks, that of the top pin above the other, which is made first
abbrev pub both_new : Manner → EnteringPin → EnteringPin → List Track → ℕ → Entries
both_new manner top bottom before fresh = record {
  made = new_track fresh (any_place manner bottom Lower before)
      ∷ (new_track (fresh + 1) (place_of_new manner (holds_track before top.net) top.next Upper (length before + 1)
      (any_place manner bottom Lower before + 1) (length before + 1)) ∷ []);
  top = fresh + 1;
  bottom = fresh;
}

-- two pins without a pair of lines: one or both get a new track
abbrev pub EntersNew : Manner → (List Candidate → ℕ → Type 0) → EnteringPin → EnteringPin → List Track → ℕ → List ℕ → List ℕ → Newcomer → Entries → Type 0
EntersNew manner may top bottom before fresh uppers lowers TopPin entries = EntersAbove manner may top bottom before fresh lowers entries
EntersNew manner may top bottom before fresh uppers lowers BottomPin entries = EntersBelow manner may top bottom before fresh uppers entries
EntersNew manner may top bottom before fresh uppers lowers BothPins entries = entries ≡ both_new manner top bottom before fresh

-- two pins with a pair of lines: the net of the top pin enters one of its lines that have a partner, and that of the bottom pin
-- one below it
abbrev pub EntersPartners : (List Candidate → ℕ → Type 0) → EnteringPin → EnteringPin → List Track → List ℕ → List ℕ → Entries → Type 0
EntersPartners may top bottom before lowers partnered entries =
    (line : ℕ) × IsPicked may (offer (top_question top (length before)) (own_lines top.net before)) partnered line
    × ((below : ℕ) × IsPicked may (offer (bottom_question bottom) (own_lines bottom.net before)) (below_line line lowers) below
    × (entries ≡ record { made = []; top = id_on before line; bottom = id_on before below }))

-- two pins, by the lines of the top pin that have a partner
abbrev pub EntersPair : Manner → (List Candidate → ℕ → Type 0) → EnteringPin → EnteringPin → List Track → ℕ → List ℕ → List ℕ → List ℕ → Entries → Type 0
EntersPair manner may top bottom before fresh uppers lowers [] entries =
    EntersNew manner may top bottom before fresh uppers lowers
    (newcomer_of manner (holds_track before top.net) (holds_track before bottom.net) uppers lowers) entries
EntersPair manner may top bottom before fresh uppers lowers (partnered ∷ others) entries =
    EntersPartners may top bottom before lowers (partnered ∷ others) entries

-- a column's kind, by the net of its top pin and that of its bottom pin
abbrev pub pin_kind : ℕ → ℕ → PinKind
pin_kind top bottom =
    if top == bottom then (if top == 0 then NoPins else EqualPins)
    else (if top == 0 then BottomAlone else (if bottom == 0 then TopAlone else TwoPins))

-- the entries of a column's pins, by its kind
abbrev pub EntersBy : Manner → (List Candidate → ℕ → Type 0) → EnteringPin → EnteringPin → List Track → ℕ → PinKind → Entries → Type 0
EntersBy manner may top bottom before fresh NoPins entries = entries ≡ no_entry
EntersBy manner may top bottom before fresh BottomAlone entries =
    EntersAlone may Lower (bottom_question bottom) (own_lines bottom.net before) (any_place manner bottom Lower before) before fresh
    (open_lines bottom.net before) entries
EntersBy manner may top bottom before fresh TopAlone entries =
    EntersAlone may Upper (top_question top (length before)) (own_lines top.net before) (any_place manner top Upper before) before fresh
    (open_lines top.net before) entries
EntersBy manner may top bottom before fresh EqualPins entries =
    EntersEqual manner may top before fresh (holds_track before top.net || is_ending top.next) entries
EntersBy manner may top bottom before fresh TwoPins entries =
    EntersPair manner may top bottom before fresh (open_lines top.net before) (open_lines bottom.net before)
    (above_lowest (open_lines bottom.net before) (open_lines top.net before)) entries

-- Step 1: the pins of a column enter tracks, some of which are made for them.
abbrev pub Enters : Manner → (List Candidate → ℕ → Type 0) → EnteringPin → EnteringPin → List Track → ℕ → Entries → Type 0
Enters manner may top bottom before fresh entries = EntersBy manner may top bottom before fresh (pin_kind top.net bottom.net) entries
