-- whether a net has a pin in a later column, and at which edge the first of these lies
use Rattle.std.specs.Prelude.{◌≡◌, ◌⊎◌, ◌<◌, ◌==◌, ◌+◌, if◌then◌else◌, ℕ, List, [], ◌∷◌, drop, slice_index}
use Rattle.channel_model.specs.Pins.{Pins}
use Rattle.choose_core.specs.declared.candidate.Next.{Next}
use Rattle.choose_core.specs.declared.candidate.Next.TheVariants.{Ends, Top, Bottom, Both}
use Rattle.greedy_column.specs.Uses.{next_after}
use Rattle.greedy_column.specs.declared.ahead.Ahead.{Ahead}

-- a net has a pin in a later column
abbrev pub HasLaterPin : Pins → ℕ → ℕ → Type 0
HasLaterPin pins column net =
    (later : ℕ) × (column < later) × ((slice_index pins.top later ≡ net) ⊎ (slice_index pins.bottom later ≡ net))

-- where a net stands in the first of these columns in which it stands
abbrev pub first_in : List ℕ → List ℕ → ℕ → Next
first_in (a ∷ top) (b ∷ bottom) net =
    if a == net then (if b == net then Both else Top) else (if b == net then Bottom else first_in top bottom net)
first_in [] bottom net = Ends
first_in (a ∷ top) [] net = Ends

-- where a net has its next pins after a column
abbrev pub next_of : Pins → ℕ → ℕ → Next
next_of pins column net =
    if net == 0 then Ends else first_in (drop (column + 1) pins.top) (drop (column + 1) pins.bottom) net

-- it tells of each net where it has its next pins in this channel
abbrev pub IsAhead : Pins → Ahead → Type 0
IsAhead pins ahead = (column net : ℕ) → next_after ahead.uses.items column net ≡ next_of pins column net
