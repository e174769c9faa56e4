-- where a net has its next pins, and its last ones
use Rattle.std.specs.Prelude.{◌≡◌, ◌<◌, ◌≤◌, ◌==◌, ◌&&◌, ◌||◌, ◌++◌, ◌+◌, nat_lt, nat_le, if◌then◌else◌, Bool, false, Option, Some, None, [], ◌∷◌, suc, ℕ, List, length, slice_index, slice_index_or}
use Rattle.choose_core.specs.declared.candidate.Next.{Next}
use Rattle.choose_core.specs.declared.candidate.Next.TheVariants.{Ends, Top, Bottom, Both}
use Rattle.greedy_column.specs.declared.uses.Use.{Use}
use Rattle.greedy_column.specs.Entering.{is_ending}

-- a use does not stand behind another one: by the net, and by the column for one net
pub record IsBefore (u v : Use) : Type 0 where
  pub nets : u.net ≤ v.net
  pub columns : u.net ≡ v.net → u.column ≤ v.column

-- uses by net, and by column for each net
abbrev pub AreSorted : List Use → Type 0
AreSorted uses = (i j : ℕ) (d : Use) → i ≤ j → j < length uses → IsBefore (slice_index_or uses i d) (slice_index_or uses j d)

-- Places of sorted uses, by net number: before the place of a net stand the uses of lesser nets, and from there on those of others.
pub record ArePlaces (uses : List Use) (starts : List ℕ) : Type 0 where
  pub within : (net : ℕ) → net < length starts → slice_index starts net ≤ length uses
  pub lesser : (net k : ℕ) (d : Use) → net < length starts → k < slice_index starts net → (slice_index_or uses k d).net < net
  pub others : (net k : ℕ) (d : Use) → net < length starts → slice_index starts net ≤ k → k < length uses → net ≤ (slice_index_or uses k d).net

-- the uses of each net stand from its place to that of the net behind it
pub record AreStarts (uses : List Use) (starts : List ℕ) : Type 0 where
  pub places : ArePlaces uses starts
  pub all : (k : ℕ) (d : Use) → k < length uses → (slice_index_or uses k d).net + 1 < length starts

-- a use lies before a net and a column, or there
abbrev pub is_past : ℕ → ℕ → Use → Bool
is_past net column u = nat_lt u.net net || (u.net == net && nat_le u.column column)

-- the next pins of a net from a use, where it is the net's
abbrev pub next_at : ℕ → Option Use → Next
next_at net None = Ends
next_at net (Some u) = if u.net == net then u.next else Ends

-- the use by a pin, where there is one
abbrev pub use_at : ℕ → ℕ → Next → List Use
use_at net column next = if net == 0 then [] else record { net = net; column = column; next = next } ∷ []

-- the uses by the pins of a column of these nets
abbrev pub uses_at : ℕ → ℕ → ℕ → List Use
uses_at a b column =
    if a == b then use_at a column Both else (use_at a column Top ++ use_at b column Bottom)

-- the uses by the pins of some columns, the first of which is this one
abbrev pub uses_from : List ℕ → List ℕ → ℕ → List Use
uses_from (a ∷ top) (b ∷ bottom) column = uses_at a b column ++ uses_from top bottom (suc column)
uses_from [] bottom column = []
uses_from (a ∷ top) [] column = []

-- where a net has its next pins after a column, from a list of uses
abbrev pub next_after : List Use → ℕ → ℕ → Next
next_after [] column net = Ends
next_after (u ∷ uses) column net = if u.net == net && nat_lt column u.column then u.next else next_after uses column net

-- each use is at an edge or at both
abbrev pub AreAtEdges : List Use → Type 0
AreAtEdges [] = Unit {0}
AreAtEdges (u ∷ uses) = (is_ending u.next ≡ false) × AreAtEdges uses

-- the column of each net's last use, by net number: up to it the net has a later one, from it on none
abbrev pub AreLasts : List Use → List ℕ → Type 0
AreLasts uses lasts = (column net : ℕ) → nat_le (slice_index lasts net) column ≡ is_ending (next_after uses column net)
