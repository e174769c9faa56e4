use Rattle.std.specs.Prelude.{◌≡◌, ◌⊎◌, ℕ, ◌+◌, ◌<◌, ◌≤◌, List, ◌∷◌, Contains}
use Rattle.tech_rules.specs.Rules.{RuleValues}

-- a vertical wire of a net that stands in a column of its seat, from its lower to its upper end, both in units above its row's lower edge
pub record Upright : Type 0 where
  pub column : ℕ
  pub low : ℕ
  pub high : ℕ
  pub net : ℕ

-- it comes to the lower edge of its row
abbrev pub ComesToLower : Upright → Type 0
ComesToLower u = u.low ≡ 0

-- it comes to the upper edge of a row of this height
abbrev pub ComesToUpper : ℕ → Upright → Type 0
ComesToUpper height u = u.high ≡ height

-- what stands in a row: its width in columns, and its vertical wires
pub record Seat : Type 0 where
  pub width : ℕ
  pub uprights : List Upright

-- an upright fits a row of this height: it is as long as wires are wide, ends within the row, and comes to each edge or keeps the vertical space from it
pub record FitsRow (r : RuleValues) (height : ℕ) (u : Upright) : Type 0 where
  pub long : u.low + r.vertical.width ≤ u.high
  pub within : u.high ≤ height
  pub below : ComesToLower u ⊎ (r.vertical.space ≤ u.low)
  pub above : ComesToUpper height u ⊎ (u.high + r.vertical.space ≤ height)

-- two uprights of one column are of one net, or one ends the vertical space below the other
abbrev pub AreParted : RuleValues → Upright → Upright → Type 0
AreParted r u v = (u.net ≡ v.net) ⊎ (u.high + r.vertical.space ≤ v.low) ⊎ (v.high + r.vertical.space ≤ u.low)

-- the wires of a seat fit its row, stand in the seat's columns, and are parted where they stand in one column
pub record IsSeat (r : RuleValues) (height : ℕ) (seat : Seat) : Type 0 where
  pub fits : (u : Upright) → Contains seat.uprights u → FitsRow r height u
  pub within : (u : Upright) → Contains seat.uprights u → u.column < seat.width
  pub parted : (u v : Upright) → Contains seat.uprights u → Contains seat.uprights v → u.column ≡ v.column → AreParted r u v

-- in seats side by side, the first of which begins in column `left`, one seat has this upright, in this column of the row
pub data UprightAt (u : Upright) (column : ℕ) : ℕ → List Seat → Type 0 where
  here : {left : ℕ} (seat : Seat) {seats : List Seat} → Contains seat.uprights u → column ≡ left + u.column → UprightAt u column left (seat ∷ seats)
  further : {left : ℕ} {seat : Seat} {seats : List Seat} → UprightAt u column (left + seat.width) seats → UprightAt u column left (seat ∷ seats)

-- in this column of the row a net comes to its lower edge
pub record LowerNet (seats : List Seat) (column net : ℕ) : Type 0 where
  pub upright : Upright
  pub at : UprightAt upright column 0 seats
  pub comes : ComesToLower upright
  pub of_net : upright.net ≡ net

-- in this column of the row, which has this height, a net comes to its upper edge
pub record UpperNet (height : ℕ) (seats : List Seat) (column net : ℕ) : Type 0 where
  pub upright : Upright
  pub at : UprightAt upright column 0 seats
  pub comes : ComesToUpper height upright
  pub of_net : upright.net ≡ net
