use Rattle.std.specs.Prelude.{◌≡◌, ◌⊎◌, ◌≤ℤ◌, ◌+ℤ◌, ℕ, ◌+◌, ◌*◌, ◌≤◌, List, Contains}
use Rattle.tech_rules.specs.Lengths.{length_in}
use Rattle.tech_rules.specs.Rules.{RuleValues}
use Rattle.wire_geom.specs.Edges.{Enters}
use Rattle.wire_geom.specs.Grid.{scaled}
use Rattle.wire_geom.specs.Spaces.{NetsApart}
use Rattle.wire_geom.specs.Widths.{AreWide}
use Rattle.wire_geom.specs.declared.drawn.Drawn.{Drawn}

-- a rectangle between two edges, given in half units: from each it keeps a space of so many units, or it is a vertical wire in a column in which its net has an entry there
pub record Stays (r : RuleValues) (floor ceiling : ℕ) (lower upper : ℕ → ℕ → Type 0) (space : ℕ) (a : Drawn) : Type 0 where
  pub from : scaled r floor ≤ℤ a.shape.rect.y0
  pub to : a.shape.rect.y1 ≤ℤ scaled r ceiling
  pub below : ((scaled r floor +ℤ length_in r space) ≤ℤ a.shape.rect.y0) ⊎ Enters r lower a
  pub above : ((a.shape.rect.y1 +ℤ length_in r space) ≤ℤ scaled r ceiling) ⊎ Enters r upper a

-- all wires and cuts stay between the edges, and come near them only over entries of their nets
pub record Stay (r : RuleValues) (floor ceiling : ℕ) (lower upper : ℕ → ℕ → Type 0) (ds : List Drawn) : Type 0 where
  pub horizontal : (a : Drawn) → Contains ds a → a.shape.layer ≡ r.horizontal.layer → Stays r floor ceiling lower upper r.horizontal.space a
  pub vertical : (a : Drawn) → Contains ds a → a.shape.layer ≡ r.vertical.layer → Stays r floor ceiling lower upper r.vertical.space a
  pub cut : (a : Drawn) → Contains ds a → a.shape.layer ≡ r.cut.layer → Stays r floor ceiling lower upper r.cut.space a

-- a band of a layout: its rectangles are wide, those of different nets are apart, and from its edges they keep their spaces but for entries
pub record Strip (r : RuleValues) (floor ceiling : ℕ) (lower upper : ℕ → ℕ → Type 0) (ds : List Drawn) : Type 0 where
  pub wide : AreWide r ds
  pub apart : NetsApart r ds
  pub stay : Stay r floor ceiling lower upper ds

-- a band is high enough that vertical wires beyond its two edges keep their space
abbrev pub IsTall : RuleValues → ℕ → ℕ → Type 0
IsTall r floor ceiling = floor + 2 * r.vertical.space ≤ ceiling

-- where two bands have entries in one column of their common edge, these are of one net
abbrev pub Agree : (ℕ → ℕ → Type 0) → (ℕ → ℕ → Type 0) → Type 0
Agree below above = (column n m : ℕ) → below column n → above column m → n ≡ m
