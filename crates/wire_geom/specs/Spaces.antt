-- rectangles of different nets on one layer keep the space of the layer
use Rattle.std.specs.Prelude.{◌≡◌, ◌≢◌, ℕ, List, Contains}
use Rattle.geom_core.specs.Rectangles.{Apart}
use Rattle.tech_rules.specs.Lengths.{length_in}
use Rattle.tech_rules.specs.Rules.{RuleValues}
use Rattle.wire_geom.specs.declared.drawn.Drawn.{Drawn}

-- rectangles of different nets on a layer keep a space of so many units
abbrev pub NetsKeep : RuleValues → List Drawn → List ℕ → ℕ → Type 0
NetsKeep r drawn layer space = (a b : Drawn) → Contains drawn a → Contains drawn b → a.shape.layer ≡ layer → b.shape.layer ≡ layer
    → a.net ≢ b.net → Apart (length_in r space) a.shape.rect b.shape.rect

-- rectangles of different nets keep their layer's space
pub record NetsApart (r : RuleValues) (drawn : List Drawn) : Type 0 where
  pub horizontal : NetsKeep r drawn r.horizontal.layer r.horizontal.space
  pub vertical : NetsKeep r drawn r.vertical.layer r.vertical.space
  pub cut : NetsKeep r drawn r.cut.layer r.cut.space
