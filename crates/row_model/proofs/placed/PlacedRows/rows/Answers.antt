use Rattle.std.proofs.Common.{subst}
use Rattle.row_model.specs.NearStands.{AreShort}
use Rattle.row_model.specs.Placed.{Placing}
use Rattle.row_model.proofs.PlacedLaws.{placed-short}
use Rattle.row_model.proofs.placed.PlacedRows.rows.Goals as goal

pub returns-clause-short : goal.returns-clause-short
returns-clause-short c =
    subst (λ (p : Placing). AreShort p.rows) c.self.view_is (placed-short c.self.inside.design.now c.self.inside.rows.now c.self.invariant.good c.self.invariant.placed)
