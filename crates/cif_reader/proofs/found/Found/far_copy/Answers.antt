use Rattle.std.proofs.Common.{sym, subst, Option}
use Rattle.std.specs.Option.{ForSome}
use Rattle.geom_core.specs.Extent.{Extent}
use Rattle.cif_reader.specs.Sides.{AreSidesNear}
use Rattle.cif_reader.proofs.CallLemmas.{near-none}
use Rattle.cif_reader.proofs.found.Found.far_copy.Goals as goal

pub returns-then-are_near : goal.returns-then-are_near
returns-then-are_near c =
    sym (near-none c.args.turn.now c.kept.result.now.bounds _ c.kept.ensures.around
    (subst (λ (b : Option Extent). ForSome b AreSidesNear) c.moved_bounds.ensures c.if-are_near.ensures))
