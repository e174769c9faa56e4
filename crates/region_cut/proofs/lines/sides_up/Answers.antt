use Rattle.std.proofs.Common.{ap, rules}
use Rattle.region_cut.proofs.LineLaws.{two-lines}
use Rattle.region_cut.proofs.lines.sides_up.Goals as goal

pub loop-rect-preserved : goal.loop-rect-preserved
loop-rect-preserved c =
    two-lines (λ r. r.y0) (λ r. r.y1) c.loop-rect.found.keys c.insert.new.self.keys c.insert-in-Some.new.self.keys _ c.in-Some.rect.now c.rect.inside.y0 c.rect.inside.y1 _ _
    (search rules) (search rules) (ap (λ e. e.y0) c.rect.view_is) (ap (λ e. e.y1) c.rect.view_is) c.in-Some.ensures.cases.0 c.in_ok-insert.ensures.keys c.in_ok-insert-2.ensures.keys c.loop-rect.invariant
