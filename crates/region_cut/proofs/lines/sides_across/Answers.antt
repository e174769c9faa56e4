use Rattle.std.proofs.Common.{ap, rules}
use Rattle.region_cut.proofs.LineLaws.{two-lines}
use Rattle.region_cut.proofs.SideLaws.{area-first, area-of}
use Rattle.region_cut.proofs.lines.sides_across.Goals as goal

pub loop-rect-preserved : goal.loop-rect-preserved
loop-rect-preserved c = record {
  made =
      two-lines (λ r. r.x0) (λ r. r.x1) c.loop-rect.found.keys c.insert.new.self.keys c.insert-in-Some.new.self.keys _ c.in-Some.rect.now c.rect.inside.x0 c.rect.inside.x1 _ _
      (search rules) (search rules) (ap (λ e. e.x0) c.rect.view_is) (ap (λ e. e.x1) c.rect.view_is) c.in-Some.ensures.cases.0 c.in_ok-insert.ensures.keys c.in_ok-insert-2.ensures.keys
      c.loop-rect.invariant.made;
  areas = λ later. area-first _ _ _ c.in-Some.rect.now c.in-Some.ensures.cases.0 (area-of c.in-Some.rect.now _ _ _ _ c.rect.invariant.0 c.rect.invariant.1 c.rect.view_is) later c.loop-rect.invariant.areas;
}
