use Rattle.std.proofs.Common.{rules}
use Rattle.region_cut.proofs.LineLaws.{one-line}
use Rattle.region_cut.proofs.lines.lines_up.Goals as goal

pub loop-corner-preserved : goal.loop-corner-preserved
loop-corner-preserved c =
    one-line (λ p. p.y) c.loop-corner.found.keys c.insert.new.self.keys _ c.in-Some.corner.now _ _ (search rules) c.in-Some.ensures.cases.0 c.in_ok-insert.ensures.keys c.loop-corner.invariant
