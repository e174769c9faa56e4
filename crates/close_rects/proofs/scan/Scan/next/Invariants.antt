use Rattle.std.proofs.Common.{◌≡◌, ◌-◌, All, length}
use Rattle.close_rects.specs.Items.{IsFit}
use Rattle.close_rects.specs.ScanView.{rest_in}
use Rattle.close_rects.proofs.scan.Scan.next.Given as goal

abbrev pub invariant-loop-self : goal.invariant-loop-self
invariant-loop-self l = record { rest : l.fn.self ≡ rest_in l.self-inside; fit : All IsFit l.self-inside.indexed }

abbrev pub decreases-loop-self : goal.decreases-loop-self
decreases-loop-self l = length l.self-inside.indexed - l.self-inside.row
