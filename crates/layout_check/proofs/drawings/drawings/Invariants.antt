use Rattle.std.proofs.Common.{◌≡◌, map, take}
use Rattle.design_model.specs.Drawing.{drawing_of}
use Rattle.layout_check.proofs.drawings.drawings.Given as goal

abbrev pub invariant-loop-n : goal.invariant-loop-n
invariant-loop-n l = l.drawings.items ≡ map (drawing_of l.case.rules.now) (take l.n l.case.design.now.kinds)
