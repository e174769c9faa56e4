use Rattle.std.proofs.Common.{◌≡◌, map, take}
use Rattle.design_model.specs.Drawing.{drawing_of}
use Rattle.cif_writer.proofs.drawings.kind_drawings.Given as goal

abbrev pub invariant-loop-n : goal.invariant-loop-n
invariant-loop-n l = l.drawings.items ≡ map (drawing_of l.rules) (take l.n l.design.kinds)
