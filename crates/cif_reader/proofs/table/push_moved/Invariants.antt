use Rattle.std.proofs.Common.{◌≡◌, ◌++◌, length}
use Rattle.std.specs.List.{AllByRecursion}
use Rattle.cif_text.specs.Symbols.{moved_shapes}
use Rattle.cif_reader.specs.Within.{IsShapeWithin}
use Rattle.cif_reader.proofs.table.push_moved.Given as goal

abbrev pub invariant-loop-shape : goal.invariant-loop-shape
invariant-loop-shape l = record {
  near : AllByRecursion IsShapeWithin l.rest;
  done : l.fn.into.items ++ moved_shapes l.turn l.fn.shapes ≡ l.into.items ++ moved_shapes l.turn l.rest;
}

abbrev pub decreases-loop-shape : goal.decreases-loop-shape
decreases-loop-shape l = length l.rest
