use Rattle.std.proofs.Common.{◌≡◌, drop}
use Rattle.std.specs.List.{find}
use Rattle.std.specs.Str.{bytes_eq}
use Rattle.design_model.specs.declared.design.CellKind.{CellKind}
use Rattle.layout_merge.proofs.cells.kind_named.Given as goal

abbrev pub invariant-loop-n : goal.invariant-loop-n
invariant-loop-n l = find (λ (k : CellKind). bytes_eq k.name l.symbol) (drop l.n l.design.kinds) ≡ find (λ (k : CellKind). bytes_eq k.name l.symbol) l.design.kinds
