use Rattle.std.proofs.Common.{◌≡◌, ◌∙◌, ◌+◌, ◌∷◌, ℕ, List, Bool, true, Some, drop, length, ap, refl, sym}
use Rattle.std.specs.List.{find, slice_get}
use Rattle.std.specs.Str.{bytes_eq}
use Rattle.std.proofs.lemmas.Option.{slice_get_read}
use Rattle.std_laws.proofs.Slices.{drop-next}
use Rattle.design_model.specs.Netlist.{Netlist}
use Rattle.design_model.specs.declared.design.CellKind.{CellKind}
use Rattle.layout_merge.proofs.cells.kind_named.Goals as goal

found-here : (p : CellKind → Bool) (kinds : List CellKind) (n : ℕ) (k : CellKind) → slice_get kinds n ≡ Some k → p k ≡ true → find p (drop n kinds) ≡ find p kinds
    → slice_get kinds n ≡ find p kinds
found-here p kinds n k at is was =
    at ∙ sym (ap (find p) (drop-next kinds n k at) ∙ first is) ∙ was
  where
    first : p k ≡ true → find p (k ∷ drop (n + 1) kinds) ≡ Some k
    first is = rw is refl

pub returns-then-eq-clause-is : goal.returns-then-eq-clause-is
returns-then-eq-clause-is c =
    let kinds : c.items-kinds.result.now ≡ c.args.design.now.kinds = c.items-kinds.ensures ∙ ap (λ (d : Netlist). d.kinds) c.design.view_is in
    let at : slice_get c.args.design.now.kinds c.loop-n.n ≡ Some c.index-kinds-n.result =
    ap (λ (ks : List CellKind). slice_get ks c.loop-n.n) (sym kinds)
    ∙ slice_get_read c.items-kinds.result.now (length c.items-kinds.result.now) c.loop-n.n c.index-kinds-n.result refl c.loop-n-test.true c.index-kinds-n.is in
    let same : bytes_eq c.index-kinds-n.result.name c.args.symbol.now ≡ true =
    rw (c.items.ensures, c.items-in-loop-n.ensures, ← c.index-kinds-n.is) at (sym c.eq.ensures ∙ c.if-eq.true) in
    found-here (λ (k : CellKind). bytes_eq k.name c.args.symbol.now) c.args.design.now.kinds c.loop-n.n c.index-kinds-n.result at same c.loop-n.invariant
