use Rattle.extract_tests.proofs.matching.is_cell_of.Goals as goal
use Rattle.std.proofs.Common.{◌≡◌, ◌<◌, ◌∙◌, List, Some, length, map, ap, sym, refl, rules}
use Rattle.std.specs.List.{slice_get}
use Rattle.std.proofs.lemmas.Option.{slice_get_read}
use Rattle.geom_core.specs.Moving.{moved_shape}
use Rattle.geom_core.specs.declared.layout.Shape.{Shape}
use Rattle.design_model.specs.CellsMatch.{shapes_of}
use Rattle.design_model.specs.Netlist.{Netlist}
use Rattle.design_model.specs.declared.design.CellKind.{CellKind}
use Rattle.extract_tests.specs.InOrder.{IsCellOf}
use Rattle.std_laws.proofs.Options.{on-true}

pub returns : goal.returns
returns c =
    let named : c.args.cell.now.name ≡ c.args.inst.now.name = search rules in
    let symbol : c.args.cell.now.symbol ≡ c.index-items-inst.result.name = search rules in
    let upright : c.args.cell.now.turn.quarters ≡ 0 = search rules in
    let kinds : c.items.result.now ≡ c.args.design.now.kinds = c.items.ensures ∙ ap (λ (d : Netlist). d.kinds) c.design.view_is in
    let below : c.args.inst.now.kind < length c.items.result.now = rw kinds c.requires.kind in
    let there : slice_get c.args.design.now.kinds c.args.inst.now.kind ≡ Some c.index-items-inst.result =
    ap (λ (l : List CellKind). slice_get l c.args.inst.now.kind) (sym kinds)
    ∙ slice_get_read c.items.result.now (length c.items.result.now) c.args.inst.now.kind c.index-items-inst.result refl below c.index-items-inst.is in
    on-true c.has_shapes.result (shapes_of c.args.layout.now c.args.cell.now ≡ map (moved_shape c.args.cell.now.turn) c.as_slice.result.now)
    (IsCellOf c.args.rules.now c.args.design.now c.args.layout.now c.args.inst.now c.args.cell.now)
    (λ same. record {
      named = named;
      copy = λ kind is.
          let one : c.index-items-inst.result ≡ kind = cc (there, is) in
          record {
            symbol = symbol ∙ ap (λ (k : CellKind). k.name) one;
            upright = upright;
            shapes = same ∙ ap (λ (l : List Shape). map (moved_shape c.args.cell.now.turn) l) (c.as_slice.ensures.value ∙ c.in_ok-drawn.ensures kind is);
          };
    }) c.has_shapes.ensures
