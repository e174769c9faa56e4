use Rattle.cif_writer.proofs.drawings.kind_drawings.Goals as goal
use Rattle.std.proofs.Common.{rules, ◌≡◌, ◌++◌, ◌∷◌, ◌∙◌, ◌<◌, [], List, length, map, take, get_or, ap, ap₂, sym}
use Rattle.std.proofs.lemmas.List.{map-append}
use Rattle.std.proofs.lemmas.Option.{slice_get-get_or}
use Rattle.design_model.specs.Drawing.{drawing_of}
use Rattle.design_model.specs.declared.design.CellKind.{CellKind}
use Rattle.geom_core.specs.declared.layout.Shape.{Shape}
use Rattle.std_laws.proofs.Places.{take-here}

pub loop-n-preserved : goal.loop-n-preserved
loop-n-preserved c =
    let kinds : List CellKind = c.args.design.now.kinds in
    let same : c.items-n-end.result.now ≡ kinds = search rules in
    let within : c.loop-n.n < length kinds = rw (← same) c.loop-n-test.true in
    let kind : CellKind = get_or kinds c.loop-n.n (record { name = []; columns = 0; height = 0; terminals = []; positions = [] }) in
    let at = slice_get-get_or kinds c.loop-n.n (record { name = []; columns = 0; height = 0; terminals = []; positions = [] }) within in
    c.in_ok-push.ensures.items
    ∙ ap₂ (λ (l : List (List Shape)) (x : List Shape). l ++ x ∷ []) c.loop-n.invariant (c.new.ensures ∙ c.in_ok-drawing.ensures kind at)
    ∙ sym (ap (map (drawing_of c.args.rules.now)) (take-here kinds c.loop-n.n kind at)
    ∙ map-append (drawing_of c.args.rules.now) (take c.loop-n.n kinds) (kind ∷ []))
