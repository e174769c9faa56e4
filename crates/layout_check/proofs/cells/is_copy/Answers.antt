use Rattle.layout_check.proofs.cells.is_copy.Goals as goal
use Rattle.std.proofs.Common.{◌≡◌, ◌<◌, ◌≤◌, ◌∙◌, ℕ, List, Option, Some, length, ap, ap₂, sym, subst, refl}
use Rattle.std.specs.List.{slice_get}
use Rattle.std.specs.Option.{option_map}
use Rattle.std.proofs.lemmas.Option.{same_Some, slice_get-map, slice_get_past, slice_get_read}
use Rattle.list_facts.specs.Names.{place_among}
use Rattle.geom_core.specs.declared.layout.Shape.{Shape}
use Rattle.design_model.specs.CellsMatch.{instance_names}
use Rattle.design_model.specs.Drawing.{drawing_of}
use Rattle.design_model.specs.Netlist.{IsNetlist, Netlist}
use Rattle.design_model.specs.declared.design.CellKind.{CellKind}
use Rattle.design_model.specs.declared.design.Inst.{Inst}
use Rattle.layout_check.specs.CellFaults.{is_copy_for, is_copy_of_kind}
use Rattle.layout_check.specs.Drawings.{is_copy_with}
use Rattle.layout_check.proofs.Instances.{find-place}
use Rattle.std_laws.proofs.Members.{all-get}

pub returns-in_default : goal.returns-in_default
returns-in_default c =
    let r = c.args.drawn.now.named.now.case.now.rules.now in
    let d = c.args.drawn.now.named.now.case.now.design.now in
    let l = c.args.drawn.now.named.now.case.now.layout.now in
    let place : c.place_of-place.result ≡ place_among (instance_names d) c.args.cell.now.name =
    c.place_of-place.ensures.is ∙ ap₂ place_among c.args.drawn.now.named.now.different c.items.ensures in
    let insts : c.items-2.result.now ≡ d.instances = c.items-2.ensures ∙ ap (λ (d : Netlist). d.instances) c.design.view_is in
    let past : length d.instances ≤ c.place_of-place.result =
    subst (λ (is : List Inst). length is ≤ c.place_of-place.result) insts c.in_default.ensures.lookup.3 in
    sym (ap (λ (o : Option Inst). is_copy_for r d l o c.args.cell.now)
    (find-place d.instances c.args.cell.now.name ∙ ap (slice_get d.instances) (sym place)
    ∙ slice_get_past d.instances c.place_of-place.result past))

pub returns : goal.returns
returns c =
    let r = c.args.drawn.now.named.now.case.now.rules.now in
    let d = c.args.drawn.now.named.now.case.now.design.now in
    let l = c.args.drawn.now.named.now.case.now.layout.now in
    let place : c.place_of-place.result ≡ place_among (instance_names d) c.args.cell.now.name =
    c.place_of-place.ensures.is ∙ ap₂ place_among c.args.drawn.now.named.now.different c.items.ensures in
    let insts : c.items-2.result.now ≡ d.instances = c.items-2.ensures ∙ ap (λ (d : Netlist). d.instances) c.design.view_is in
    let kinds : c.items-3.result.now ≡ d.kinds = c.items-3.ensures ∙ ap (λ (d : Netlist). d.kinds) c.design.view_is in
    let inst_is : slice_get d.instances c.place_of-place.result ≡ Some c.in-Some.inst.now =
    ap (λ (is : List Inst). slice_get is c.place_of-place.result) (sym insts)
    ∙ slice_get_read c.items-2.result.now (length c.items-2.result.now) c.place_of-place.result c.in-Some.inst.now refl
    c.in-Some.ensures.lookup.3.0 c.in-Some.ensures.lookup.1 in
    let good : IsNetlist d = rw (← c.design.view_is) c.design.invariant.netlist in
    let below : c.in-Some.inst.now.kind < length d.kinds =
    all-get (λ (i : Inst). i.kind < length d.kinds) d.instances c.place_of-place.result c.in-Some.inst.now good.instances inst_is in
    let kind_is : slice_get d.kinds c.in-Some.inst.now.kind ≡ Some c.index-items-kind.result =
    ap (λ (ks : List CellKind). slice_get ks c.in-Some.inst.now.kind) (sym kinds)
    ∙ slice_get_read c.items-3.result.now (length c.items-3.result.now) c.in-Some.inst.now.kind c.index-items-kind.result refl
    (subst (λ (ks : List CellKind). c.in-Some.inst.now.kind < length ks) (sym kinds) below) c.index-items-kind.is in
    let long : length c.args.drawn.now.drawings.now ≡ length d.kinds = c.args.drawn.now.kinds.each in
    let drawn_is : slice_get c.args.drawn.now.drawings.now c.in-Some.inst.now.kind ≡ Some c.index-drawings-kind.result =
    slice_get_read c.args.drawn.now.drawings.now (length c.args.drawn.now.drawings.now) c.in-Some.inst.now.kind c.index-drawings-kind.result refl
    (subst (λ (n : ℕ). c.in-Some.inst.now.kind < n) (sym long) below) c.index-drawings-kind.is in
    let drawing : c.index-drawings-kind.result ≡ drawing_of r c.index-items-kind.result =
    same_Some c.index-drawings-kind.result (drawing_of r c.index-items-kind.result)
    (sym drawn_is ∙ ap (λ (ss : List (List Shape)). slice_get ss c.in-Some.inst.now.kind) c.args.drawn.now.are
    ∙ slice_get-map (drawing_of r) d.kinds c.in-Some.inst.now.kind
    ∙ ap (option_map (drawing_of r)) kind_is) in
    c.is_copy_with.ensures
    ∙ ap₂ (λ (kind : CellKind) (shapes : List Shape). is_copy_with l kind.name shapes c.args.cell.now) (sym c.index-items-kind.is) (c.items-4.ensures ∙ drawing)
    ∙ sym (ap (λ (o : Option Inst). is_copy_for r d l o c.args.cell.now)
    (find-place d.instances c.args.cell.now.name ∙ ap (slice_get d.instances) (sym place) ∙ inst_is)
    ∙ ap (λ (o : Option CellKind). is_copy_of_kind r d l o c.args.cell.now) kind_is)
