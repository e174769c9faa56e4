use Rattle.std.proofs.Common.{◌≡◌, ◌≤◌, ℕ, List, Option, length, refl, ap, sym, ◌∙◌, arith}
use Rattle.std.proofs.lemmas.List.FromFn.{length-range_with_len}
use Rattle.std.proofs.lemmas.List.{length-map}
use Rattle.std.proofs.lemmas.Option.{slice_get_past, slice_get_read}
use Rattle.std.specs.List.{range_with_len, slice_get}
use Rattle.std.specs.Option.{option_and_then}
use Rattle.design_model.specs.Netlist.{Netlist}
use Rattle.design_model.specs.declared.design.Inst.{Inst}
use Rattle.row_model.specs.Widths.{columns_of, width_of}
use Rattle.row_model.proofs.WidthLaws.{columns-few}
use Rattle.std_laws.proofs.Ranges.{image-of}
use Rattle.row_board.proofs.nets.Nets.columns_of.Goals as goal

pub returns-in-Some-clause-width : goal.returns-in-Some-clause-width
returns-in-Some-clause-width c =
    let d = c.self.inside.design.now in
    sym (image-of (columns_of d) (length d.instances) c.args.instance c.in-Some.width.now
    (ap (λ (l : List ℕ). slice_get l c.args.instance) (sym (c.deref.ensures.value ∙ c.self.invariant.widths))
    ∙ slice_get_read c.deref.result.now (length c.deref.result.now) c.args.instance c.in-Some.width.now refl c.in-Some.ensures.lookup.3.0 c.in-Some.ensures.lookup.1))
    ∙ ap (λ (v : Netlist). columns_of v c.args.instance) c.self.view_is

pub returns-in-Some-clause-few : goal.returns-in-Some-clause-few
returns-in-Some-clause-few c =
    let d = c.self.inside.design.now in
    let is : columns_of d c.args.instance ≡ c.in-Some.width.now =
    image-of (columns_of d) (length d.instances) c.args.instance c.in-Some.width.now
    (ap (λ (l : List ℕ). slice_get l c.args.instance) (sym (c.deref.ensures.value ∙ c.self.invariant.widths))
    ∙ slice_get_read c.deref.result.now (length c.deref.result.now) c.args.instance c.in-Some.width.now refl c.in-Some.ensures.lookup.3.0 c.in-Some.ensures.lookup.1) in
    omega (arith, is, columns-few d c.self.invariant.good c.args.instance)

-- an instance that there is not has no width
none-wide : (d : Netlist) (i : ℕ) → length d.instances ≤ i → 0 ≡ columns_of d i
none-wide d i past = ap (λ (o : Option Inst). width_of (option_and_then (λ (x : Inst). slice_get d.kinds x.kind) o)) (sym (slice_get_past d.instances i past))

pub returns-in-None-clause-width : goal.returns-in-None-clause-width
returns-in-None-clause-width c =
    let d = c.self.inside.design.now in
    let wide = ap length (c.deref.ensures.value ∙ c.self.invariant.widths) in
    none-wide d c.args.instance (omega (arith, c.in-None.ensures.lookup.3, wide, length-map (range_with_len 0 (length d.instances)) (columns_of d), length-range_with_len 0 (length d.instances)))
    ∙ ap (λ (v : Netlist). columns_of v c.args.instance) c.self.view_is
