use Rattle.std.proofs.Common.{rules, ◌≡◌, ◌∙◌, ◌++◌, ◌∷◌, [], ap₂, take, drop, ◌-◌, length, arith, w64, SFits, to_z-of_z, ℤ}
use Rattle.std.proofs.lemmas.List.{length-drop, take_all}
use Rattle.std.specs.Fmt.{signed_decimal}
use Rattle.cif_text.specs.Printing.{blanked}
use Rattle.cif_text.specs.Written.{middle}
use Rattle.shelf_io.proofs.WritesLaws.{writes-both, writes-stopped}
use Rattle.cif_writer.proofs.Lines.{label-text, label_end}
use Rattle.cif_writer.proofs.printing.put_label_line.Goals as goal

pub returns-in_err-append : goal.returns-in_err-append
returns-in_err-append g c =
    rw (label-text c.digits_of.result.now c.args.name.now c.args.shape.now c.digits_of.ensures)
    (writes-stopped c.from_residual.result (c.args.name.now ++ label_end c.args.shape.now) c.from_residual.ensures.0 c.in_err-append.ensures)

pub returns-in_err-append-2 : goal.returns-in_err-append-2
returns-in_err-append-2 g c =
    let result = c.from_residual-in_err-append-2.result in
    rw (label-text c.digits_of.result.now c.args.name.now c.args.shape.now c.digits_of.ensures)
    (writes-both result (g.met.K.Sink.place_then _ _ _) (g.met.K.Sink.same_then _ _ _) c.in_ok-append.ensures
    (writes-stopped result (label_end c.args.shape.now) c.from_residual-in_err-append-2.ensures.0 (rw c.items.ensures at c.in_err-append-2.ensures)))

pub returns : goal.returns
returns g c =
    let across : c.middle_of.result ≡ middle c.args.shape.now.rect.x0 c.args.shape.now.rect.x1 = search rules in
    let up : c.middle_of-2.result ≡ middle c.args.shape.now.rect.y0 c.args.shape.now.rect.y1 = search rules in
    let fits_across : SFits w64 c.middle_of.result = search rules in
    let fits_up : SFits w64 c.middle_of-2.result = search rules in
    let text = rw (to_z-of_z fits_across, to_z-of_z fits_up) at c.print_label_end-start.ensures.text in
    let last : drop c.print_label_end-start.result c.print_label_end-start.new.into ≡ label_end c.args.shape.now =
    text
    ∙ ap₂ (λ (x y : ℤ). blanked (signed_decimal x ∷ signed_decimal y ∷ []) ++ 59 ∷ 10 ∷ []) across up in
    let start = c.print_label_end-start.result in
    let into = c.print_label_end-start.new.into in
    let long : length into ≡ 192 = search rules in
    let all : take (192 - start) (drop start into) ≡ drop start into = take_all (192 - start) (drop start into) (omega (arith, length-drop start into, long)) in
    rw (label-text c.digits_of.result.now c.args.name.now c.args.shape.now c.digits_of.ensures)
    (writes-both c.append-3.result (g.met.K.Sink.place_then _ _ _) (g.met.K.Sink.same_then _ _ _) c.in_ok-append.ensures
    (writes-both c.append-3.result (g.met.K.Sink.place_then _ _ _) (g.met.K.Sink.same_then _ _ _) (rw c.items.ensures at c.in_ok-append-2.ensures)
    (rw (all, last) at c.append-3.ensures)))
