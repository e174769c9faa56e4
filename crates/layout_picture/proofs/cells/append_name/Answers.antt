use Rattle.layout_picture.proofs.cells.append_name.Goals as goal
use Rattle.std.proofs.Common.{◌≡◌, ◌∙◌, SFits, w64, rules, sym, true, false}
use Rattle.std.proofs.lemmas.Int.{to_z-of_z}
use Rattle.layout_picture.specs.Cells.{does_fit, name_text}

pub returns-then-not-does_fit : goal.returns-then-not-does_fit
unfolding name_text
returns-then-not-does_fit g c =
    let no : does_fit c.args.name.now c.args.rect.now ≡ false = sym c.does_fit.ensures ∙ c.if-not-does_fit.true in
    rw no c.append.ensures

pub returns : goal.returns
unfolding name_text
returns g c =
    let x0 : SFits w64 c.rect.inside.x0 = search rules in
    let y0 : SFits w64 c.rect.inside.y0 = search rules in
    let fy1 : SFits w64 c.frame.inside.y1 = search rules in
    let yes : does_fit c.args.name.now c.args.rect.now ≡ true = sym c.does_fit.ensures ∙ c.if-not-does_fit.false in
    rw yes (rw (← c.rect.view_is, ← c.frame.view_is) (simp to_z-of_z at (rw (c.letter_height.ensures, ← c.rect.view_is) at c.append_pieces.ensures)))
