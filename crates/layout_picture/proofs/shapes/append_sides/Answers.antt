use Rattle.layout_picture.proofs.shapes.append_sides.Goals as goal
use Rattle.std.proofs.Common.{SFits, w64, rules}
use Rattle.std.proofs.lemmas.Int.{to_z-of_z}
use Rattle.layout_picture.specs.Elements.{sides_text}

pub returns : goal.returns
unfolding sides_text
returns g c =
    let x0 : SFits w64 c.rect.inside.x0 = search rules in
    let y0 : SFits w64 c.rect.inside.y0 = search rules in
    let x1 : SFits w64 c.rect.inside.x1 = search rules in
    let y1 : SFits w64 c.rect.inside.y1 = search rules in
    let fy1 : SFits w64 c.frame.inside.y1 = search rules in
    rw (← c.rect.view_is, ← c.frame.view_is) (simp to_z-of_z at c.append_pieces.ensures)
