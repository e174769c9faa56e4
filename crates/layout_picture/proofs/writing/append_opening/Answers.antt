use Rattle.layout_picture.proofs.writing.append_opening.Goals as goal
use Rattle.std.proofs.Common.{SFits, w64, rules}
use Rattle.std.proofs.lemmas.Int.{to_z-of_z}
use Rattle.layout_picture.specs.Pictures.{opening_text}

pub returns : goal.returns
unfolding opening_text
returns g c =
    let x0 : SFits w64 c.frame.inside.x0 = search rules in
    let y0 : SFits w64 c.frame.inside.y0 = search rules in
    let x1 : SFits w64 c.frame.inside.x1 = search rules in
    let y1 : SFits w64 c.frame.inside.y1 = search rules in
    rw (← c.frame.view_is) (simp to_z-of_z at c.append_pieces.ensures)
