use Rattle.layout_picture.proofs.view.do_meet.Goals as goal
use Rattle.std.proofs.Common.{◌≡◌, ◌∙◌, SFits, w64, rules, sym, true}
use Rattle.std.proofs.lemmas.Int.{to_z-of_z}
use Rattle.layout_picture.specs.Frame.{do_overlap}

pub returns-then-do_overlap : goal.returns-then-do_overlap
returns-then-do_overlap c =
    let ax0 : SFits w64 c.a.inside.x0 = search rules in
    let ay0 : SFits w64 c.a.inside.y0 = search rules in
    let ax1 : SFits w64 c.a.inside.x1 = search rules in
    let ay1 : SFits w64 c.a.inside.y1 = search rules in
    let bx0 : SFits w64 c.b.inside.x0 = search rules in
    let by0 : SFits w64 c.b.inside.y0 = search rules in
    let bx1 : SFits w64 c.b.inside.x1 = search rules in
    let by1 : SFits w64 c.b.inside.y1 = search rules in
    let across = simp to_z-of_z at c.do_overlap.ensures in
    let up = simp to_z-of_z at c.do_overlap-then-do_overlap.ensures in
    let yes : do_overlap c.a.inside.x0 c.a.inside.x1 c.b.inside.x0 c.b.inside.x1 ≡ true = sym across ∙ c.if-do_overlap.true in
    rw (← c.a.view_is, ← c.b.view_is) (rw yes up)
