use Rattle.std.proofs.Common.{SFits, w64, rules}
use Rattle.std.proofs.lemmas.Int.{to_z-of_z}
use Rattle.close_rects.proofs.Windows.{Meet-shared}
use Rattle.close_rects.proofs.bounds.Bounds.meets.Goals as goal

pub returns-then-share : goal.returns-then-share
returns-then-share c =
    let x0 : SFits w64 c.self.inside.x0 = search rules in
    let x1 : SFits w64 c.self.inside.x1 = search rules in
    let y0 : SFits w64 c.self.inside.y0 = search rules in
    let y1 : SFits w64 c.self.inside.y1 = search rules in
    let other_x0 : SFits w64 c.other.inside.x0 = search rules in
    let other_x1 : SFits w64 c.other.inside.x1 = search rules in
    let other_y0 : SFits w64 c.other.inside.y0 = search rules in
    let other_y1 : SFits w64 c.other.inside.y1 = search rules in
    let across = simp to_z-of_z at c.share.ensures in
    let up = simp to_z-of_z at c.share-then-share.ensures in
    rw (← c.self.view_is, ← c.other.view_is) (Meet-shared _ _ _ _ across up c.if-share.true)
