use Rattle.netlist_core.proofs.outline.between.Goals as goal
use Rattle.std.proofs.Common.{rules, w64}
use Rattle.std.proofs.lemmas.Int.{to_z-of_z}
use Rattle.netlist_core.proofs.OutlineLaws.{made}
use mir.Val.{SFits}
use Rattle.std_laws.proofs.Integers.{int-apart}

pub returns : goal.returns
returns c =
    let ax : SFits w64 c.args.a.x = search rules in
    let ay : SFits w64 c.args.a.y = search rules in
    let cx : SFits w64 c.args.c.x = search rules in
    let cy : SFits w64 c.args.c.y = search rules in
    let left : SFits w64 c.min.result = search rules in
    let low : SFits w64 c.min-2.result = search rules in
    let x = simp to_z-of_z at c.min.ensures.value in
    let y = simp to_z-of_z at c.min-2.ensures.value in
    let width = simp to_z-of_z at c.abs_diff.ensures in
    let height = simp to_z-of_z at c.abs_diff-2.ensures in
    simp to_z-of_z (made c.args.a.x c.args.a.y c.args.c.x c.args.c.y _ _ _ _ (int-apart c.args.a.x c.args.c.x c.if-a-c.false) (int-apart c.args.a.y c.args.c.y c.if-a-c-2.false) x y width height)
