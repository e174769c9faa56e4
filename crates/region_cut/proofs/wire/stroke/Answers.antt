use Rattle.std.proofs.Common.{rules}
use Rattle.region_cut.proofs.StrokeLaws.{begun, ended, reach-fits, wide, written}
use Rattle.region_cut.proofs.wire.stroke.Goals as goal

pub invariant_of-result : goal.invariant_of-result
invariant_of-result c =
    let from = c.requires.from in
    let to = c.requires.to in
    let half = reach-fits c.args.half c.requires.half in (
      wide c.args.from.now.x c.args.to.now.x c.args.half c.begin.result c.end.result (search rules) (search rules) c.requires.wide
          (begun _ _ _ _ (reach-fits _ from.across) (reach-fits _ to.across) half c.begin.ensures)
          (ended _ _ _ _ (reach-fits _ from.across) (reach-fits _ to.across) half c.end.ensures),
      wide c.args.from.now.y c.args.to.now.y c.args.half c.begin-2.result c.end-2.result (search rules) (search rules) c.requires.wide
          (begun _ _ _ _ (reach-fits _ from.up) (reach-fits _ to.up) half c.begin-2.ensures)
          (ended _ _ _ _ (reach-fits _ from.up) (reach-fits _ to.up) half c.end-2.ensures),
    )

pub returns : goal.returns
returns c =
    let from = c.requires.from in
    let to = c.requires.to in
    let half = reach-fits c.args.half c.requires.half in
    written c.begin.result c.begin-2.result c.end.result c.end-2.result _ _ _ _ (search rules) (search rules) (search rules) (search rules)
    (begun _ _ _ _ (reach-fits _ from.across) (reach-fits _ to.across) half c.begin.ensures)
    (begun _ _ _ _ (reach-fits _ from.up) (reach-fits _ to.up) half c.begin-2.ensures)
    (ended _ _ _ _ (reach-fits _ from.across) (reach-fits _ to.across) half c.end.ensures)
    (ended _ _ _ _ (reach-fits _ from.up) (reach-fits _ to.up) half c.end-2.ensures)
