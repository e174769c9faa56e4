use Rattle.std.proofs.Common.{rules}
use Rattle.region_cut.proofs.AreaLaws.{rises-across, rises-up}
use Rattle.region_cut.proofs.LineLaws.{read-lines}
use Rattle.region_cut.proofs.lined.Lined.rect.Goals as goal

pub invariant_of-result : goal.invariant_of-result
invariant_of-result c = (
  read-lines c.args.self.now.across.now _ c.args.left c.args.right (rises-across c.args.self.now.area) c.args.self.now.crossed c.requires.wide c.requires.across (search rules) (search rules),
  read-lines c.args.self.now.up.now _ c.args.low c.args.high (rises-up c.args.self.now.area) c.args.self.now.raised c.requires.tall c.requires.up (search rules) (search rules),
)
