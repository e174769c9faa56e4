use Rattle.std.proofs.Common.{rules}
use Rattle.region_cut.proofs.CellLaws.{spans-last}
use Rattle.region_cut.proofs.edges.spans.Goals as goal

pub returns : goal.returns
returns c =
    spans-last c.args.heights.now.low c.args.heights.now.high (record { from = c.args.from.now; to = c.args.to.now }) c.min-low.result c.max-high.result
    (search rules) (search rules) (search rules) (search rules) (search rules) (search rules) (search rules) (search rules)
    c.if-from-to.false c.min-low.ensures.value c.max-high.ensures.value c.if-heights-low.false
