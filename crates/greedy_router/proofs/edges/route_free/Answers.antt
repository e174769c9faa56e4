use Rattle.greedy_router.proofs.EdgeLaws.{edge-routed, edge-within, unconstrained}
use Rattle.greedy_router.proofs.edges.route_free.Goals as goal

pub returns-in-Ok-clause-routed : goal.returns-in-Ok-clause-routed
returns-in-Ok-clause-routed c =
    let made = c.in-Ok.ensures in
    edge-routed c.args.channel.now c.in-Ok.edge.wiring c.unswept.result c.unswept.ensures.wiring made.tracks made.columns c.unswept.ensures.by
    c.unswept.ensures.sweep made.wiring made.single made.least

pub returns-in-Ok-clause-within : goal.returns-in-Ok-clause-within
returns-in-Ok-clause-within c =
    let made = c.in-Ok.ensures in
    edge-within c.args.channel.now c.in-Ok.edge.wiring c.unswept.result c.unswept.ensures.wiring made.tracks made.columns

pub returns-in-Ok-clause-free : goal.returns-in-Ok-clause-free
returns-in-Ok-clause-free c = unconstrained c.args.channel.now (λ column first. let is = (c.left_edge.ensures.constrained column).1 first in cc (is, c.in-Ok.is))
