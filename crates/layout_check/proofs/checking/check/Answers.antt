use Rattle.design_model.specs.Netlist.{IsNetlist}
use Rattle.layout_check.proofs.GoodLaws.{findings-good, good-if}
use Rattle.layout_check.proofs.checking.check.Goals as goal

pub returns-then-is_empty-clause-good : goal.returns-then-is_empty-clause-good
returns-then-is_empty-clause-good c =
    let good : IsNetlist c.args.design.now = rw (← c.design.view_is) c.design.invariant.netlist in
    good-if c.with_nets.result _ _ _ (λ inside v are. findings-good c.args.rules.now c.args.design.now c.args.layout.now good inside v.items are)
    c.with_nets.ensures.inside c.with_nets.ensures.findings

pub returns-else-is_empty-clause-good : goal.returns-else-is_empty-clause-good
returns-else-is_empty-clause-good c =
    let good : IsNetlist c.args.design.now = rw (← c.design.view_is) c.design.invariant.netlist in
    good-if c.without_nets.result _ _ _ (λ inside v are. findings-good c.args.rules.now c.args.design.now c.args.layout.now good inside v.items are)
    c.without_nets.ensures.inside c.without_nets.ensures.findings
