use Rattle.std.proofs.Common.{subst}
use Rattle.std.proofs.lemmas.Result.{IfOk-weaker}
use Rattle.std.specs.Result.{IfOk}
use Rattle.tech_rules.specs.Rules.{ValidRules}
use Rattle.design_model.specs.Netlist.{IsNetlist}
use Rattle.port_rows.proofs.PortsHave.{HasPorts, answer-ports, said-of}
use Rattle.port_rows.proofs.porting.ports.Goals.{After-drop-ports-inside-2}
use Rattle.port_rows.proofs.porting.ports.Goals as goal

pub returns-clause-is : goal.returns-clause-is
returns-clause-is c = said-of c.args.rules.now c.args.file.now c.args.design.now _ c.ported_with.result c.in_ok-ports.ensures c.ported_with.ensures

-- what the answer has
has : (c : After-drop-ports-inside-2) → IfOk c.ported_with.result (HasPorts c.args.rules.now c.args.file.now c.args.design.now)
has c =
    answer-ports c.args.rules.now (subst ValidRules c.rules.view_is c.rules.invariant) c.args.file.now c.requires.file c.requires.few c.args.design.now
    (subst IsNetlist c.design.view_is c.design.invariant.netlist) c.requires.design c.ported_with.result
    (said-of c.args.rules.now c.args.file.now c.args.design.now _ c.ported_with.result c.in_ok-ports.ensures c.ported_with.ensures)

pub returns-clause-words : goal.returns-clause-words
returns-clause-words c = IfOk-weaker c.ported_with.result _ _ (λ p made. made.words) (has c)

pub returns-clause-nets : goal.returns-clause-nets
returns-clause-nets c = IfOk-weaker c.ported_with.result _ _ (λ p made. made.nets) (has c)

pub returns-clause-high : goal.returns-clause-high
returns-clause-high c = IfOk-weaker c.ported_with.result _ _ (λ p made. made.high) (has c)

pub returns-clause-cells : goal.returns-clause-cells
returns-clause-cells c = IfOk-weaker c.ported_with.result _ _ (λ p made. made.cells) (has c)

pub returns-clause-rows : goal.returns-clause-rows
returns-clause-rows c = IfOk-weaker c.ported_with.result _ _ (λ p made. made.rows) (has c)

pub returns-clause-none : goal.returns-clause-none
returns-clause-none c = IfOk-weaker c.ported_with.result _ _ (λ p made. made.none) (has c)
