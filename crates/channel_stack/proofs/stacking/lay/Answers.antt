use Rattle.std.proofs.Common.{rules as all_rules, ◌≡◌, ◌<◌, ◌≤◌, ◌^◌, ◌*◌, List, ap, ◌∙◌, arith, length, map, subst, sym}
use Rattle.std.proofs.Math.Nat.{mul-le-mul}
use Rattle.std.specs.List.{AllByRecursion}
use Rattle.feed_cells.specs.Fed.{items_width}
use Rattle.feed_cells.specs.declared.fed.Item.{Item}
use Rattle.design_model.specs.Netlist.{IsNetlist}
use Rattle.tech_rules.specs.Rules.{ValidRules}
use Rattle.channel_stack.specs.Stack.{LaidOut, row_bases, stack_of, stack_top}
use Rattle.channel_stack.specs.Risers.{AreRisers}
use Rattle.channel_stack.proofs.RowRisers.{risers-are}
use Rattle.channel_stack.proofs.GoodStack.{stack-good}
use Rattle.channel_stack.proofs.Heights.{bases-counted, fed-narrow, rows-fit, stack-within, top-fits}
use Rattle.channel_stack.proofs.stacking.lay.Goals as goal

pub channel_bases-requires : goal.channel_bases-requires
channel_bases-requires g c =
    let valid : ValidRules c.args.rules.now = subst ValidRules c.rules.view_is c.rules.invariant in
    let same : c.args.fed.now.heights ≡ c.items-heights.result.now = search all_rules in
    top-fits c.args.rules.now c.args.design.now c.args.fed.now (map g.W.HasWiring.wiring_of c.args.wirings.now) c.items-heights.result.now valid c.requires.fed c.requires.routed same

pub row_bases-requires : goal.row_bases-requires
row_bases-requires g c =
    let valid : ValidRules c.args.rules.now = subst ValidRules c.rules.view_is c.rules.invariant in
    let same : c.args.fed.now.heights ≡ c.items-heights.result.now = search all_rules in
    top-fits c.args.rules.now c.args.design.now c.args.fed.now (map g.W.HasWiring.wiring_of c.args.wirings.now) c.items-heights.result.now valid c.requires.fed c.requires.routed same

pub stack_top-requires : goal.stack_top-requires
stack_top-requires g c =
    let valid : ValidRules c.args.rules.now = subst ValidRules c.rules.view_is c.rules.invariant in
    let same : c.args.fed.now.heights ≡ c.items-heights.result.now = search all_rules in
    top-fits c.args.rules.now c.args.design.now c.args.fed.now (map g.W.HasWiring.wiring_of c.args.wirings.now) c.items-heights.result.now valid c.requires.fed c.requires.routed same

pub overflow_mul-result-3 : goal.overflow_mul-result-3
overflow_mul-result-3 g c =
    let valid : ValidRules c.args.rules.now = subst ValidRules c.rules.view_is c.rules.invariant in
    let same : c.args.fed.now.heights ≡ c.items-heights.result.now = search all_rules in
    let fits : stack_top c.args.rules.now c.items-heights.result.now 0 (map g.W.HasWiring.wiring_of c.args.wirings.now) < 2 ^ 32 =
    top-fits c.args.rules.now c.args.design.now c.args.fed.now (map g.W.HasWiring.wiring_of c.args.wirings.now) c.items-heights.result.now valid c.requires.fed c.requires.routed same in
    let low : c.stack_top.result ≤ 2 ^ 32 = omega arith in
    let fine : c.from-centi.result ≤ 1000 = omega (arith, c.rules.invariant.ranges.grid.centi) in
    let product : c.stack_top.result * c.from-centi.result ≤ 2 ^ 32 * 1000 = mul-le-mul low fine in
    omega arith

pub placed_rows-requires : goal.placed_rows-requires
placed_rows-requires g c =
    let valid : ValidRules c.args.rules.now = subst ValidRules c.rules.view_is c.rules.invariant in
    let rows : c.items.result.now ≡ c.args.fed.now.rows = search all_rules in
    subst (λ (l : List (List Item)). AllByRecursion (λ (items : List Item). items_width c.args.design.now items < 2 ^ 39) l) (sym rows)
    (rows-fit c.args.rules.now c.args.design.now c.args.fed.now (map g.W.HasWiring.wiring_of c.args.wirings.now) valid c.requires.fed c.requires.routed)

pub all_risers-requires-clause-narrow : goal.all_risers-requires-clause-narrow
all_risers-requires-clause-narrow g c =
    let valid : ValidRules c.args.rules.now = subst ValidRules c.rules.view_is c.rules.invariant in
    fed-narrow c.args.rules.now c.args.design.now c.args.fed.now (map g.W.HasWiring.wiring_of c.args.wirings.now) valid c.requires.routed

pub all_risers-requires-clause-bases : goal.all_risers-requires-clause-bases
all_risers-requires-clause-bases g c =
    let same : c.args.fed.now.heights ≡ c.items-heights.result.now = search all_rules in
    let bases : c.as_slice-2.result.now ≡ row_bases c.args.rules.now c.items-heights.result.now 0 (map g.W.HasWiring.wiring_of c.args.wirings.now) = search all_rules in
    ap length bases
    ∙ bases-counted c.args.rules.now c.args.design.now c.args.fed.now (map g.W.HasWiring.wiring_of c.args.wirings.now) c.items-heights.result.now c.requires.fed c.requires.routed same

pub returns-clause-laid : goal.returns-clause-laid
unfolding stack_of
returns-clause-laid g c = search all_rules

pub returns-clause-risers : goal.returns-clause-risers
unfolding stack_of
returns-clause-risers g c =
    let ws = map g.W.HasWiring.wiring_of c.args.wirings.now in
    let laid = returns-clause-laid g c in
    subst (λ (l : LaidOut). AreRisers c.args.rules.now c.args.design.now c.args.fed.now l.row_base l.risers) (sym laid)
    (risers-are c.args.rules.now c.args.design.now c.args.fed.now c.requires.fed ws c.requires.routed.each)

pub returns-clause-within : goal.returns-clause-within
returns-clause-within g c = stack-within c.args.rules.now c.args.design.now c.args.fed.now (map g.W.HasWiring.wiring_of c.args.wirings.now) c.requires.fed c.requires.routed

pub returns-clause-good : goal.returns-clause-good
returns-clause-good g c =
    let valid : ValidRules c.args.rules.now = subst ValidRules c.rules.view_is c.rules.invariant in
    let is : IsNetlist c.args.design.now = subst IsNetlist c.design.view_is c.design.invariant.netlist in
    λ room wired. stack-good c.args.rules.now valid c.args.design.now is room c.args.fed.now c.requires.fed (map g.W.HasWiring.wiring_of c.args.wirings.now) wired
