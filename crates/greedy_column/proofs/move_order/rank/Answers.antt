use Rattle.std.proofs.Common.{◌+◌, ◌∙◌, ap, arith, cond, length, sym}
use Rattle.greedy_column.specs.Moving.{behind, behind_on}
use Rattle.greedy_column.specs.Uses.{next_after}
use Rattle.greedy_column.proofs.SplitLaws.{held_within, rank_told}
use Rattle.greedy_column.proofs.move_order.rank.Goals as goal

pub returns-then-has_other_end : goal.returns-then-has_other_end
returns-then-has_other_end c =
    let next = next_after c.args.ahead.now.uses.items c.args.column in
    ap (λ b. cond b 0 (1 + behind_on next c.args.kept.now c.args.line)) (sym c.if-has_other_end.true)
    ∙ rank_told next c.args.kept.now c.args.pairs.now c.net_on-net.result c.args.line c.has_other_end.result c.requires.tell c.requires.held
    c.net_on-net.ensures c.has_other_end.ensures

pub overflow_add-result : goal.overflow_add-result
overflow_add-result c = omega (arith, c.behind.ensures.few (held_within c.args.kept.now c.args.line c.requires.held))

pub returns : goal.returns
returns c =
    let next = next_after c.args.ahead.now.uses.items c.args.column in
    ap (λ n. 1 + n) (c.behind.ensures.behind
    ∙ ap (λ n. behind (length c.args.kept.now) n c.args.line) (c.next.ensures ∙ ap next c.net_on-net.ensures))
    ∙ ap (λ b. cond b 0 (1 + behind_on next c.args.kept.now c.args.line)) (sym c.if-has_other_end.false)
    ∙ rank_told next c.args.kept.now c.args.pairs.now c.net_on-net.result c.args.line c.has_other_end.result c.requires.tell c.requires.held
    c.net_on-net.ensures c.has_other_end.ensures
