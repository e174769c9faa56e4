use Rattle.std.proofs.Common.{◌≤◌, ◌+◌, length, arith, rules, sym, ap, ◌∙◌}
use Rattle.greedy_column.specs.Tracks.{ids}
use Rattle.greedy_column.proofs.TableLaws.{length-ids}
use Rattle.greedy_router.proofs.OrderLaws.{line_of-absent}
use Rattle.greedy_router.proofs.final_order.FinalOrder.line.Goals as goal

pub returns-in-None : goal.returns-in-None
returns-in-None c =
    let order = c.self.inside.tracks.now in
    let past : length c.self.inside.lines.items ≤ c.args.id = search rules in
    let absent = line_of-absent (ids order) c.args.id (λ member. let less = c.self.invariant.below c.args.id member in omega (arith, less, past)) in
    rw (← c.self.view_is) (sym (absent ∙ ap (λ n. n + 1) (length-ids order)))
