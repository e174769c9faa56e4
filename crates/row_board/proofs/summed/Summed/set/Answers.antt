use Rattle.row_board.proofs.summed.Summed.set.Goals as goal
use Rattle.std.proofs.Common.{ℕ, ◌≤◌, ◌<◌, arith, length, sym}
use Rattle.std.proofs.lemmas.Grind.{common_steps}
use Rattle.std.proofs.lemmas.List.{length-set}
use Rattle.std_laws.proofs.Every.{every-set}
use Rattle.std_laws.proofs.Sums.{sum-set, sum-small}

pub overflow_add-self : goal.overflow_add-self
overflow_add-self c = omega (arith, sum-small 2199023255552 c.self.inside.items.items c.self.invariant.small, c.self.invariant.is, c.self.invariant.few, c.amount.invariant)

pub invariant_of-self : goal.invariant_of-self
invariant_of-self c =
    let within : c.args.at < length c.self.inside.items.items = grind (arith, common_steps) in
    record {
      is = omega (arith, c.self.invariant.is, sum-set c.self.inside.items.items c.args.at c.amount.inside.number c.index.result.now within (sym c.index.ensures));
      small = every-set (λ (n : ℕ). n ≤ 2199023255552) c.self.inside.items.items c.args.at c.amount.inside.number c.self.invariant.small c.amount.invariant;
      few = omega (arith, c.self.invariant.few, length-set c.self.inside.items.items c.args.at c.amount.inside.number);
    }
