use Rattle.row_board.proofs.summed.Summed.push.Goals as goal
use Rattle.std.proofs.Common.{ℕ, [], ◌∷◌, ◌≤◌, ap, arith, length, length-append, sum, sym, subst}
use Rattle.std.specs.List.{AllByRecursion}
use Rattle.std_laws.proofs.Every.{every-push}
use Rattle.std_laws.proofs.Sums.{sum-push, sum-small}

pub overflow_add-self : goal.overflow_add-self
overflow_add-self c = omega (arith, sum-small 2199023255552 c.self.inside.items.items c.self.invariant.small, c.self.invariant.is, c.self.invariant.few, c.amount.invariant)

pub invariant_of-self-2 : goal.invariant_of-self-2
invariant_of-self-2 c =
    let old = c.self.inside.items.items in
    let new = c.in_ok-push.ensures.items in
    record {
      is = omega (arith, c.self.invariant.is, sum-push old c.amount.inside.number, ap sum new);
      small = subst (AllByRecursion (λ (n : ℕ). n ≤ 2199023255552)) (sym new) (every-push (λ (n : ℕ). n ≤ 2199023255552) old c.amount.inside.number c.self.invariant.small c.amount.invariant);
      few = omega (arith, ap length new, length-append old (c.amount.inside.number ∷ []), ap length c.self.view_is, c.requires);
    }
