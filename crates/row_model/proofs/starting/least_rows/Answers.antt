use Rattle.std.proofs.Common.{◌≡◌, ◌<◌, ◌*◌, ℕ, subst, sym, ◌∙◌, arith}
use Rattle.row_model.proofs.StartLaws.{least-next}
use Rattle.row_model.proofs.starting.least_rows.Goals as goal

same-square : (a b h k height area : ℕ) → a ≡ k → b ≡ k → h ≡ height → a * b * h < area → k * k * height < area
same-square a b h k height area p q r small =
    subst (λ (n : ℕ). k * k * n < area) r (subst (λ (n : ℕ). k * n * h < area) q (subst (λ (n : ℕ). n * b * h < area) p small))

pub loop-left-preserved : goal.loop-left-preserved
loop-left-preserved c = record {
  same = sym (least-next c.args.area c.args.height c.loop-left.left c.loop-left.rows c.loop-left-test.true
      (same-square c.from.result c.from-in-loop-left.result c.from-in-loop-left-2.result c.loop-left.rows c.args.height c.args.area c.from.ensures c.from-in-loop-left.ensures
      c.from-in-loop-left-2.ensures c.if-area-from.false))
      ∙ c.loop-left.invariant.same;
  total = omega arith;
  from = omega arith;
}
