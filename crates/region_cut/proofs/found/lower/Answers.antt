use Rattle.std.proofs.Common.{◌≡◌, Bool, ℕ, true, false, cond, arith, sym, ap}
use Rattle.region_cut.proofs.CellLaws.{changing-same, changing-written}
use Rattle.region_cut.proofs.found.lower.Goals as goal
use Rattle.region_cut.proofs.found.lower.Goals.{then-not-cells-column, else-not-cells-column}

ended : (b : Bool) (top strip : ℕ) → b ≡ false → strip ≡ cond b top strip
ended b top strip is = ap (λ t. cond t top strip) (sym is)

kept : (b : Bool) (top strip : ℕ) → b ≡ true → top ≡ cond b top strip
kept b top strip is = ap (λ t. cond t top strip) (sym is)

pub loop-column-preserved : goal.loop-column-preserved
loop-column-preserved c =
    elim c.if-not-cells-column.branch [
      | then-not-cells-column w ↦
          changing-written _ 0 c.loop-column.column c.args.tops.now c.loop-column.tops c.if-not-cells-column.tops c.args.strip c.loop-column.invariant
          (let within = c.loop-column-test.true in omega (arith, c.requires)) w.tops-is (ended _ _ _ w.if-not-cells-column.true)
      | else-not-cells-column w ↦
          changing-same _ 0 c.loop-column.column c.args.tops.now c.loop-column.tops c.if-not-cells-column.tops c.loop-column.invariant w.tops-is (kept _ _ _ w.if-not-cells-column.false)
    ]
