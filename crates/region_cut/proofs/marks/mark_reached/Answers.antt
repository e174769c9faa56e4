use Rattle.std.proofs.Common.{◌≡◌, ◌∙◌, ◌+◌, ◌||◌, ◌∷◌, [], Bool, List, Some, ℤ, to_z, of_z, take, ap, false, rules, arith, refl, sym, SFits, w64}
use Rattle.std.proofs.lemmas.Int.{to_z-of_z}
use Rattle.std.proofs.lemmas.Option.{none-some, same_Some}
use Rattle.std.specs.List.{list_any, slice_get}
use Rattle.std.specs.Prelude.{int_le}
use Rattle.region_cut.specs.Grids.{line}
use Rattle.region_cut.proofs.CellLaws.{changing-none, changing-written}
use Rattle.region_cut.proofs.ReachLaws.{first-among, reach-more}
use Rattle.region_cut.proofs.marks.mark_reached.Goals as goal

alone : (b : Bool) → b ≡ (b || false)
alone b = grind arith

at-first : (xs : List ℤ) (x : ℤ) → Some x ≡ slice_get xs 0 → x ≡ line xs 0
at-first [] x is = absurd (none-some x (sym is))
at-first (y ∷ ys) x is = same_Some x y is

pub loop-column-init : goal.loop-column-init
loop-column-init c =
    let fits : SFits w64 c.in-Some.first.now = search rules in
    let first : c.in-Some.first.now ≡ line c.args.ends.now 0 = at-first c.args.ends.now _ c.in-Some.ensures.value in
    record {
      reach = λ z. ap (int_le z) (to_z-of_z w64 _ fits ∙ first) ∙ alone (int_le z (line c.args.ends.now 0));
      cells = changing-none _ _ _;
    }

pub loop-column-preserved : goal.loop-column-preserved
loop-column-preserved c =
    let fits : SFits w64 c.max-end.result = search rules in
    let here : SFits w64 (line c.args.ends.now c.loop-column.column) = search rules in
    let next : SFits w64 (line c.args.across.now (c.loop-column.column + 1)) = search rules in
    let reach : (z : ℤ) → int_le z (to_z w64 (of_z w64 c.max-end.result)) ≡ (int_le z (line c.args.ends.now 0) || list_any (int_le z) (take (c.loop-column.column + 1) c.args.ends.now)) = λ z.
    ap (int_le z) (to_z-of_z w64 _ fits)
    ∙ reach-more z (line c.args.ends.now 0) _ _ _ c.args.ends.now c.loop-column.column (c.loop-column.invariant.reach z) (omega arith) (to_z-of_z w64 _ here) c.max-end.ensures.value in
    record {
      reach = reach;
      cells = changing-written _ _ c.loop-column.column c.args.cells.now c.loop-column.cells _ _ c.loop-column.invariant.cells c.loop-column-test.true refl
          (ap (λ z. int_le z (to_z w64 (of_z w64 c.max-end.result))) (to_z-of_z w64 _ next) ∙ reach (line c.args.across.now (c.loop-column.column + 1))
          ∙ first-among (line c.args.across.now (c.loop-column.column + 1)) (line c.args.ends.now 0) c.args.ends.now (c.loop-column.column + 1) (omega arith) (omega arith) refl);
    }
