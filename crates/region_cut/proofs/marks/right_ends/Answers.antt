use Rattle.std.proofs.Common.{◌+◌, ◌∙◌, ◌||◌, ap, arith, length, take, List, ℤ}
use Rattle.std.specs.List.{list_any}
use Rattle.std.specs.Prelude.{int_le}
use Rattle.region_cut.specs.Covered.{covers}
use Rattle.region_cut.specs.Grids.{line}
use Rattle.region_cut.proofs.CellLaws.{overwritten-all}
use Rattle.region_cut.proofs.MarkLaws.{mark-step}
use Rattle.region_cut.proofs.ReachLaws.{none-more, rising-none}
use Rattle.region_cut.proofs.marks.right_ends.Goals as goal

pub loop-rect-init : goal.loop-rect-init
loop-rect-init c =
    let made = c.in_ok-ends.ensures.items_if_clones_equal (λ x y same. same) in
    record {
      long = ap length made;
      reached = λ k within.
          none-more _ (list_any (covers (line c.args.across.now k) (line c.args.across.now (k + 1)) c.args.heights.now.low c.args.heights.now.high) c.args.rects.now)
          (ap (λ (l : List ℤ). list_any (int_le (line c.args.across.now (k + 1))) (take (k + 1) l)) made
          ∙ rising-none c.args.across.now (line c.args.across.now (k + 1)) (k + 1) (omega arith) (λ i less. c.requires i (k + 1) less (omega arith)));
    }

pub loop-rect-preserved : goal.loop-rect-preserved
loop-rect-preserved c =
    let same = c.deref_mut.ensures.value in
    let long = c.loop-rect.invariant.long in
    let written = overwritten-all c.loop-rect.ends.len c.extend.new.ends c.loop-rect.ends.items c.loop-rect.ends.ok.0 (c.extend.ensures.long ∙ ap length same) in
    record {
      long = ap length written ∙ c.extend.ensures.long ∙ ap length same ∙ long;
      reached = λ k within.
          mark-step (covers (line c.args.across.now k) (line c.args.across.now (k + 1)) c.args.heights.now.low c.args.heights.now.high) _ _ _ _ _ _ c.in-Some.ensures.cases.0
          (ap (λ (l : List ℤ). list_any (int_le (line c.args.across.now (k + 1))) (take (k + 1) l)) written ∙ c.extend.ensures.further k within
          ∙ ap (λ (l : List ℤ). covers (line c.args.across.now k) (line c.args.across.now (k + 1)) c.args.heights.now.low c.args.heights.now.high c.in-Some.rect.now || list_any (int_le (line c.args.across.now (k + 1))) (take (k + 1) l)) same)
          (c.loop-rect.invariant.reached k within);
    }
