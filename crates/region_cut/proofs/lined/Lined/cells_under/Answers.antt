use Rattle.std.proofs.Common.{◌∙◌, ◌<◌, ◌+◌, List, ℤ, length, take, ap, false, replicate, rules, subst, sym, w64, arith, SFits, ◌-◌}
use Rattle.std.proofs.lemmas.Int.{to_z-of_z}
use Rattle.std.proofs.lemmas.List.{length-replicate}
use Rattle.std.specs.List.{list_any}
use Rattle.std.specs.Prelude.{int_le}
use Rattle.region_cut.specs.Areas.{grid_in}
use Rattle.region_cut.specs.Ceilings.{AreUnder}
use Rattle.region_cut.specs.Grids.{columns, line}
use Rattle.region_cut.proofs.CellLaws.{overwritten-all, under-flipped, under-none}
use Rattle.region_cut.proofs.AreaLaws.{rises-across}
use Rattle.region_cut.proofs.LineLaws.{rises-lines}
use Rattle.region_cut.proofs.MarkLaws.{under-marked}
use Rattle.region_cut.proofs.ReachLaws.{AreRising}
use Rattle.region_cut.proofs.lined.Lined.cells_under.Goals as goal
use Rattle.region_cut.proofs.lined.Lined.cells_under.Goals.{in-Path, in-Rects+in_ok-ends-in-Rects}

pub returns-then-strip-eq0 : goal.returns-then-strip-eq0
returns-then-strip-eq0 c =
    under-none _ _ c.args.strip c.in_ok-cells.cells.items (c.in_ok-cells.ensures.items_if_clones_equal (λ y same. same) ∙ ap (λ n. replicate n false) c.columns.ensures) c.if-strip-eq0.true

pub right_ends-requires : goal.right_ends-requires
right_ends-requires c =
    subst AreRising (sym c.args.self.now.crossed) (λ i j less within. rises-lines _ i j (rises-across c.args.self.now.area) less within)

pub returns : goal.returns
returns c =
    let made = c.in_ok-cells.ensures.items_if_clones_equal (λ y same. same) ∙ ap (λ n. replicate n false) c.columns.ensures in
    let low : SFits w64 (line c.args.self.now.up.now (c.args.strip - 1)) = search rules in
    let high : SFits w64 (line c.args.self.now.up.now c.args.strip) = search rules in
    elim c.match-self.branch [
      | in-Path w ↦
          rw (w.cells-is, overwritten-all c.in_ok-cells.cells.len w.flip_all.new.cells c.in_ok-cells.cells.items c.in_ok-cells.cells.ok.0 (w.flip_all.ensures.long ∙ w.deref_mut.ensures.len ∙ c.in_ok-cells.cells.ok.0))
          (subst (λ a. AreUnder (grid_in a).filled (columns (grid_in a)) c.args.strip w.flip_all.new.cells) (sym w.in-Path.is)
          (under-flipped w.in-Path.path.now c.args.strip w.deref_mut.result.now w.flip_all.new.cells c.args.self.now.across.now c.args.self.now.up.now _ _
          (w.deref_mut.ensures.value ∙ made ∙ ap (λ a. replicate (columns (grid_in a)) false) w.in-Path.is) (let some = c.if-strip-eq0.false in omega arith)
          (c.args.self.now.crossed ∙ ap (λ a. (grid_in a).across) w.in-Path.is) (c.args.self.now.raised ∙ ap (λ a. (grid_in a).up) w.in-Path.is) (to_z-of_z w64 _ low) (to_z-of_z w64 _ high)
          w.flip_all.ensures.long w.flip_all.ensures.flipped))
      | in-Rects+in_ok-ends-in-Rects w ↦
          let whole = w.deref_mut-in-Rects.ensures.value ∙ made in
          rw (w.cells-is, overwritten-all c.in_ok-cells.cells.len w.mark_reached.new.cells c.in_ok-cells.cells.items c.in_ok-cells.cells.ok.0 (w.mark_reached.ensures.long ∙ w.deref_mut-in-Rects.ensures.len ∙ c.in_ok-cells.cells.ok.0))
          (subst (λ a. AreUnder (grid_in a).filled (columns (grid_in a)) c.args.strip w.mark_reached.new.cells) (sym w.in-Rects.is)
          (under-marked w.in-Rects.rects.now c.args.strip w.deref_mut-in-Rects.result.now w.mark_reached.new.cells c.args.self.now.across.now c.args.self.now.up.now _ _
          (whole ∙ ap (λ a. replicate (columns (grid_in a)) false) w.in-Rects.is) (let some = c.if-strip-eq0.false in omega arith)
          (c.args.self.now.crossed ∙ ap (λ a. (grid_in a).across) w.in-Rects.is) (c.args.self.now.raised ∙ ap (λ a. (grid_in a).up) w.in-Rects.is) (to_z-of_z w64 _ low) (to_z-of_z w64 _ high)
          w.mark_reached.ensures.long
          (λ column within.
          let inside : column < length c.args.self.now.across.now - 1
          = omega (arith, ap length whole, length-replicate (columns (grid_in c.args.self.now.area)) false, ap length c.args.self.now.crossed) in
          w.mark_reached.ensures.marked column within ∙ ap (λ (l : List ℤ). list_any (int_le (line c.args.self.now.across.now (column + 1))) (take (column + 1) l)) w.deref.ensures.value
          ∙ w.in_ok-ends-in-Rects.ensures.reached column inside)))
    ]
