use Rattle.std.proofs.Common.{◌∙◌, ◌≤◌, ◌<◌, ◌*◌, ap, sym, arith, length, reverse}
use Rattle.std.proofs.lemmas.List.{length-reverse, reverse-reverse}
use Rattle.std.proofs.lemmas.Result.{IfOk-weaker}
use Rattle.region_cut.specs.Covered.{grid_over}
use Rattle.region_cut.specs.Grids.{blocks_of}
use Rattle.region_cut.specs.Maximal.{rects_from}
use Rattle.region_cut.proofs.CoverLaws.{covers-from}
use Rattle.region_cut.proofs.MaximalLaws.{all-rects}
use Rattle.region_cut.proofs.MergedLaws.{merged-blocks, merged-many, merged-work, work-test}
use Rattle.region_cut.proofs.merging.merge.Goals as goal

pub returns-then-not-is_allowed : goal.returns-then-not-is_allowed
returns-then-not-is_allowed c =
    let rects = c.args.rects.now in
    let stays = merged-work c.args.most rects (work-test c.args.most _ _ rects _ c.strips.ensures c.columns.ensures c.if-not-is_allowed.ensures) in
    record {
      is = IfOk-weaker c.to_vec.result _ _ (λ v equal. equal (λ x y same. same) ∙ stays) c.to_vec.ensures.items_if_clones_equal;
      covers =
          IfOk-weaker c.to_vec.result _ _ (λ v equal. covers-from c.args.most rects v.items c.in_ok-across.ensures.areas (equal (λ x y same. same) ∙ stays))
          c.to_vec.ensures.items_if_clones_equal;
    }

pub returns-in-Ok : goal.returns-in-Ok
returns-in-Ok c =
    let rects = c.args.rects.now in
    let test = work-test c.args.most _ _ rects _ c.strips.ensures c.columns.ensures c.if-not-is_allowed.ensures in
    let found = c.in-Ok.ensures.found in
    let long = ap length found ∙ length-reverse (rects_from (grid_over rects) 0) in
    let all = ap length (all-rects (grid_over rects)) in
    let few : length (blocks_of (grid_over rects)) ≤ 2 * length rects = omega (arith, long, all, c.in-Ok.found.few, c.in-Ok.ensures.most) in
    let are =
    c.reverse.ensures.items ∙ ap reverse found ∙ reverse-reverse (rects_from (grid_over rects) 0) ∙ sym (all-rects (grid_over rects)) ∙ merged-blocks c.args.most rects test few in
    record { is = are; covers = covers-from c.args.most rects _ c.in_ok-across.ensures.areas are }

pub returns-in-Err-TooMany : goal.returns-in-Err-TooMany
returns-in-Err-TooMany c =
    let rects = c.args.rects.now in
    let many = c.in-Err-TooMany.ensures.many (cc) in
    let all = ap length (all-rects (grid_over rects)) in
    let more : 2 * length rects < length (blocks_of (grid_over rects)) = omega (arith, all, many) in
    let stays = merged-many c.args.most rects more in
    record {
      is = IfOk-weaker c.to_vec-in-Err-TooMany.result _ _ (λ v equal. equal (λ x y same. same) ∙ stays) c.to_vec-in-Err-TooMany.ensures.items_if_clones_equal;
      covers =
          IfOk-weaker c.to_vec-in-Err-TooMany.result _ _ (λ v equal. covers-from c.args.most rects v.items c.in_ok-across.ensures.areas (equal (λ x y same. same) ∙ stays))
          c.to_vec-in-Err-TooMany.ensures.items_if_clones_equal;
    }
