use Rattle.close_rects.proofs.items.Items.numbered.Goals as goal
use Rattle.std.proofs.Common.{◌≡◌, ◌+◌, ◌∷◌, [], ◌++◌, ◌∙◌, ap, length, map, take, arith}
use Rattle.std.specs.List.{enumerate_from}
use Rattle.std.proofs.lemmas.List.{length_push, map-append}
use Rattle.close_rects.specs.Items.{fresh, HasInside}
use Rattle.std_laws.proofs.Images.{enumerate_from-take}
use Rattle.std_laws.proofs.Places.{get_or-more}

pub loop-k-preserved : goal.loop-k-preserved
loop-k-preserved c =
    let more : map fresh (enumerate_from 0 (take (c.loop-k.k + 1) c.args.rects.now))
    ≡ map fresh (enumerate_from 0 (take c.loop-k.k c.args.rects.now)) ++ fresh (c.loop-k.k, c.index-rects-k.result) ∷ [] =
    ap (map fresh) (enumerate_from-take c.args.rects.now c.loop-k.k c.index-rects-k.result c.loop-k-test.true c.index-rects-k.is)
    ∙ map-append fresh (enumerate_from 0 (take c.loop-k.k c.args.rects.now)) ((c.loop-k.k, c.index-rects-k.result) ∷ []) in
    record {
      len = omega (arith, ap length c.in_ok-push.ensures.items, length_push c.loop-k.list.items);
      numbered = cc (c.in_ok-push.ensures.items, c.fresh.ensures.made);
      inside = get_or-more HasInside c.args.rects.now c.loop-k.k c.index-rects-k.result c.loop-k-test.true c.index-rects-k.is
          c.fresh.ensures.inside c.loop-k.invariant.inside;
    }
