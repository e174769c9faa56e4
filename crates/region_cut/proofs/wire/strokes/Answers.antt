use Rattle.std.proofs.Common.{sym, ◌∙◌}
use Rattle.region_cut.proofs.StrokeLaws.{all-made, cover-from, read-strokes, several, single, step-made}
use Rattle.region_cut.proofs.wire.strokes.Goals as goal

pub returns-then-is_empty-clause-is : goal.returns-then-is_empty-clause-is
returns-then-is_empty-clause-is c =
    read-strokes c.args.half c.args.path.now _ c.requires.half
    (single _ c.args.path.now c.in-Some.rest.now c.in-Some.first.now _ _ c.in-Some.ensures.cases.0 (sym c.is_empty.ensures ∙ c.if-is_empty.true) c.stroke.ensures
    (rw c.new-rects.ensures.items at c.in_ok-push.ensures.items))

pub returns-then-is_empty-clause-cover : goal.returns-then-is_empty-clause-cover
returns-then-is_empty-clause-cover c =
    cover-from c.args.half c.args.path.now _ c.requires.wide
    (read-strokes c.args.half c.args.path.now _ c.requires.half
    (single _ c.args.path.now c.in-Some.rest.now c.in-Some.first.now _ _ c.in-Some.ensures.cases.0 (sym c.is_empty.ensures ∙ c.if-is_empty.true) c.stroke.ensures
    (rw c.new-rects.ensures.items at c.in_ok-push.ensures.items)))

pub loop-next-init : goal.loop-next-init
loop-next-init c =
    let all = rw c.in-Some.ensures.cases.0 at c.requires.path in
    record {
      made = rw c.new-rects.ensures.items (several _ c.args.path.now c.in-Some.rest.now c.in-Some.first.now c.in-Some.ensures.cases.0 (sym c.is_empty.ensures ∙ c.if-is_empty.false));
      here = all.0;
      rest = all.1;
    }

pub loop-next-preserved : goal.loop-next-preserved
loop-next-preserved c =
    let all = rw c.in-Some-split_first.ensures.cases.0 at c.loop-next.invariant.rest in
    record {
      made = step-made _ _ _ _ _ _ _ _ _ c.loop-next.invariant.made c.in-Some-split_first.ensures.cases.0 c.stroke-in-Some-split_first.ensures c.in_ok-push-2.ensures.items;
      here = all.0;
      rest = all.1;
    }

pub returns-clause-is : goal.returns-clause-is
returns-clause-is c = read-strokes c.args.half c.args.path.now _ c.requires.half (all-made _ _ _ _ _ c.loop-next.invariant.made c.in_default-split_first.ensures.cases)

pub returns-clause-cover : goal.returns-clause-cover
returns-clause-cover c =
    cover-from c.args.half c.args.path.now _ c.requires.wide
    (read-strokes c.args.half c.args.path.now _ c.requires.half (all-made _ _ _ _ _ c.loop-next.invariant.made c.in_default-split_first.ensures.cases))
