use Rattle.std.proofs.Common.{◌≡◌, ◌+◌, ◌<◌, ◌∙◌, All, List, ℕ, drop, length, arith, length-take, subst, sym}
use Rattle.close_rects.specs.Crowds.{places_from}
use Rattle.close_rects.proofs.Gathering.{rows-more}
use Rattle.close_rects.proofs.Placing.{StandFrom-drop, places-within}
use Rattle.close_rects.proofs.crowding.rows.Goals as goal

pub add_pairs-requires-clause-within : goal.add_pairs-requires-clause-within
add_pairs-requires-clause-within c =
    let here = rw c.members-in-loop-row.ensures.is at c.at-number.ensures.is in
    let P : List ℕ → Type 0 = λ places. All (λ place. place < length c.args.crowd.now.members) places in
    rw c.members-in-loop-row-2.ensures.is (subst P (sym (c.as_slice.ensures.value ∙ c.in_ok-places.ensures c.at-number.result here))
    (places-within c.args.crowd.now.members (c.loop-row.row + 1) c.at-number.result (drop (c.loop-row.row + 1) c.args.crowd.now.members)
    (StandFrom-drop c.args.crowd.now.members (c.loop-row.row + 1))))

pub loop-row-preserved : goal.loop-row-preserved
loop-row-preserved c =
    let here = rw c.members-in-loop-row.ensures.is at c.at-number.ensures.is in
    let places : c.as_slice.result.now ≡ places_from (c.loop-row.row + 1) c.at-number.result (drop (c.loop-row.row + 1) c.args.crowd.now.members) =
    c.as_slice.ensures.value ∙ c.in_ok-places.ensures c.at-number.result here in
    record {
      room = rw c.in_ok-add_pairs.ensures (omega (arith, length-take {A = ℕ × ℕ}));
      rest = rows-more c.args.crowd.now.members c.args.most c.loop-row.row c.at-number.result c.loop-row.pairs.items _ here
          (rw (places, c.members-in-loop-row-2.ensures.is) at c.in_ok-add_pairs.ensures) c.loop-row.invariant.rest;
    }
