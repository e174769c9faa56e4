use Rattle.std.proofs.Common.{◌≡◌, ◌∷◌, ◌≤◌, [], cond, eqb, Bool, true, false, List, length, ap, rules, arith}
use Rattle.std.proofs.lemmas.List.{nil_from_length}
use Rattle.std.proofs.lemmas.List.Sums.{sum_by-cons}
use Rattle.std.specs.List.{count_by}
use Rattle.greedy_column.specs.declared.column.Track.{Track}
use Rattle.greedy_column.proofs.tracks.Tracks.held.Goals as goal

one_most : (b : Bool) → cond b 1 0 ≤ 1
one_most true = omega arith
one_most false = omega arith

pub loop-track-init : goal.loop-track-init
loop-track-init c = record {
  few = omega (arith, ap (λ (l : List Track). length l) c.list-rest.ensures.list);
  so_far = omega (arith, ap (λ (l : List Track). count_by (λ (t : Track). eqb t.net c.args.net) l) c.list-rest.ensures.list);
}

pub loop-track-preserved : goal.loop-track-preserved
loop-track-preserved c =
    let own : Track → Bool = λ t. eqb t.net c.args.net in
    let t : Track = c.in-Some.track.now in
    let above : List Track = c.in-Some.above.now in
    let cut : c.loop-track.rest.now ≡ t ∷ above = search rules in
    let one : c.one_where-held.result ≡ cond (own t) 1 0 = search rules in
    record {
      few = omega (arith, ap (λ (l : List Track). length l) cut, c.loop-track.invariant.few, one, one_most (own t));
      so_far = omega (
        arith,
        c.loop-track.invariant.so_far,
        ap (λ (l : List Track). count_by own l) cut,
        sum_by-cons (λ (u : Track). cond (own u) 1 0) t above,
        one,
      );
    }

pub returns : goal.returns
returns c =
    let own : Track → Bool = λ t. eqb t.net c.args.net in
    let none : c.loop-track.rest.now ≡ [] = nil_from_length c.loop-track.rest.now c.in_default.ensures.cases in
    omega (arith, c.loop-track.invariant.so_far, ap (λ (l : List Track). count_by own l) none)
