use Rattle.std.proofs.Common.{◌≡◌, ◌+◌, ◌∷◌, ◌++◌, ◌∙◌, [], cond, not, eqb, ℕ, suc, List, length, refl, sym, subst, ap, rules, arith}
use Rattle.std.proofs.lemmas.List.{nil_from_length}
use Rattle.greedy_column.specs.declared.column.Track.{Track}
use Rattle.greedy_column.specs.declared.span.Span.{Span}
use Rattle.greedy_column.specs.Uses.{next_after}
use Rattle.greedy_column.specs.Desk.{MarksSplit}
use Rattle.greedy_column.specs.Ending.{AddsEnds, groups, joined_pairs}
use Rattle.greedy_column.specs.Lines.{is_held, lines_from}
use Rattle.greedy_column.proofs.EndLaws.{EndsSoFar, so_far_all, so_far_more, so_far_none}
use Rattle.greedy_column.proofs.moment.Moment.ends_of_groups.Goals as goal

pub loop-track-init : goal.loop-track-init
loop-track-init g c = record {
  counted = ap (λ (l : List Track). 1 + length l) c.list-rest.ensures.list;
  so_far = rw c.new-ending.ensures.items
      (so_far_none (g.C.Chooses.answers c.args.self.now.chooser.now) (next_after c.args.self.now.ahead.now.uses.items c.args.self.now.column) c.args.paired.now.tracks.now
      c.args.spans.now (joined_pairs c.args.spans.now c.args.paired.now.pairs) (lines_from is_held 1 c.list-rest.result.now)
      (ap (lines_from is_held 1) c.list-rest.ensures.list));
}

pub loop-track-preserved : goal.loop-track-preserved
loop-track-preserved g c =
    let may = g.C.Chooses.answers c.args.self.now.chooser.now in
    let next = next_after c.args.self.now.ahead.now.uses.items c.args.self.now.column in
    let tracks = c.args.paired.now.tracks.now in
    let spans = c.args.spans.now in
    let joined : List Span = joined_pairs spans c.args.paired.now.pairs in
    let line : ℕ = c.loop-track.line in
    let t : Track = c.in-Some.track.now in
    let above : List Track = c.in-Some.above.now in
    let here : List ℕ = cond (not (eqb t.net 0)) (line ∷ []) [] in
    let before : List ℕ = c.loop-track.ending.items in
    let after : List ℕ = c.push_ends.new.ending.items in
    let cut : c.loop-track.rest.now ≡ t ∷ above = search rules in
    let one_on : line + 1 ≡ suc line = omega arith in
    let was : EndsSoFar may next tracks spans joined (here ++ lines_from is_held (line + 1) above) before =
    subst (λ (l : List ℕ). EndsSoFar may next tracks spans joined l before)
    (ap (lines_from is_held line) cut ∙ ap (λ n. here ++ lines_from is_held n above) (sym one_on)) c.loop-track.invariant.so_far in
    let adds : AddsEnds may next tracks spans (groups joined here) before after =
    subst (λ (l : List Span). AddsEnds may next tracks spans (groups l here) before after) c.requires.joined
    (c.in_ok-push_ends.ensures spans (subst (λ (l : List Span). MarksSplit spans l c.args.marks.now) c.args.paired.now.neighbours c.requires.marks)) in
    record {
      counted = omega (arith, ap (λ (l : List Track). length l) cut, c.loop-track.invariant.counted);
      so_far = so_far_more may next tracks spans joined here (lines_from is_held (line + 1) above) before after was adds;
    }

pub returns : goal.returns
returns g c =
    let rest : List ℕ = lines_from is_held c.loop-track.line c.loop-track.rest.now in
    let none : rest ≡ [] = ap (lines_from is_held c.loop-track.line) (nil_from_length c.loop-track.rest.now c.in_default.ensures.cases) in
    so_far_all (g.C.Chooses.answers c.args.self.now.chooser.now) (next_after c.args.self.now.ahead.now.uses.items c.args.self.now.column) c.args.paired.now.tracks.now
    c.args.spans.now (joined_pairs c.args.spans.now c.args.paired.now.pairs) rest c.loop-track.ending.items c.args.paired.now.pairs none refl
    c.args.paired.now.neighbours c.loop-track.invariant.so_far
