use Rattle.greedy_column.proofs.moment.Moment.go_on_paired.Goals as goal
use Rattle.std.proofs.Common.{subst, sym, List, ℕ}
use Rattle.greedy_column.specs.Uses.{next_after}
use Rattle.greedy_column.specs.Replay.{freed}
use Rattle.greedy_column.specs.Follows.{AreEndsTold, AreJoinsTold, AreMovesTold}
use Rattle.greedy_column.proofs.FollowLaws.{FollowsOn-from_told}

pub returns-clause-follows : goal.returns-clause-follows
returns-clause-follows g c =
    let may = g.C.Chooses.answers c.args.self.now.chooser.now in
    let next = next_after c.args.self.now.ahead.now.uses.items c.args.self.now.column in
    let now = c.args.paired.now.tracks.now in
    let drawn = c.in_ok-drawn.drawn.spans.items in
    FollowsOn-from_told c.args.self.now.manner may next now c.args.spans.items drawn c.new.result c.new-2.result c.new-3.result
    (subst (λ (l : List (ℕ × ℕ)). AreJoinsTold may next now c.args.spans.items drawn l) (sym c.new.ensures) c.in_ok-drawn.ensures.joins)
    (subst (λ (l : List ℕ). AreEndsTold may next now drawn l) (sym c.new-2.ensures) c.in_ok-drawn.ensures.ends)
    (subst (λ (l : List ℕ). AreMovesTold c.args.self.now.manner may next now (freed l now) drawn c.new-3.result) (sym c.new-2.ensures)
    (subst (λ (l : List (ℕ × ℕ)). AreMovesTold c.args.self.now.manner may next now (freed c.in_ok-drawn.drawn.ends.ids.items now) drawn l) (sym c.new-3.ensures)
    c.in_ok-carried.ensures.moves))
