use Rattle.std.proofs.Common.{◌≡◌, ◌++◌, ◌∷◌, [], ◌∙◌, ap, subst, rules, List, map}
use Rattle.greedy_column.specs.declared.column.Track.{Track}
use Rattle.greedy_column.specs.declared.span.Span.{Span}
use Rattle.greedy_column.specs.Uses.{next_after}
use Rattle.greedy_column.specs.Lines.{net_on}
use Rattle.greedy_column.specs.Moving.{GoesTo, move_ids, move_options, others_of_net}
use Rattle.greedy_column.specs.Tracks.{ids}
use Rattle.greedy_column.proofs.IdLaws.{ids-moved}
use Rattle.greedy_column.proofs.MoveLaws.{carried_on, moves_done, moves_go}
use Rattle.greedy_column.proofs.moment.Moment.move_all.Goals as goal

pub loop-line-preserved : goal.loop-line-preserved
loop-line-preserved g c =
    let may = g.C.Chooses.answers c.args.self.now.chooser.now in
    let next = next_after c.args.self.now.ahead.now.uses.items c.args.self.now.column in
    let line = c.in-Some.line.now in
    let later = c.in-Some.later.now in
    let tracks = c.args.tracks.now in
    let kept : List Track = c.loop-line.kept in
    let target = c.in_ok-target.target in
    let free = c.loop-line.free in
    let spans = c.loop-line.spans.items in
    let net = net_on tracks line in
    let cut : c.loop-line.rest.now ≡ line ∷ later = search rules in
    let goes : GoesTo may (next net) (others_of_net tracks kept line) line (move_options spans net line free) target =
    subst (λ (l : List Span). GoesTo may (next net) (others_of_net tracks kept line) line (move_options l net line free) target) c.deref.ensures.value
    c.in_ok-target.ensures in
    let told : c.push.new.self.items ≡ c.loop-line.moves.items ++ (line, target) ∷ [] = search rules in
    let so_far = (rw cut at c.loop-line.invariant).so_far in
    rw (c.in_ok-go_to.ensures.spans, c.in_ok-go_to.ensures.free, told, c.in_ok-go_to.ensures.kept) (record {
      carried = carried_on tracks c.args.kept.now kept c.loop-line.moves.items line target c.loop-line.invariant.carried;
      so_far = moves_go may next tracks c.args.kept.now kept c.args.lines.now later c.args.spans.now.items spans c.args.free free c.loop-line.moves.items
          line target goes c.if-target-line.false so_far;
    })

pub go_to-requires : goal.go_to-requires
go_to-requires g c = ap ids c.loop-line.invariant.carried ∙ ids-moved (map (move_ids c.args.tracks.now) c.loop-line.moves.items) c.args.kept.now ∙ c.requires

pub returns-clause-moves : goal.returns-clause-moves
returns-clause-moves g c =
    moves_done (g.C.Chooses.answers c.args.self.now.chooser.now) (next_after c.args.self.now.ahead.now.uses.items c.args.self.now.column) c.args.tracks.now c.args.kept.now
    c.loop-line.kept c.args.lines.now c.loop-line.rest.now c.args.spans.now.items c.loop-line.spans.items c.args.free c.loop-line.free
    c.loop-line.moves.items (search rules) c.loop-line.invariant.so_far
