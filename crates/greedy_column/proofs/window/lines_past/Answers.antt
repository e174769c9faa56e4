use Rattle.std.proofs.Common.{◌≡◌, ◌∷◌, [], rules}
use Rattle.std.proofs.lemmas.List.{nil_from_length}
use Rattle.greedy_column.specs.Joining.{is_clear, passes}
use Rattle.greedy_column.specs.Moving.{is_within, piece_between}
use Rattle.greedy_column.proofs.WindowLaws.{whole, past_more, past_all}
use Rattle.greedy_column.proofs.window.lines_past.Goals as goal

pub loop-vertical-init : goal.loop-vertical-init
loop-vertical-init c = λ other fits. whole other (is_clear c.args.spans.now (piece_between c.args.net c.args.line other)) fits

pub loop-vertical-preserved : goal.loop-vertical-preserved
loop-vertical-preserved c = λ other fits.
    let vertical = c.in-Some.vertical.now in
    let later = c.in-Some.others.now in
    let piece = piece_between c.args.net c.args.line other in
    let cut : c.loop-vertical.rest.now ≡ vertical ∷ later = search rules in
    past_more (is_within c.narrowed-window.result other) (is_within c.loop-vertical.window other) (passes piece vertical) (is_clear later piece)
    (is_clear c.args.spans.now piece) (c.narrowed-window.ensures other) (rw cut at (c.loop-vertical.invariant other fits))

pub returns : goal.returns
returns c = λ other fits.
    let none : c.loop-vertical.rest.now ≡ [] = nil_from_length c.loop-vertical.rest.now (search rules) in
    past_all (is_within c.loop-vertical.window other) (is_clear c.args.spans.now (piece_between c.args.net c.args.line other))
    (rw none at (c.loop-vertical.invariant other fits))
