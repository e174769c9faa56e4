use Rattle.std.proofs.Common.{◌≡◌, ◌∙◌, ap, rules, subst}
use Rattle.greedy_column.specs.Lines.{AreTracks, id_on}
use Rattle.greedy_column.specs.Tracks.{ids, hold, line_of}
use Rattle.greedy_column.proofs.PlacedLaws.{hold-found}
use Rattle.greedy_column.proofs.tracks.Tracks.hold.Goals as goal

pub returns-clause-held : goal.returns-clause-held
returns-clause-held c =
    let tracks = c.args.self.now in
    let line : c.line_in-line.result ≡ line_of (ids tracks) c.args.id = search rules in
    c.give-before.ensures.given ∙ ap (λ n. hold (id_on tracks n) c.args.net tracks) line
    ∙ hold-found tracks c.args.id c.args.net (subst AreTracks c.self.view_is c.self.invariant)
