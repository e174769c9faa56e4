use Rattle.std.proofs.Common.{◌≡◌, ◌∙◌, ◌&&◌, not, ap, length}
use Rattle.std.proofs.lemmas.Result.{IfOk-weaker}
use Rattle.greedy_column.specs.Uses.{next_after}
use Rattle.greedy_column.specs.Lines.{net_on, own_lines}
use Rattle.greedy_column.specs.Desk.{is_marked}
use Rattle.greedy_column.specs.Ending.{is_given_up}
use Rattle.greedy_column.specs.Entering.{is_ending}
use Rattle.greedy_column.proofs.EndLaws.{ends_same}
use Rattle.greedy_column.proofs.moment.Moment.ends_from.Goals as goal

pub returns : goal.returns
returns g c =
    let line = c.args.line in
    let tracks = c.args.tracks.now in
    let marks = c.args.marks.now in
    let net = net_on tracks line in
    let next = next_after c.args.self.now.ahead.now.uses.items c.args.self.now.column in
    let net_is : c.net_on-net.result ≡ net = c.net_on-net.ensures in
    let ahead_is : c.next-next.result ≡ next net = c.next-next.ensures ∙ ap next net_is in
    let gives : c.gives_up-given_up.result ≡ is_given_up (next net) (is_marked marks net) =
    let last_is : c.is_ending.result ≡ is_ending (next net) = c.is_ending.ensures ∙ ap is_ending ahead_is in
    c.gives_up-given_up.ensures ∙ (λ i. last_is i && not (is_marked marks (net_is i))) in
    IfOk-weaker c.ends_of.result _ _ (λ ending ends.
    ends_same (g.C.Chooses.answers c.args.self.now.chooser.now) (length tracks) c.next-next.result (next net) (own_lines c.net_on-net.result tracks) (own_lines net tracks)
    c.gives_up-given_up.result _ c.in_ok-group.group.items _ ending.items ahead_is (ap (λ n. own_lines n tracks) net_is) gives c.in_ok-group.ensures.group ends) c.ends_of.ensures
