use Rattle.std.proofs.Common.{◌∙◌, ap, map, subst, List}
use Rattle.std.proofs.lemmas.Result.{IfOk-weaker}
use Rattle.greedy_column.specs.declared.span.Span.{Span}
use Rattle.greedy_column.specs.Uses.{next_after}
use Rattle.greedy_column.specs.Joining.{JoinsFollow, ids_of}
use Rattle.greedy_column.proofs.moment.Moment.joins_of.Goals as goal

pub returns : goal.returns
returns g c =
    let may = g.C.Chooses.answers c.args.self.now.chooser.now in
    let next = next_after c.args.self.now.ahead.now.uses.items c.args.self.now.column in
    let joined = c.in_ok-joined.joined.items in
    IfOk-weaker c.join_ids.result _ _ (λ joins is. record {
      joined = joined;
      follow = subst (λ (l : List Span). JoinsFollow may next l c.args.spans.now.items joined) c.args.paired.now.neighbours c.in_ok-joined.ensures.joins;
      grown = c.in_ok-joined.ensures.spans;
      told = is ∙ ap (λ (l : List Span). map (ids_of c.args.paired.now.tracks.now) l) c.deref.ensures.value;
    }) c.join_ids.ensures
