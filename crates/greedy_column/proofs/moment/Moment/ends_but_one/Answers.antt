use Rattle.std.proofs.Common.{subst}
use Rattle.std.proofs.lemmas.Result.{IfOk-weaker}
use Rattle.greedy_column.specs.declared.question.Question.{Question}
use Rattle.greedy_column.specs.Lines.{own_lines}
use Rattle.greedy_column.specs.Offers.{IsPicked, keep_question, offer}
use Rattle.greedy_column.proofs.EndLaws.{ends_but_one}
use Rattle.greedy_column.proofs.moment.Moment.ends_but_one.Goals as goal

pub returns : goal.returns
returns g c =
    let group = c.args.group.now in
    let may = g.C.Chooses.answers c.args.self.now.chooser.now in
    let by : IsPicked may (offer (keep_question _ c.args.next) c.in_ok-others.others) group c.in_ok-kept.kept =
    subst (λ (q : Question). IsPicked may (offer q c.in_ok-others.others) group c.in_ok-kept.kept) c.keep_question-question.ensures c.in_ok-kept.ensures.picked in
    IfOk-weaker c.others_of.result _ _ (λ ending is.
    ends_but_one may _ c.args.next (own_lines c.args.net c.args.tracks.now) c.in_ok-others.others group c.in_ok-kept.kept ending.items c.requires.some c.in_ok-others.ensures by is)
    c.others_of.ensures
