use Rattle.std.proofs.Common.{◌∙◌, List, subst}
use Rattle.choose_core.specs.declared.candidate.Candidate.{Candidate}
use Rattle.greedy_column.proofs.moment.Moment.pick_from.Goals as goal

pub returns : goal.returns
returns g c = (
  c.choose.result,
  subst (λ (l : List Candidate). g.C.Chooses.answers c.args.self.now.chooser.now l c.choose.result) (c.deref.ensures.value ∙ c.in_ok-offers.ensures)
      c.choose.ensures.answer,
  c.line_at.ensures,
)
