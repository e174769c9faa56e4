use Rattle.std.proofs.Common.{ap, sym, ◌∙◌, subst, Bool}
use Rattle.std.specs.Prelude.{is_some}
use Rattle.cif_text.specs.CifReads.{is_open_behind}
use Rattle.cif_text.specs.Sound.{IsInPlace}
use Rattle.cif_reader.specs.Behind.{seen, IsBehind}
use Rattle.cif_reader.specs.Expansion.{Progress, advance}
use Rattle.cif_reader.proofs.ExpanderLaws.{is-open}
use Rattle.cif_reader.proofs.expander.Expander.take.Goals as goal
use Rattle.std_laws.proofs.Options.{ok-and}

pub step-requires-clause-place : goal.step-requires-clause-place
step-requires-clause-place c =
    subst (λ (b : Bool). IsInPlace b c.args.command.now) (ap (λ (p : Progress). is_some p.state.inside) (sym c.self.view_is) ∙ is-open c.self.inside.standing) c.requires

pub returns-in-Ok-clause-inside : goal.returns-in-Ok-clause-inside
returns-in-Ok-clause-inside c =
    let behind = ok-and (advance (seen c.self.inside.standing) c.args.command.now)
    (IsBehind c.step.new.standing (is_open_behind (is_some c.self.inside.standing.definition) c.args.command.now)) c.in-Ok.ensures in
    is-open c.step.new.standing ∙ behind.2.is_open
    ∙ ap (λ (b : Bool). is_open_behind b c.args.command.now)
    (sym (ap (λ (p : Progress). is_some p.state.inside) (sym c.self.view_is) ∙ is-open c.self.inside.standing))
