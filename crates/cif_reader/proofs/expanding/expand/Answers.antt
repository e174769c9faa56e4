use Rattle.std.proofs.Common.{◌∙◌, ap, sym, Ok}
use Rattle.cif_text.proofs.DrawnLaws.{meaning-drawn}
use Rattle.cif_reader.proofs.AgreementLaws.{expansion-means}
use Rattle.cif_reader.proofs.WithinLaws.{expansion-within}
use Rattle.cif_reader.proofs.ExpandLemmas.{up-to-next, refused-at, expanded}
use Rattle.cif_reader.proofs.expanding.expand.Goals as goal

pub returns-in-Err-clause-expands : goal.returns-in-Err-clause-expands
returns-in-Err-clause-expands c =
    rw c.fault_at.ensures (refused-at c.args.commands.now c.loop-command.standing c.loop-command.at c.loop-command.rest.now c.in-Some.after.now c.in-Some.command.now
    c.in-Err.refusal c.loop-command.invariant c.in-Some.ensures.cases.0 c.in-Err.ensures)

pub loop-command-preserved : goal.loop-command-preserved
loop-command-preserved c =
    up-to-next c.args.commands.now c.loop-command.standing c.step.new.standing c.loop-command.at c.loop-command.rest.now c.in-Some.after.now c.in-Some.command.now
    c.loop-command.invariant c.in-Some.ensures.cases.0 c.in-Ok.ensures

pub returns-clause-expands : goal.returns-clause-expands
returns-clause-expands c =
    expanded c.args.commands.now c.loop-command.standing c.loop-command.at c.loop-command.rest.now c.loop-command.invariant c.in_default.ensures.cases
    ∙ ap (λ l. Ok l) (sym c.layout_of.ensures)

pub returns-clause-within : goal.returns-clause-within
returns-clause-within c =
    expansion-within c.args.commands.now c.layout_of.result c.requires.sound
    (expanded c.args.commands.now c.loop-command.standing c.loop-command.at c.loop-command.rest.now c.loop-command.invariant c.in_default.ensures.cases
    ∙ ap (λ l. Ok l) (sym c.layout_of.ensures))

pub returns-clause-drawn : goal.returns-clause-drawn
returns-clause-drawn c =
    meaning-drawn c.args.commands.now c.layout_of.result
    (expansion-means c.args.commands.now c.layout_of.result
    (expanded c.args.commands.now c.loop-command.standing c.loop-command.at c.loop-command.rest.now c.loop-command.invariant c.in_default.ensures.cases
    ∙ ap (λ l. Ok l) (sym c.layout_of.ensures)))
