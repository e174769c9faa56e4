use Rattle.std.proofs.Common.{◌∙◌, Err, inl, inr, ap, sym, refl, arith}
use Rattle.std.proofs.lemmas.Option.{same_Some}
use Rattle.command_words.specs.Command.{Command}
use Rattle.commands.specs.Verdict.{asked_verdict, command_verdict}
use Rattle.command_ends.specs.declared.refusal.Refusal.TheVariants.{Memory, Usage}
use Rattle.command_ends.specs.declared.stop.Stop.TheVariants.{Refused}
use Rattle.commands.proofs.CarriedLaws.{stopped-so}
use Rattle.commands.proofs.doing.carry_out.Goals as goal

pub returns-in-Ok-clause-kept : goal.returns-in-Ok-clause-kept
returns-in-Ok-clause-kept g c = λ command said is says begun.
    let same = same_Some _ command (sym c.in-Ok.ensures.reads ∙ is) in
    rw (← same) (c.obey.ensures.kept said (ap (λ (k : Command). command_verdict k (g.S.Shelf.holds c.args.shelf.now)) same ∙ says) begun)

-- nothing was done for words that are no command, nor where memory ran out
pub returns-in-Err-Usage-clause-carried : goal.returns-in-Err-Usage-clause-carried
returns-in-Err-Usage-clause-carried g c =
    let none = rw c.in-Err-Usage.field-0-is at c.in-Err-Usage.ensures.reads in
    stopped-so _ (Refused Usage) c.args.kept.now.items _ _
    (λ said says. sym (same_Some (Err Usage) said (ap (λ k. asked_verdict k (g.S.Shelf.holds c.args.shelf.now)) (sym none) ∙ says)))
    (λ two. none) (λ is. inl refl) (λ nine. absurd (omega (arith, nine))) c.requires.none refl refl (λ other. refl) (λ command is eight. absurd (omega (arith, eight)))

pub returns-in-Err-Memory-clause-carried : goal.returns-in-Err-Memory-clause-carried
returns-in-Err-Memory-clause-carried g c =
    stopped-so _ (Refused Memory) c.args.kept.now.items _ _ (λ said says. tt)
    (λ two. absurd (omega (arith, two))) (λ is. inr refl) (λ nine. absurd (omega (arith, nine))) c.requires.none refl refl (λ other. refl)
    (λ command is eight. absurd (omega (arith, eight)))
