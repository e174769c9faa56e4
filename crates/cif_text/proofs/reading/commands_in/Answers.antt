use Rattle.std.proofs.Common.{sym, arith, append_assoc, [], ◌∷◌, ◌∙◌, length-append}
use Rattle.std.proofs.lemmas.Result.{err_from_is_err_and}
use Rattle.cif_text.proofs.ReadingLaws.{command-shorter, command-stops, command-ends, command-on}
use Rattle.cif_text.proofs.SoundLemmas.{sound-on, sound-end}
use Rattle.cif_text.proofs.reading.commands_in.Goals as goal

pub returns-in_err-command-clause-gives : goal.returns-in_err-command-clause-gives
returns-in_err-command-clause-gives c =
    let p = err_from_is_err_and c.from_residual.result c.from_residual.ensures.1 in
    let stops = rw c.after_between.ensures.rest at c.in_err-command.ensures.gives in
    rw (p.1, p.2) (command-stops c.in_err-command.field-0.0 c.loop-found.found.items c.loop-found.inside c.loop-found.rest.now _ stops c.loop-found.invariant.0)

pub returns-then-ended-clause-gives : goal.returns-then-ended-clause-gives
returns-then-ended-clause-gives c =
    let is = rw c.after_between.ensures.rest at c.in_ok-command.ensures.gives in
    let last = sym c.is_end-ended.ensures ∙ c.if-ended.true in
    rw c.in_ok-push.ensures.items
    (sym c.loop-found.invariant.0 ∙ command-ends c.loop-found.found.items c.loop-found.inside c.loop-found.rest.now c.in_ok-command.command c.in_ok-command.after.now is last)

pub returns-then-ended-clause-sound : goal.returns-then-ended-clause-sound
returns-then-ended-clause-sound c =
    let last = sym c.is_end-ended.ensures ∙ c.if-ended.true in
    rw c.in_ok-push.ensures.items
    (c.loop-found.invariant.1 (c.in_ok-command.command ∷ []) (sound-end c.loop-found.inside c.in_ok-command.command c.in_ok-command.ensures.stands last))

pub returns-then-ended-clause-short : goal.returns-then-ended-clause-short
returns-then-ended-clause-short c =
    let less = command-shorter c.loop-found.inside c.loop-found.rest.now c.in_ok-command.command c.in_ok-command.after.now (rw c.after_between.ensures.rest at c.in_ok-command.ensures.gives) in
    rw c.in_ok-push.ensures.items (omega (arith, less, c.loop-found.invariant.2, length-append c.loop-found.found.items (c.in_ok-command.command ∷ [])))

pub loop-found-smaller : goal.loop-found-smaller
loop-found-smaller c =
    command-shorter c.loop-found.inside c.loop-found.rest.now c.in_ok-command.command c.in_ok-command.after.now (rw c.after_between.ensures.rest at c.in_ok-command.ensures.gives)

pub loop-found-preserved : goal.loop-found-preserved
loop-found-preserved c =
    let is = rw c.after_between.ensures.rest at c.in_ok-command.ensures.gives in
    let more = sym c.is_end-ended.ensures ∙ c.if-ended.false in
    let on = command-on c.loop-found.found.items c.loop-found.inside c.loop-found.rest.now c.in_ok-command.command c.in_ok-command.after.now is more in
    let less = command-shorter c.loop-found.inside c.loop-found.rest.now c.in_ok-command.command c.in_ok-command.after.now is in (
      rw (c.in_ok-push.ensures.items, c.is_open_behind-inside.ensures) (sym on ∙ c.loop-found.invariant.0),
      λ cs sound. rw (c.in_ok-push.ensures.items, append_assoc c.loop-found.found.items (c.in_ok-command.command ∷ []) cs)
          (c.loop-found.invariant.1 (c.in_ok-command.command ∷ cs)
          (sound-on c.loop-found.inside c.in_ok-command.command cs c.in_ok-command.ensures.stands more (rw c.is_open_behind-inside.ensures at sound))),
      rw c.in_ok-push.ensures.items (omega (arith, less, c.loop-found.invariant.2, length-append c.loop-found.found.items (c.in_ok-command.command ∷ []))),
    )
