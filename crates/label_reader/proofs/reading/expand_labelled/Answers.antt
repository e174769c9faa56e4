use Rattle.std.proofs.Common.{false}
use Rattle.cif_reader.proofs.WithinLaws.{sound-each}
use Rattle.label_reader.proofs.WithinLaws.{run-within}
use Rattle.label_reader.proofs.reading.expand_labelled.Goals as goal

pub top_scale-scale-requires : goal.top_scale-scale-requires
top_scale-scale-requires c = sound-each false c.args.commands.now c.requires.sound

pub in_order-requires-clause-sound : goal.in_order-requires-clause-sound
in_order-requires-clause-sound c = sound-each false c.args.commands.now c.requires.sound

pub top_taken-requires-clause-sound : goal.top_taken-requires-clause-sound
top_taken-requires-clause-sound c = sound-each false c.args.commands.now c.requires.sound

pub returns-clause-within : goal.returns-clause-within
returns-clause-within c =
    run-within c.args.commands.now c.top-top.result c.top_scale-scale.result.a c.top_scale-scale.result.b c.args.outline.now c.as_slice-2.result.now
    c.in_ok-expander.expander c.in_ok-expander-2.expander c.end.result c.requires.sound (rw c.new.ensures at c.in_ok-expander.ensures.takes)
    (rw c.at_scale-expander.ensures at c.in_ok-expander-2.ensures.takes) c.end.ensures
