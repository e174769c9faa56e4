use Rattle.std.proofs.Common.{◌∙◌, sym}
use Rattle.clap.specs.Words.{found_of, rows_of}
use Rattle.command_words.specs.Drawing.{draw_app}
use Rattle.command_words.specs.Seen.{draw_seen}
use Rattle.command_words.proofs.Arguments.{refused-reads, draw-is-free, draw-is-simple, taken-gives}
use Rattle.command_words.proofs.draw.read_draw.Goals as goal

pub matches_in-requires-clause-simple : goal.matches_in-requires-clause-simple
matches_in-requires-clause-simple c = draw-is-simple _ c.in-Ok.ensures

pub matches_in-requires-clause-free : goal.matches_in-requires-clause-free
matches_in-requires-clause-free c = draw-is-free _ c.in-Ok.ensures

pub returns-in-Some : goal.returns-in-Some
returns-in-Some c = taken-gives _ draw_app _ c.args.words.now _ c.in-Ok.ensures c.in-Ok-matches_in.ensures ∙ sym c.in-Some.ensures

pub returns-in-Ok-matches_in : goal.returns-in-Ok-matches_in
returns-in-Ok-matches_in c = taken-gives _ draw_app _ c.args.words.now _ c.in-Ok.ensures c.in-Ok-matches_in.ensures ∙ sym c.in-None.ensures

pub returns : goal.returns
returns c = refused-reads (λ m. rows_of (found_of m)) draw_seen _ draw_app _ c.args.words.now c.in-Err.fault c.in-Ok.ensures c.in-Err.ensures
