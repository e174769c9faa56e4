use Rattle.std.proofs.Common.{◌≡◌, [], append_assoc}
use Rattle.std.proofs.lemmas.List.{nil_from_length}
use Rattle.shelf_io.proofs.WroteLaws.{writes-none}
use Rattle.shelf_io.proofs.WritesLaws.{writes-both, writes-stopped}
use Rattle.yal_writer.specs.ParentText.{statement, word_end}
use Rattle.yal_writer.proofs.printing.+append_words.Goals as goal

pub returns-in_default : goal.returns-in_default
returns-in_default g t c =
    let none : c.args.words.now ≡ [] = nil_from_length c.args.words.now c.in_default.ensures.cases in
    rw none (writes-none _ c.args.buffer.now _ _ (g.met.K.Sink.place_here c.args.out.now) (g.met.K.Sink.same_here c.args.out.now))

pub returns-in_err-append_both : goal.returns-in_err-append_both
returns-in_err-append_both g t c =
    let after = c.in-Some.after.now in
    rw (c.in-Some.ensures.cases.0, ← append_assoc c.in-Some.word.now (word_end after) (statement after))
    (writes-stopped c.from_residual.result (statement after) c.from_residual.ensures.0 (rw (c.items.ensures, c.word_end.ensures) at c.in_err-append_both.ensures))

pub returns : goal.returns
returns g t c =
    let after = c.in-Some.after.now in
    rw (c.in-Some.ensures.cases.0, ← append_assoc c.in-Some.word.now (word_end after) (statement after))
    (writes-both c.append_words.result (g.met.K.Sink.place_then _ _ _) (g.met.K.Sink.same_then _ _ _) (rw (c.items.ensures, c.word_end.ensures) at c.in_ok-append_both.ensures) c.append_words.ensures)
