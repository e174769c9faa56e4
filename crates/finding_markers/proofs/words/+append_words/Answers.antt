use Rattle.finding_markers.proofs.words.+append_words.Goals as goal
use Rattle.std.proofs.Common.{◌≡◌, ◌++◌, List, ℕ, [], map}
use Rattle.std.proofs.lemmas.List.{nil_from_length}
use Rattle.shelf_io.specs.Lines.{word_text}
use Rattle.shelf_io.proofs.WroteLaws.{writes-none}
use Rattle.shelf_io.proofs.WritesLaws.{writes-both, writes-stopped}
use Rattle.finding_markers.specs.Markers.{gap, words_text}

pub returns-in_err-append_word : goal.returns-in_err-append_word
returns-in_err-append_word g t c =
    let after : List (List ℕ) = map word_text c.in-Some.after.now in
    rw c.in-Some.ensures.cases.0
    (writes-stopped c.from_residual.result (gap after ++ words_text after) c.from_residual.ensures.0 c.in_err-append_word.ensures)

pub returns-in_err-append : goal.returns-in_err-append
returns-in_err-append g t c =
    let after : List (List ℕ) = map word_text c.in-Some.after.now in
    let result = c.from_residual-in_err-append.result in
    rw c.in-Some.ensures.cases.0
    (writes-both result (g.met.K.Sink.place_then _ _ _) (g.met.K.Sink.same_then _ _ _) c.in_ok-append_word.ensures
    (writes-stopped result (words_text after) c.from_residual-in_err-append.ensures.0 (rw c.gap.ensures at c.in_err-append.ensures)))

pub returns-in_default : goal.returns-in_default
returns-in_default g t c =
    let none : c.args.words.now ≡ [] = nil_from_length c.args.words.now c.in_default.ensures.cases in
    rw none (writes-none _ c.args.buffer.now _ _ (g.met.K.Sink.place_here c.args.out.now) (g.met.K.Sink.same_here c.args.out.now))

pub returns : goal.returns
returns g t c =
    let result = c.append_words.result in
    rw c.in-Some.ensures.cases.0
    (writes-both result (g.met.K.Sink.place_then _ _ _) (g.met.K.Sink.same_then _ _ _) c.in_ok-append_word.ensures
    (writes-both result (g.met.K.Sink.place_then _ _ _) (g.met.K.Sink.same_then _ _ _) (rw c.gap.ensures at c.in_ok-append.ensures) c.append_words.ensures))
