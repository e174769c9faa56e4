use Rattle.shelf_io.proofs.line.+append_line.Goals as goal
use Rattle.std.proofs.Common.{◌≡◌, ◌++◌, List, ℕ, [], map, false, true}
use Rattle.std.proofs.lemmas.List.{nil_from_length}
use Rattle.shelf_io.specs.Lines.{line, word_end, word_text}
use Rattle.shelf_io.proofs.WroteLaws.{failed-before, failed-behind, writes-failed, writes-none, writes-then, wrote-then}

pub returns-in_err-append_word : goal.returns-in_err-append_word
returns-in_err-append_word g t c =
    let after : List (List ℕ) = map word_text c.in-Some.after.now in
    let word : List ℕ = word_text c.in-Some.word.now in
    rw c.in-Some.ensures.cases.0
    (writes-failed c.from_residual.result c.from_residual.ensures.0 c.in_err-append_word.ensures.place
    (failed-before (word ++ word_end after) (line after) c.args.buffer.now
    (failed-before word (word_end after) c.args.buffer.now c.in_err-append_word.ensures.failed)))

pub returns-in_err-append : goal.returns-in_err-append
returns-in_err-append g t c =
    let after : List (List ℕ) = map word_text c.in-Some.after.now in
    let word : List ℕ = word_text c.in-Some.word.now in
    let one = c.in_ok-append_word.ensures in
    let two = c.in_err-append.ensures in
    rw c.in-Some.ensures.cases.0
    (writes-failed c.from_residual-in_err-append.result c.from_residual-in_err-append.ensures.0 (g.met.K.Sink.place_then _ _ _ one.place two.place)
    (failed-before (word ++ word_end after) (line after) c.args.buffer.now
    (failed-behind (word_end after) (g.met.K.Sink.same_then _ _ _ false) one.wrote (rw c.word_end.ensures at two.failed))))

pub returns-in_default : goal.returns-in_default
returns-in_default g t c =
    let none : c.args.words.now ≡ [] = nil_from_length c.args.words.now c.in_default.ensures.cases in
    rw none (writes-none _ c.args.buffer.now _ _ (g.met.K.Sink.place_here c.args.out.now) (g.met.K.Sink.same_here c.args.out.now))

pub returns : goal.returns
returns g t c =
    let one = c.in_ok-append_word.ensures in
    let two = c.in_ok-append.ensures in
    let last = c.append_line.ensures in
    rw c.in-Some.ensures.cases.0
    (writes-then c.append_line.result
    (g.met.K.Sink.place_then _ _ _ (g.met.K.Sink.place_then _ _ _ one.place two.place)) (g.met.K.Sink.same_then _ _ _)
    (wrote-then (g.met.K.Sink.same_then _ _ _ true) one.wrote (rw c.word_end.ensures at two.wrote)) last)
