use Rattle.std.proofs.Common.{sym, ◌∙◌}
use Rattle.std.proofs.lemmas.List.Sums.{prefix_len-le-length}
use Rattle.blif_reader.proofs.Lexing.{word-found, word-none}
use Rattle.blif_reader.specs.Tokens.{is_word_byte}
use Rattle.blif_reader.proofs.tokens.word_at.Goals as goal

pub returns-then-len-eq0-clause-gives : goal.returns-then-len-eq0-clause-gives
returns-then-len-eq0-clause-gives c =
    rw (← c.skip_blanks-rest.ensures.same, c.flaw_at.ensures)
    (word-none c.skip_blanks-rest.result.now c.skip_blanks-rest.ensures.bare (sym c.word_len-len.ensures ∙ c.if-len-eq0.true))

pub split_at-requires : goal.split_at-requires
split_at-requires c = rw c.word_len-len.ensures (prefix_len-le-length is_word_byte c.skip_blanks-rest.result.now)

pub returns-clause-gives : goal.returns-clause-gives
returns-clause-gives c =
    rw (← c.skip_blanks-rest.ensures.same, c.split_at.ensures.front, c.split_at.ensures.back, c.word_len-len.ensures)
    (word-found c.skip_blanks-rest.result.now (λ none. c.if-len-eq0.false (c.word_len-len.ensures ∙ none)))
