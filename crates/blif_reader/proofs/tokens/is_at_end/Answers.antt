use Rattle.std.proofs.Common.{◌∙◌}
use Rattle.blif_reader.proofs.Lexing.{empty-is}
use Rattle.blif_reader.proofs.tokens.is_at_end.Goals as goal

pub returns : goal.returns
returns c = rw (← c.skip_blanks.ensures.same) (c.is_empty.ensures ∙ empty-is c.skip_blanks.result.now c.skip_blanks.ensures.bare)
