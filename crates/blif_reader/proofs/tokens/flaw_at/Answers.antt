use Rattle.std.proofs.Common.{sym, ◌∙◌, eqb-true, length}
use borrow.Author.Tests.{eqb-false}
use Rattle.blif_reader.proofs.Lexing.{flaw-none, flaw-some}
use Rattle.blif_reader.proofs.tokens.flaw_at.Goals as goal

pub returns-then-is_empty : goal.returns-then-is_empty
returns-then-is_empty c = sym (flaw-none c.args.bytes.now (eqb-true (length c.args.bytes.now) 0 (sym c.is_empty.ensures ∙ c.if-is_empty.true)))

pub returns : goal.returns
returns c = sym (flaw-some c.args.bytes.now c.requires (eqb-false (length c.args.bytes.now) 0 (sym c.is_empty.ensures ∙ c.if-is_empty.false)))
