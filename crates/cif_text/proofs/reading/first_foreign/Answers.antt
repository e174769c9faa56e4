use Rattle.cif_text.proofs.reading.first_foreign.Goals as goal
use Rattle.std.proofs.Common.{sym, ◌∙◌}
use Rattle.cif_text.specs.Bytes.{is_ascii_byte}
use Rattle.cif_text.proofs.ScanLemmas.{span-length}
use Rattle.std_laws.proofs.Searches.{all-reached, not-all-reached}

pub returns-then-at-bytes : goal.returns-then-at-bytes
returns-then-at-bytes c = all-reached is_ascii_byte c.args.bytes.now (sym c.ascii_len-at.ensures ∙ c.if-at-bytes.true)

pub returns : goal.returns
returns c = (
  not-all-reached is_ascii_byte c.args.bytes.now (λ same. c.if-at-bytes.false (c.ascii_len-at.ensures ∙ same)),
  c.ascii_len-at.ensures ∙ sym (span-length is_ascii_byte c.args.bytes.now),
)
