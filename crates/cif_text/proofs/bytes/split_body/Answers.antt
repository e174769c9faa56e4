use Rattle.std.proofs.Common.{sym}
use Rattle.std.proofs.lemmas.List.Sums.{prefix_len-le-length}
use Rattle.cif_text.specs.Bytes.{not_semicolon}
use Rattle.cif_text.proofs.ScanLemmas.{span-parts}
use Rattle.cif_text.proofs.bytes.split_body.Goals as goal

pub split_at-requires : goal.split_at-requires
split_at-requires c = rw c.body_len.ensures (prefix_len-le-length not_semicolon c.args.bytes.now)

pub returns-clause-parts : goal.returns-clause-parts
returns-clause-parts c = rw (c.split_at.ensures.front, c.split_at.ensures.back, c.body_len.ensures) (sym (span-parts not_semicolon c.args.bytes.now))
