use Rattle.cif_text.proofs.bytes.split_digits.Goals as goal
use Rattle.std.proofs.Common.{sym}
use Rattle.std.proofs.lemmas.List.Sums.{prefix_len-le-length}
use Rattle.std.specs.Char.{is_ascii_digit}
use Rattle.cif_text.proofs.ScanLemmas.{span-parts}

pub split_at-requires : goal.split_at-requires
split_at-requires c = rw c.digits_len.ensures (prefix_len-le-length is_ascii_digit c.args.bytes.now)

pub returns : goal.returns
returns c = rw (c.split_at.ensures.front, c.split_at.ensures.back, c.digits_len.ensures) (sym (span-parts is_ascii_digit c.args.bytes.now))
