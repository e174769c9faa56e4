use Rattle.cif_text.proofs.bytes.split_word.Goals as goal
use Rattle.std.proofs.Common.{sym}
use Rattle.std.proofs.lemmas.List.Sums.{prefix_len-le-length}
use Rattle.cif_text.specs.Labels.{is_word}
use Rattle.cif_text.proofs.ScanLemmas.{span-parts}

pub split_at-requires : goal.split_at-requires
split_at-requires c = rw c.word_len.ensures (prefix_len-le-length is_word c.args.text.now)

pub returns : goal.returns
returns c = rw (c.split_at.ensures.front, c.split_at.ensures.back, c.word_len.ensures) (sym (span-parts is_word c.args.text.now))
