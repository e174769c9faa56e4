use Rattle.std.proofs.lemmas.List.Sums.{prefix_len-le-length}
use Rattle.blif_reader.specs.Words.{is_no_equals}
use Rattle.blif_reader.proofs.words.pin_of.Goals as goal

pub split_at-requires : goal.split_at-requires
split_at-requires c = rw c.terminal_len.ensures (prefix_len-le-length is_no_equals c.args.word.text.now)
