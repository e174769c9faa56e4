use Rattle.std.proofs.lemmas.List.Sums.{prefix_len-le-length}
use Rattle.command_words.specs.Boxes.{is_no_point}
use Rattle.command_words.proofs.box_word.size_of.Goals as goal

pub split_at-requires : goal.split_at-requires
split_at-requires c = rw c.whole_len.ensures (prefix_len-le-length is_no_point c.args.text.now)
