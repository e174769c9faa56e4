use Rattle.std.proofs.lemmas.List.Sums.{prefix_len-le-length}
use Rattle.command_words.specs.Boxes.{is_no_comma}
use Rattle.command_words.proofs.box_word.length_before.Goals as goal

pub split_at-requires : goal.split_at-requires
split_at-requires c = rw c.part_len.ensures (prefix_len-le-length is_no_comma c.args.text.now)
