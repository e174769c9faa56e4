use Rattle.layout_picture.proofs.legend.append_entry.Goals as goal
use Rattle.layout_picture.specs.Legend.{entry_text}

pub returns : goal.returns
unfolding entry_text
returns g c = rw c.word_of.ensures at c.append_pieces.ensures
