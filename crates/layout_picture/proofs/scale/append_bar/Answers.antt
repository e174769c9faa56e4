use Rattle.layout_picture.proofs.scale.append_bar.Goals as goal
use Rattle.layout_picture.specs.Scale.{bar_text}

pub returns : goal.returns
unfolding bar_text
returns g c = c.append_pieces.ensures
