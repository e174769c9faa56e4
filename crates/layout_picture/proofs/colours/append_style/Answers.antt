use Rattle.layout_picture.proofs.colours.append_style.Goals as goal
use Rattle.layout_picture.specs.Styles.{style_text}

pub returns : goal.returns
unfolding style_text
returns g c = rw c.colour.ensures at c.append_pieces.ensures
