use Rattle.layout_picture.proofs.scale.+bar_below.Given as goal

abbrev pub decreases-bar_below : goal.decreases-bar_below
decreases-bar_below l = l.power
