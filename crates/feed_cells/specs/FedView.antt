-- rows with feeds as contracts see them: their items and heights, the greatest width, and the nets of each channel
use Rattle.feed_cells.specs.Fed.{Fed}
use Rattle.feed_cells.specs.declared.fed.FedRows.TheInside.{Inside}

abbrev pub fed_in : Inside → Fed
fed_in a = record { rows = a.rows; heights = a.heights; width = a.width; nets = a.nets }
