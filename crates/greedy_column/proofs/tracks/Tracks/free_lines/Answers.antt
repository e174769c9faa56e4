use Rattle.greedy_column.proofs.tracks.Tracks.free_lines.Goals as goal

pub invariant_of-result : goal.invariant_of-result
invariant_of-result c = record { on_tracks = c.in_ok-list.ensures.are; ascending = c.in_ok-list.ensures.ascending }
