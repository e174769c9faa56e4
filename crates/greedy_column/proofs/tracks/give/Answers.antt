use Rattle.greedy_column.proofs.PlacedLaws.{hold-past, held-past, hold-placed, held-placed}
use Rattle.greedy_column.proofs.tracks.give.Goals as goal

pub returns-then-place-tracks-clause-given : goal.returns-then-place-tracks-clause-given
returns-then-place-tracks-clause-given c =
    let tracks = c.args.tracks.now in
    rw (← c.saturating_sub-place.ensures) (hold-past tracks c.requires c.saturating_sub-place.result c.args.net c.if-place-tracks.true)

pub returns-then-place-tracks-clause-held : goal.returns-then-place-tracks-clause-held
returns-then-place-tracks-clause-held c =
    let tracks = c.args.tracks.now in
    rw (← c.saturating_sub-place.ensures) (held-past tracks c.requires c.saturating_sub-place.result c.if-place-tracks.true)

pub returns-clause-given : goal.returns-clause-given
returns-clause-given c =
    let tracks = c.args.tracks.now in
    rw (← c.saturating_sub-place.ensures) (hold-placed tracks c.requires c.saturating_sub-place.result c.args.net c.if-place-tracks.false)

pub returns-clause-held : goal.returns-clause-held
returns-clause-held c =
    let tracks = c.args.tracks.now in
    rw (← c.saturating_sub-place.ensures) (held-placed tracks c.requires c.saturating_sub-place.result c.if-place-tracks.false)
