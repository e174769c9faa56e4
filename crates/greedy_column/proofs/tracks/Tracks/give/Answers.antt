use Rattle.std.proofs.Common.{◌≡◌, List, ap, arith, length, subst, sym}
use Rattle.greedy_column.specs.declared.column.Track.{Track}
use Rattle.greedy_column.specs.Lines.{AreTracks, id_on}
use Rattle.greedy_column.proofs.PlacedLaws.{AreTracks-hold, length-hold, written_whole}
use Rattle.greedy_column.proofs.tracks.Tracks.give.Goals as goal

pub invariant_of-self : goal.invariant_of-self
invariant_of-self c =
    let tracks = c.deref_mut.result.now in
    let given : List Track = c.give.new.tracks in
    let id = id_on tracks c.args.line in
    let are : AreTracks given =
    subst AreTracks (sym c.give.ensures.given) (AreTracks-hold id c.args.net tracks (subst AreTracks (sym c.deref_mut.ensures.value) c.self.invariant)) in
    let long : length given ≡ c.self.inside.list.len =
    omega (arith, ap (λ (l : List Track). length l) c.give.ensures.given, length-hold id c.args.net tracks, c.deref_mut.ensures.len) in
    rw (written_whole c.self.inside.list.len given c.self.inside.list.items long) are
