use Rattle.std.proofs.Common.{◌≡◌, ◌+◌, List, rules, subst, sym}
use Rattle.greedy_column.specs.declared.column.Track.{Track}
use Rattle.greedy_column.specs.Replay.{free_tracks}
use Rattle.greedy_column.specs.State.{IsState}
use Rattle.greedy_column.proofs.StateLaws.{IsState-first}
use Rattle.greedy_column.proofs.column.ColumnState.new.Goals as goal

pub returns-clause-state : goal.returns-clause-state
returns-clause-state c = λ pins.
    let all : c.new.result ≡ free_tracks c.args.begun = search rules in
    subst (λ (l : List Track). IsState pins (record { order = l; fresh = c.args.begun + 1 })) (sym all) (IsState-first c.args.begun pins)
