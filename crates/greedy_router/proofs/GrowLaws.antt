use Rattle.std.proofs.Common.{◌≤◌, ◌++◌, ℕ, zero, suc, List, [], ◌∷◌, length, ap, arith}
use Rattle.std.specs.List.{insert}
use Rattle.std.proofs.lemmas.List.{length-map}
use Rattle.channel_model.specs.Pins.{Pins}
use Rattle.greedy_column.specs.declared.column.Column.{Column}
use Rattle.greedy_column.specs.declared.column.Made.{Made}
use Rattle.greedy_column.specs.declared.column.Track.{Track}
use Rattle.greedy_column.specs.Replay.{after, replay_from, with_made}
use Rattle.greedy_router.proofs.OrderLaws.{ids-after_made}

-- tracks are never taken away: not by one more, nor by those that a column makes, nor by a column, nor by several
inserted-grows : (tracks : List Track) (place : ℕ) (one : Track) → length tracks ≤ length (insert tracks place one)
inserted-grows [] place one = omega arith
inserted-grows (t ∷ tracks) zero one = omega arith
inserted-grows (t ∷ tracks) (suc place) one = let more = inserted-grows tracks place one in omega (arith, more)

with_made-grows : (tracks : List Track) (made : List Made) → length tracks ≤ length (with_made tracks made)
with_made-grows tracks [] = omega arith
with_made-grows tracks (m ∷ made) =
    let one : Track = record { id = m.id; net = 0 } in
    omega (arith, with_made-grows (insert tracks m.below one) made, inserted-grows tracks m.below one)

after-grows : (pins : Pins) (column : ℕ) (before : List Track) (done : Column) → length before ≤ length (after pins column done before)
after-grows pins column before done =
    let same = ap (λ (l : List ℕ). length l) (ids-after_made pins column before done) in
    omega (
      arith,
      same,
      with_made-grows before done.made,
      length-map (after pins column done before) (λ (t : Track). t.id),
      length-map (with_made before done.made) (λ (t : Track). t.id),
    )

pub replay_from-grows : (pins : Pins) (column : ℕ) (before : List Track) (columns : List Column) → length before ≤ length (replay_from pins column before columns)
replay_from-grows pins column before [] = omega arith
replay_from-grows pins column before (done ∷ columns) =
    omega (arith, after-grows pins column before done, replay_from-grows pins (suc column) (after pins column done before) columns)

pub longer-grows : (pins : Pins) (column : ℕ) (before : List Track) (columns rest : List Column)
    → length (replay_from pins column before columns) ≤ length (replay_from pins column before (columns ++ rest))
longer-grows pins column before [] rest = replay_from-grows pins column before rest
longer-grows pins column before (done ∷ columns) rest = longer-grows pins (suc column) (after pins column done before) columns rest
