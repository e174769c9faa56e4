use Rattle.std.proofs.Common.{◌≡◌, ◌<◌, ◌≤◌, ◌+◌, ◌-◌, ◌*◌, ℕ, suc, List, [], ◌∷◌, length, ap, arith, Contains, inl, inr, ◌⊎◌}
use Rattle.std.proofs.lemmas.Bool.{cases_lt}
use Rattle.channel_model.specs.Pins.{Pins}
use Rattle.greedy_column.specs.declared.column.Track.{Track}
use Rattle.greedy_column.specs.declared.column.Made.{Made}
use Rattle.greedy_column.specs.declared.column.Column.{Column}
use Rattle.greedy_column.specs.Replay.{after, replay_from}
use Rattle.greedy_column.specs.Lawful.{IsLawful, AreMadeFrom}
use Rattle.greedy_column.specs.State.{AreNumbered}
use Rattle.greedy_column.specs.Fair.{AllFair}
use Rattle.greedy_column.proofs.NoPinLaws.{no_pins, no_pins-made}
use Rattle.greedy_router.proofs.OrderLaws.{AreNumbered-after}
use Rattle.std_laws.proofs.Members.{member-head, member-tail}

-- a column makes at most two tracks
few_made : (top bottom fresh count : ℕ) (made : List Made) → AreMadeFrom fresh count made
    → ((m : Made) → Contains made m → (m.id ≡ top) ⊎ (m.id ≡ bottom)) → length made ≤ 2
few_made top bottom fresh count [] placed entered = omega arith
few_made top bottom fresh count (l ∷ []) placed entered = omega arith
few_made top bottom fresh count (l ∷ (m ∷ [])) placed entered = omega arith
few_made top bottom fresh count (l ∷ (m ∷ (n ∷ made))) placed entered =
    let one = entered l (member-head l (m ∷ (n ∷ made))) in
    let two = entered m (member-tail l (m ∷ (n ∷ made)) m (member-head m (n ∷ made))) in
    let three = entered n (member-tail l (m ∷ (n ∷ made)) n (member-tail m (n ∷ made) n (member-head n made))) in
    let first = placed.0 in
    let second = placed.2.0 in
    let third = placed.2.2.0 in
    absurd (omega arith)

pub made-few : (pins : Pins) (column fresh : ℕ) (before : List Track) (done : Column) → IsLawful pins column fresh before done → length done.made ≤ 2
made-few pins column fresh before done lawful = few_made done.top done.bottom fresh (length before) done.made lawful.made lawful.made_entered

-- the first new id after some columns
abbrev pub fresh_after : ℕ → List Column → ℕ
fresh_after fresh [] = fresh
fresh_after fresh (done ∷ columns) = fresh_after (fresh + length done.made) columns

-- two ids at most are given in each of a channel's columns, and none past its end
pub fresh_after-few : (pins : Pins) (column fresh : ℕ) (before : List Track) (columns : List Column) → length pins.top ≡ length pins.bottom
    → 0 < fresh → AllFair pins column fresh before columns → fresh_after fresh columns ≤ fresh + 2 * (length pins.top - column)
fresh_after-few pins column fresh before [] matched some fair = omega arith
fresh_after-few pins column fresh before (done ∷ columns) matched some fair =
    let rest = fresh_after-few pins (suc column) (fresh + length done.made) (after pins column done before) columns matched (omega (arith, some)) fair.1 in
    elim (cases_lt column (length pins.top)) [
      | inl inside ↦ let few = made-few pins column fresh before done fair.0.lawful in omega (arith, rest, few, inside)
      | inr past ↦
          let none = no_pins pins column matched past in
          let made = ap length (no_pins-made pins column fresh before done some fair.0.lawful none.0 none.1) in
          omega (arith, rest, made, past)
    ]

-- after some columns the tracks are numbered
pub AreNumbered-replay_from : (pins : Pins) (column fresh : ℕ) (before : List Track) (columns : List Column) → AreNumbered fresh before
    → AllFair pins column fresh before columns → AreNumbered (fresh_after fresh columns) (replay_from pins column before columns)
AreNumbered-replay_from pins column fresh before [] numbered fair = numbered
AreNumbered-replay_from pins column fresh before (done ∷ columns) numbered fair =
    AreNumbered-replay_from pins (suc column) (fresh + length done.made) (after pins column done before) columns
    (AreNumbered-after pins column fresh before done numbered fair.0) fair.1
