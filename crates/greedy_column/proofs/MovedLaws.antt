use Rattle.std.proofs.Common.{◌≡◌, ◌⊎◌, inl, inr, ◌<◌, ◌-◌, ℕ, List, length, get_or, sym, subst, ◌∙◌, arith, Contains, refl}
use Rattle.channel_model.specs.Pins.{Pins}
use Rattle.greedy_column.specs.declared.column.Track.{Track}
use Rattle.greedy_column.specs.declared.column.Made.{Made}
use Rattle.greedy_column.specs.declared.column.Column.{Column}
use Rattle.greedy_column.specs.Tracks.{ids}
use Rattle.greedy_column.specs.Replay.{entered, freed}
use Rattle.greedy_column.specs.Lawful.{AreMadeFrom, IsMove}
use Rattle.greedy_column.specs.Lines.{id_on, net_on, free_lines, held_lines}
use Rattle.greedy_column.specs.State.{AreNumbered}
use Rattle.greedy_column.proofs.IdLaws.{Apart}
use Rattle.greedy_column.proofs.TableLaws.{nets, held_by-line, id_on-member}
use Rattle.greedy_column.proofs.EntryLaws.{IsOpenLine-from}
use Rattle.greedy_column.proofs.LawfulLaws.{AreEntered}
use Rattle.greedy_column.proofs.HeldLaws.{was_free}
use Rattle.greedy_column.proofs.GroupLaws.{HoldsLine, Holds-from}
use Rattle.greedy_column.proofs.HeldLineLaws.{kept_at}

-- a kept line and a free one are a move's
pub IsMove-from : (pins : Pins) (column fresh : ℕ) (before : List Track) (done : Column) → AreNumbered fresh before → AreMadeFrom fresh (length before) done.made
    → ((m : Made) → Contains done.made m → (m.id ≡ done.top) ⊎ (m.id ≡ done.bottom)) → AreEntered pins column before done
    → Apart (ids (entered pins column done before)) → (line target : ℕ) → Contains (held_lines (freed done.ended (entered pins column done before))) line
    → Contains (free_lines (entered pins column done before)) target
    → IsMove before (entered pins column done before) done (id_on (entered pins column done before) line) (id_on (entered pins column done before) target)
IsMove-from pins column fresh before done numbered made made_entered entries apart line target from to =
    let now : List Track = entered pins column done before in
    let kept = kept_at done.ended 1 line now from in
    let place : line - 1 ≡ kept.place = omega (arith, kept.is) in
    let holds : HoldsLine now (net_on now line) line = record {
      some = subst (λ k. 0 < get_or (nets now) k 0) (sym place) kept.some;
      begins = omega (arith, kept.is);
      within = omega (arith, kept.is, kept.within);
      held = refl;
    } in
    let open_line = IsOpenLine-from now 0 target to in
    let none : net_on now target ≡ 0 = elim open_line.free_or_own [ inl free ↦ free | inr own ↦ own ] in
    let free = was_free pins column fresh before done numbered made made_entered entries (id_on now target)
    (id_on-member now target open_line.begins open_line.within) (held_by-line now target apart open_line.begins open_line.within ∙ none) in
    record {
      held = (net_on now line, Holds-from now apart (net_on now line) line holds);
      goes_on = λ ended. kept.kept (subst (λ k. Contains done.ended (get_or (ids now) k 0)) place ended);
      free = free.0;
      not_top = free.1;
      not_bottom = free.2;
    }
