use Rattle.std.proofs.Common.{◌≡◌, ◌<◌, ◌≤◌, ◌++◌, ℕ, List, length, map, sym, subst, ap, ◌∙◌, arith, Contains}
use Rattle.std.proofs.lemmas.List.{length-map}
use Rattle.channel_model.specs.Pins.{Pins}
use Rattle.choose_core.specs.declared.candidate.Candidate.{Candidate}
use Rattle.choose_core.specs.declared.plan.Manner.{Manner}
use Rattle.greedy_column.specs.declared.column.Track.{Track}
use Rattle.greedy_column.specs.declared.column.Column.{Column}
use Rattle.greedy_column.specs.declared.span.Span.{Span}
use Rattle.greedy_column.specs.Tracks.{ids}
use Rattle.greedy_column.specs.Replay.{top_pin, bottom_pin, with_made, entered, freed, freed_among}
use Rattle.greedy_column.specs.Ahead.{next_of}
use Rattle.greedy_column.specs.Neighbours.{AreNeighbours}
use Rattle.greedy_column.specs.Lawful.{AreMadeFrom, IsMove}
use Rattle.greedy_column.specs.Fair.{Fair}
use Rattle.greedy_column.specs.Lines.{is_held, is_open, id_on, free_lines}
use Rattle.greedy_column.specs.Joining.{neighbours, ids_of}
use Rattle.greedy_column.specs.Moving.{move_ids}
use Rattle.greedy_column.specs.Follows.{Follows, entries_of, pin_of, pin_spans}
use Rattle.greedy_column.specs.State.{AreNumbered}
use Rattle.greedy_column.proofs.IdLaws.{Apart, Apart-from, Apart-to, ids-entered, AreNumbered-with_made}
use Rattle.greedy_column.proofs.TableLaws.{same_line}
use Rattle.greedy_column.proofs.LineLaws.{LieWithin-lines}
use Rattle.greedy_column.proofs.DrawnLaws.{IsPiece, IsPiece-neighbour, joined-neighbours, none_possible, drawn}
use Rattle.greedy_column.proofs.JoinedLaws.{AreJoined-from}
use Rattle.greedy_column.proofs.MadeLaws.{AreMadeForPins-from}
use Rattle.greedy_column.proofs.PartLaws.{AreNeighbours-from, Apart-rising, Apart-map, moves_within, moves_apart}
use Rattle.greedy_column.proofs.LawfulLaws.{AreEntered-from}
use Rattle.greedy_column.proofs.CrossLaws.{uncrossed-joins, uncrossed-moves, uncrossed-verticals}
use Rattle.greedy_column.proofs.PinLaws.{uncrossed-pins}
use Rattle.greedy_column.proofs.KeepLaws.{ended_held, keeps}
use Rattle.greedy_column.proofs.MovedLaws.{IsMove-from}
use Rattle.greedy_column.proofs.OrderLaws.{Apart-order, held_in_order}
use Rattle.greedy_column.proofs.SparingLaws.{SparesTracks-from}
use Rattle.std_laws.proofs.Members.{map-cases}
use Rattle.std_laws.proofs.Images.{map-map}

-- the ids of the tracks that the pins have entered are apart
pub Apart-entered : (pins : Pins) (column fresh count : ℕ) (before : List Track) (done : Column) → AreNumbered fresh before → AreMadeFrom fresh count done.made
    → Apart (ids (entered pins column done before))
Apart-entered pins column fresh count before done numbered made =
    subst (λ l. Apart l) (sym (ids-entered pins column before done)) (Apart-from (ids (with_made before done.made)) (AreNumbered-with_made fresh count before done.made numbered made).distinct)

-- a record that follows the steps is fair, whatever is answered
pub Fair-from : (manner : Manner) (may : List Candidate → ℕ → Type 0) (pins : Pins) (column fresh : ℕ) (before : List Track) (done : Column)
    → length pins.top ≡ length pins.bottom → AreNumbered fresh before → Follows manner may pins column fresh before done → Fair pins column fresh before done
Fair-from manner may pins column fresh before done matched numbered follows =
    let now : List Track = entered pins column done before in
    let spans : List Span = pin_spans pins column now done in
    let on = follows.goes_on in
    let made = AreMadeForPins-from manner may before fresh (pin_of pins column (top_pin pins column)) (pin_of pins column (bottom_pin pins column)) (entries_of done) follows.enters in
    let apart = Apart-entered pins column fresh (length before) before done numbered made.placed in
    let each : (piece : Span) → Contains on.joined piece → IsPiece now piece = λ piece member.
    IsPiece-neighbour now piece (joined-neighbours may (next_of pins column) (neighbours now) spans on.joined on.joins_follow piece member) in
    let kept : List Track = freed done.ended now in
    let long : length kept ≡ length now = length-map now (freed_among done.ended) in
    let moves = moves_apart may (next_of pins column) now kept on.order (spans ++ on.joined) (free_lines now) on.moving
    (Apart-order manner (next_of pins column) kept (spans ++ on.joined) (free_lines now) on.order on.ordered) on.moves_follow in
    let within : (m : ℕ × ℕ) → Contains on.moving m → ((0 < m.0) × (m.0 ≤ length now)) × ((0 < m.1) × (m.1 ≤ length now)) = λ m member.
    let found = moves_within may (next_of pins column) now kept on.order (spans ++ on.joined) (free_lines now) on.moving on.moves_follow m member in
    let from = (LieWithin-lines is_held kept).each m.0 (held_in_order manner (next_of pins column) kept (spans ++ on.joined) (free_lines now) on.order on.ordered m.0 found.0) in
    let to = (LieWithin-lines (is_open 0) now).each m.1 found.1 in
    ((from.0, omega (arith, from.1, long)), to) in
    let entries = AreEntered-from manner may pins column fresh before done matched numbered follows in
    let on_lines = drawn pins column now done on.joined apart each on.joins_told in
    record {
      lawful = record {
        straight = follows.straight;
        top_enters = entries.top_enters;
        top_none = entries.top_none;
        bottom_enters = entries.bottom_enters;
        bottom_none = entries.bottom_none;
        entered_once = entries.entered_once;
        made = made.placed;
        made_entered = made.entered;
        joins = λ low high member.
            let from = map-cases (ids_of now) on.joined (low, high) (subst (λ (l : List (ℕ × ℕ)). Contains l (low, high)) on.joins_told member) in
            let pair = AreNeighbours-from now from.0 apart (each from.0 from.1) in (
              from.0.net,
              subst (λ h. AreNeighbours now from.0.net low h) (ap (λ (p : ℕ × ℕ). p.1) from.2)
                  (subst (λ l. AreNeighbours now from.0.net l (id_on now from.0.high)) (ap (λ (p : ℕ × ℕ). p.0) from.2) pair),
            );
        ended_once = Apart-to done.ended (Apart-rising done.ended on.ends_told.ascending);
        ended_held = ended_held may pins column now done (spans ++ on.joined) on.ending matched apart on_lines on.ends_follow on.ends_told;
        moves = λ old new member.
            let from = map-cases (move_ids now) on.moving (old, new) (subst (λ (l : List (ℕ × ℕ)). Contains l (old, new)) on.moves_told member) in
            let lines = moves_within may (next_of pins column) now kept on.order (spans ++ on.joined) (free_lines now) on.moving on.moves_follow from.0 from.1 in
            subst (λ n. IsMove before now done old n) (ap (λ (p : ℕ × ℕ). p.1) from.2)
            (subst (λ o. IsMove before now done o (id_on now from.0.1)) (ap (λ (p : ℕ × ℕ). p.0) from.2)
            (IsMove-from pins column fresh before done numbered made.placed made.entered entries apart from.0.0 from.0.1
            (held_in_order manner (next_of pins column) kept (spans ++ on.joined) (free_lines now) on.order on.ordered from.0.0 lines.0) lines.1));
        moved_once = Apart-to (map (λ (m : ℕ × ℕ). m.0) done.moves)
            (subst (λ l. Apart l) (sym (ap (λ (l : List (ℕ × ℕ)). map (λ (m : ℕ × ℕ). m.0) l) on.moves_told ∙ map-map (move_ids now) (λ (m : ℕ × ℕ). m.0) on.moving))
            (Apart-map (λ (m : ℕ × ℕ). id_on now m.0) (λ (m : ℕ × ℕ). m.0) on.moving
            (λ x y first second same. same_line now x.0 y.0 apart (within x first).0 (within y second).0 same) moves.0));
        moved_apart = Apart-to (map (λ (m : ℕ × ℕ). m.1) done.moves)
            (subst (λ l. Apart l) (sym (ap (λ (l : List (ℕ × ℕ)). map (λ (m : ℕ × ℕ). m.1) l) on.moves_told ∙ map-map (move_ids now) (λ (m : ℕ × ℕ). m.1) on.moving))
            (Apart-map (λ (m : ℕ × ℕ). id_on now m.1) (λ (m : ℕ × ℕ). m.1) on.moving
            (λ x y first second same. same_line now x.1 y.1 apart (within x first).1 (within y second).1 same) moves.1));
        apart = uncrossed-verticals pins column now done (spans ++ on.joined) on.moving apart on_lines on.moves_told within
            (uncrossed-moves may (next_of pins column) now kept on.order (spans ++ on.joined) (free_lines now) on.moving
            (uncrossed-joins may (next_of pins column) (neighbours now) spans on.joined
            (uncrossed-pins manner may pins column fresh before done numbered follows) on.joins_follow) on.moves_follow);
      };
      spares = SparesTracks-from manner may pins column fresh before done matched numbered follows;
      joined = AreJoined-from pins column now done (spans ++ on.joined) apart on_lines
          (none_possible may (next_of pins column) (neighbours now) spans on.joined on.joins_follow);
      keeps = keeps may pins column now done (spans ++ on.joined) on.ending matched apart on_lines on.ends_follow on.ends_told;
    }
