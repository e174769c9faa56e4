use Rattle.std.proofs.Common.{◌≡◌, ◌≢◌, inl, inr, ◌<◌, ◌≤◌, ◌+◌, ◌-◌, ◌++◌, ◌&&◌, not, leb, ℕ, List, [], ◌∷◌, true, length, map, get_or, refl, subst, ap, ◌∙◌, arith, Contains, append_assoc}
use Rattle.std.proofs.lemmas.Bool.{cond-true, le-leb}
use Rattle.std.proofs.lemmas.List.{map-append, append-nil}
use Rattle.channel_model.specs.Pins.{Pins}
use Rattle.choose_core.specs.declared.candidate.Candidate.{Candidate}
use Rattle.choose_core.specs.declared.candidate.Next.{Next}
use Rattle.greedy_column.specs.declared.column.Track.{Track}
use Rattle.greedy_column.specs.declared.column.Column.{Column}
use Rattle.greedy_column.specs.declared.span.Span.{Span}
use Rattle.greedy_column.specs.Tracks.{ids, held_by, line_of}
use Rattle.greedy_column.specs.Verticals.{Vertical, between, pin_verticals, joined_verticals, on}
use Rattle.greedy_column.specs.Lines.{id_on, net_on}
use Rattle.greedy_column.specs.Offers.{join_offer}
use Rattle.greedy_column.specs.Joining.{JoinsFollow, neighbours, possible_joins, span_in, ids_of, is_joined, is_clear}
use Rattle.greedy_column.specs.Follows.{pin_spans}
use Rattle.greedy_column.proofs.PickLaws.{picked_is_option}
use Rattle.greedy_column.proofs.IdLaws.{Apart}
use Rattle.greedy_column.proofs.TableLaws.{nets, line_of-line, held_by-line}
use Rattle.greedy_column.proofs.NeighbourLaws.{AreNext, next_from}
use Rattle.std_laws.proofs.Members.{member-none, member-cases, member-head, member-tail, filter-from}

-- a piece between two neighbouring tracks of its net
pub record IsPiece (tracks : List Track) (piece : Span) : Type 0 where
  pub some : 0 < piece.net
  pub begins : 0 < piece.low
  pub order : piece.low < piece.high
  pub within : piece.high ≤ length tracks
  pub lower : net_on tracks piece.low ≡ piece.net
  pub upper : net_on tracks piece.high ≡ piece.net
  pub between : (line : ℕ) → piece.low < line → line < piece.high → net_on tracks line ≢ piece.net

pub IsPiece-neighbour : (tracks : List Track) (piece : Span) → Contains (neighbours tracks) piece → IsPiece tracks piece
IsPiece-neighbour tracks piece member =
    let found = next_from tracks 1 piece member in
    let i = found.0 in
    let j = found.1.0 in
    let low : piece.low ≡ 1 + i = found.1.1 in
    let high : piece.high ≡ 1 + j = found.1.2 in
    let next : AreNext tracks piece.net i j = found.1.3 in
    let before_low : piece.low - 1 ≡ i = omega arith in
    let before_high : piece.high - 1 ≡ j = omega arith in
    record {
      some = next.some;
      begins = omega (arith, low);
      order = omega (arith, low, high, next.order);
      within = omega (arith, high, next.within);
      lower = ap (λ k. get_or (nets tracks) k 0) before_low ∙ next.lower;
      upper = ap (λ k. get_or (nets tracks) k 0) before_high ∙ next.upper;
      between = λ line above below. next.between (line - 1) (omega (arith, low, above)) (omega (arith, high, below, above));
    }

-- each join is one of two neighbouring tracks
pub joined-neighbours : (may : List Candidate → ℕ → Type 0) (next : ℕ → Next) (pairs spans joined : List Span) → JoinsFollow may next pairs spans joined
    → (piece : Span) → Contains joined piece → Contains pairs piece
joined-neighbours may next pairs spans [] follow piece member = absurd (member-none piece member)
joined-neighbours may next pairs spans (first ∷ joined) follow piece member = elim (member-cases first joined piece member) [
  | inl same ↦
      let option = picked_is_option may (join_offer next) (possible_joins spans pairs) first follow.0 in
      subst (λ (s : Span). Contains pairs s) same (filter-from (λ s. not (is_joined spans s) && is_clear spans s) pairs first option).0
  | inr later ↦ joined-neighbours may next pairs (spans ++ first ∷ []) joined follow.1 piece later
]

-- after the joins none is possible
pub none_possible : (may : List Candidate → ℕ → Type 0) (next : ℕ → Next) (pairs spans joined : List Span) → JoinsFollow may next pairs spans joined
    → possible_joins (spans ++ joined) pairs ≡ []
none_possible may next pairs spans [] follow = rw append-nil follow
none_possible may next pairs spans (first ∷ joined) follow =
    subst (λ (l : List Span). possible_joins l pairs ≡ []) (append_assoc spans (first ∷ []) joined) (none_possible may next pairs (spans ++ first ∷ []) joined follow.1)

-- the vertical of a join lies on the piece that is joined
drawn_piece : (tracks : List Track) (piece : Span) → Apart (ids tracks) → IsPiece tracks piece → span_in (ids tracks) (between tracks (ids_of tracks piece)) ≡ piece
drawn_piece tracks piece apart is =
    let low : line_of (ids tracks) (id_on tracks piece.low) ≡ piece.low = line_of-line tracks piece.low apart is.begins (omega (arith, is.order, is.within)) in
    let high : line_of (ids tracks) (id_on tracks piece.high) ≡ piece.high = line_of-line tracks piece.high apart (omega (arith, is.order)) is.within in
    let net : held_by tracks (id_on tracks piece.low) ≡ piece.net = held_by-line tracks piece.low apart is.begins (omega (arith, is.order, is.within)) ∙ is.lower in
    let upward : leb (line_of (ids tracks) (id_on tracks piece.low)) (line_of (ids tracks) (id_on tracks piece.high)) ≡ true =
    le-leb _ _ (omega (arith, low, high, is.order)) in
    let same : between tracks (ids_of tracks piece)
    ≡ record { net = held_by tracks (id_on tracks piece.low); low = on (id_on tracks piece.low); high = on (id_on tracks piece.high) } =
    cond-true {A = Vertical} (leb (line_of (ids tracks) (id_on tracks piece.low)) (line_of (ids tracks) (id_on tracks piece.high)))
    (record { net = held_by tracks (id_on tracks piece.low); low = on (id_on tracks piece.low); high = on (id_on tracks piece.high) })
    (record { net = held_by tracks (id_on tracks piece.low); low = on (id_on tracks piece.high); high = on (id_on tracks piece.low) }) upward in
    ap (span_in (ids tracks)) same ∙ (λ i. record { net = net i; low = low i; high = high i })

drawn_pieces : (tracks : List Track) (joined : List Span) → Apart (ids tracks) → ((piece : Span) → Contains joined piece → IsPiece tracks piece)
    → map (span_in (ids tracks)) (map (between tracks) (map (ids_of tracks) joined)) ≡ joined
drawn_pieces tracks [] apart each = refl
drawn_pieces tracks (piece ∷ joined) apart each =
    (λ i. drawn_piece tracks piece apart (each piece (member-head piece joined)) i
    ∷ drawn_pieces tracks joined apart (λ s member. each s (member-tail piece joined s member)) i)

-- the verticals of the pins and the joins lie on the spans that the steps draw
pub drawn : (pins : Pins) (column : ℕ) (now : List Track) (done : Column) (joined : List Span) → Apart (ids now)
    → ((piece : Span) → Contains joined piece → IsPiece now piece) → done.joins ≡ map (ids_of now) joined
    → map (span_in (ids now)) (joined_verticals pins column done now) ≡ pin_spans pins column now done ++ joined
drawn pins column now done joined apart each told =
    map-append (span_in (ids now)) (pin_verticals pins column done) (map (between now) done.joins)
    ∙ ap (λ (l : List Span). pin_spans pins column now done ++ l)
    (ap (λ (l : List (ℕ × ℕ)). map (span_in (ids now)) (map (between now) l)) told ∙ drawn_pieces now joined apart each)
