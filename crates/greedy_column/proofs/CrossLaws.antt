use Rattle.std.proofs.Common.{◌≡◌, ◌≢◌, inl, inr, ◌<◌, ◌≤◌, ◌++◌, ◌&&◌, ◌||◌, not, eqb, ltb, leb, ℕ, List, [], ◌∷◌, true, false, cond, length, map, min, max, refl, sym, subst, ap, ◌∙◌, arith, Contains, append_assoc}
use Rattle.std.proofs.lemmas.Bool.{and_parts, cond-true, cond-false, le-leb, cases_lt}
use Rattle.std.proofs.lemmas.Bool.Decides.{nat_tests}
use Rattle.std.proofs.lemmas.List.{map-append, append-nil}
use Rattle.std.proofs.lemmas.List.Elements.{Contains-append_cases}
use Rattle.channel_model.specs.Pins.{Pins}
use Rattle.choose_core.specs.declared.candidate.Candidate.{Candidate}
use Rattle.choose_core.specs.declared.candidate.Next.{Next}
use Rattle.greedy_column.specs.declared.column.Track.{Track}
use Rattle.greedy_column.specs.declared.column.Column.{Column}
use Rattle.greedy_column.specs.declared.span.Span.{Span}
use Rattle.greedy_column.specs.Tracks.{ids, held_by, line_of}
use Rattle.greedy_column.specs.Verticals.{Vertical, on, between, joined_verticals, verticals, Shares}
use Rattle.greedy_column.specs.Lines.{id_on, net_on}
use Rattle.greedy_column.specs.Offers.{offer, join_offer, move_question}
use Rattle.greedy_column.specs.Joining.{JoinsFollow, possible_joins, span_in, is_joined, is_clear, passes}
use Rattle.greedy_column.specs.Moving.{MovesFollow, GoesTo, carried, move_ids, move_options, others_of_net, piece_between, without}
use Rattle.greedy_column.proofs.PickLaws.{picked_is_option}
use Rattle.greedy_column.proofs.IdLaws.{Apart}
use Rattle.greedy_column.proofs.TableLaws.{line_of-line, held_by-line}
use Rattle.std_laws.proofs.Members.{member-only, member-head, member-tail, member-cases, map-member, filter-from, all-member}

-- two pieces share a line
abbrev pub Meet : Span → Span → Type 0
Meet s t = (s.low ≤ t.high) × (t.low ≤ s.high)

-- pieces that share a line are of one net
abbrev pub AreUncrossed : List Span → Type 0
AreUncrossed spans = (s t : Span) → Contains spans s → Contains spans t → Meet s t → s.net ≡ t.net

passed_by : (n m a b c d : ℕ) → (eqb n m || (ltb b c || ltb d a)) ≡ true → a ≤ d → c ≤ b → n ≡ m
passed_by n m a b c d passes low high = grind (arith, nat_tests)

passed : (piece s : Span) → passes piece s ≡ true → Meet s piece → s.net ≡ piece.net
passed piece s test meet = passed_by s.net piece.net s.low s.high piece.low piece.high test meet.0 meet.1

-- a piece that is clear of some crosses none of them
pub uncrossed-clear : (spans : List Span) (piece : Span) → AreUncrossed spans → is_clear spans piece ≡ true → AreUncrossed (spans ++ piece ∷ [])
uncrossed-clear spans piece apart clear s t first second meet = elim (Contains-append_cases spans (piece ∷ []) s first) [
  | inl old ↦ elim (Contains-append_cases spans (piece ∷ []) t second) [
    | inl old_too ↦ apart s t old old_too meet
    | inr new ↦
        let same : piece ≡ t = member-only piece t new in
        subst (λ (u : Span). s.net ≡ u.net) same
        (passed piece s (all-member (passes piece) s spans clear old) (subst (λ (u : Span). Meet s u) (sym same) meet))
  ]
  | inr new ↦ let same : piece ≡ s = member-only piece s new in elim (Contains-append_cases spans (piece ∷ []) t second) [
    | inl old ↦
        subst (λ (u : Span). u.net ≡ t.net) same
        (sym (passed piece t (all-member (passes piece) t spans clear old) (subst (λ (u : Span). Meet t u) (sym same) (meet.1, meet.0))))
    | inr new_too ↦ ap (λ (u : Span). u.net) (sym same ∙ member-only piece t new_too)
  ]
]

-- the piece of a move
abbrev pub move_piece : List Track → (ℕ × ℕ) → Span
move_piece tracks m = piece_between (net_on tracks m.0) m.0 m.1

module _ (may : List Candidate → ℕ → Type 0) (next : ℕ → Next) where
  -- the joins cross nothing
  pub uncrossed-joins : (pairs spans joined : List Span) → AreUncrossed spans → JoinsFollow may next pairs spans joined → AreUncrossed (spans ++ joined)
  uncrossed-joins pairs spans [] apart follow = subst (λ (l : List Span). AreUncrossed l) (sym (append-nil spans)) apart
  uncrossed-joins pairs spans (piece ∷ joined) apart follow =
      let option = picked_is_option may (join_offer next) (possible_joins spans pairs) piece follow.0 in
      let test = (filter-from (λ s. not (is_joined spans s) && is_clear spans s) pairs piece option).1 in
      let clear = (and_parts (not (is_joined spans piece)) (is_clear spans piece) test).1 in
      subst (λ (l : List Span). AreUncrossed l) (append_assoc spans (piece ∷ []) joined)
      (uncrossed-joins pairs (spans ++ piece ∷ []) joined (uncrossed-clear spans piece apart clear) follow.1)

  goes_clear : (ahead : Next) (others : List ℕ) (net line target : ℕ) (spans : List Span) (free : List ℕ) → GoesTo may ahead others line (move_options spans net line free) target → target ≢ line
      → is_clear spans (piece_between net line target) ≡ true
  goes_clear ahead others net line target spans free goes other =
      in_options (move_options spans net line free)
      (λ member. (filter-from (λ o. is_clear spans (piece_between net line o)) free target member).1) goes where
        in_options : (options : List ℕ) → (Contains options target → is_clear spans (piece_between net line target) ≡ true) → GoesTo may ahead others line options target
            → is_clear spans (piece_between net line target) ≡ true
        in_options [] from goes = absurd (other goes)
        in_options (o ∷ options) from goes =
            elim (member-cases line (o ∷ options) target (picked_is_option may (offer (move_question line ahead) others) (line ∷ (o ∷ options)) target goes)) [
              | inl same ↦ absurd (other (sym same))
              | inr member ↦ from member
            ]

  -- the moves cross nothing
  pub uncrossed-moves : (tracks kept : List Track) (lines : List ℕ) (spans : List Span) (free : List ℕ) (moves : List (ℕ × ℕ)) → AreUncrossed spans
      → MovesFollow may next tracks kept lines spans free moves → AreUncrossed (spans ++ map (move_piece tracks) moves)
  uncrossed-moves tracks kept [] spans free moves apart none =
      subst (λ (l : List (ℕ × ℕ)). AreUncrossed (spans ++ map (move_piece tracks) l)) (sym none)
      (subst (λ (l : List Span). AreUncrossed l) (sym (append-nil spans)) apart)
  uncrossed-moves tracks kept (line ∷ lines) spans free moves apart (inl (stays, follow)) = uncrossed-moves tracks kept lines spans free moves apart follow
  uncrossed-moves tracks kept (line ∷ lines) spans free moves apart (inr (target, (rest, goes, other, is, follow))) =
      let piece : Span = piece_between (net_on tracks line) line target in
      let clear = goes_clear (next (net_on tracks line)) (others_of_net tracks kept line) (net_on tracks line) line target spans free goes other in
      subst (λ (l : List (ℕ × ℕ)). AreUncrossed (spans ++ map (move_piece tracks) l)) (sym is)
      (subst (λ (l : List Span). AreUncrossed l) (append_assoc spans (piece ∷ []) (map (move_piece tracks) rest))
      (uncrossed-moves tracks (carried tracks kept line target) lines (spans ++ piece ∷ []) (without target free) rest (uncrossed-clear spans piece apart clear) follow))

not_upward : (a b : ℕ) → b < a → leb a b ≡ false
not_upward a b less = grind (arith, nat_tests)

-- the vertical of a move lies on its piece
drawn_between : (order : List ℕ) (net p q : ℕ)
    → span_in order (cond (leb (line_of order p) (line_of order q)) (record { net = net; low = on p; high = on q }) (record { net = net; low = on q; high = on p }))
    ≡ piece_between net (line_of order p) (line_of order q)
drawn_between order net p q = elim (cases_lt (line_of order q) (line_of order p)) [
  | inl below ↦
      let low : line_of order q ≡ min (line_of order p) (line_of order q) = omega (arith, below) in
      let high : line_of order p ≡ max (line_of order p) (line_of order q) = omega (arith, below) in
      ap (span_in order) (cond-false {A = Vertical} (leb (line_of order p) (line_of order q)) (record { net = net; low = on p; high = on q })
      (record { net = net; low = on q; high = on p }) (not_upward (line_of order p) (line_of order q) below))
      ∙ (λ i. record { net = net; low = low i; high = high i })
  | inr above ↦
      let low : line_of order p ≡ min (line_of order p) (line_of order q) = omega (arith, above) in
      let high : line_of order q ≡ max (line_of order p) (line_of order q) = omega (arith, above) in
      ap (span_in order) (cond-true {A = Vertical} (leb (line_of order p) (line_of order q)) (record { net = net; low = on p; high = on q })
      (record { net = net; low = on q; high = on p }) (le-leb (line_of order p) (line_of order q) above))
      ∙ (λ i. record { net = net; low = low i; high = high i })
]

-- lines of tracks, of a move
abbrev pub IsWithin : List Track → (ℕ × ℕ) → Type 0
IsWithin tracks m = ((0 < m.0) × (m.0 ≤ length tracks)) × ((0 < m.1) × (m.1 ≤ length tracks))

drawn_move : (tracks : List Track) (m : ℕ × ℕ) → Apart (ids tracks) → IsWithin tracks m → span_in (ids tracks) (between tracks (move_ids tracks m)) ≡ move_piece tracks m
drawn_move tracks m apart within =
    let from : line_of (ids tracks) (id_on tracks m.0) ≡ m.0 = line_of-line tracks m.0 apart within.0.0 within.0.1 in
    let to : line_of (ids tracks) (id_on tracks m.1) ≡ m.1 = line_of-line tracks m.1 apart within.1.0 within.1.1 in
    let net : held_by tracks (id_on tracks m.0) ≡ net_on tracks m.0 = held_by-line tracks m.0 apart within.0.0 within.0.1 in
    drawn_between (ids tracks) (held_by tracks (id_on tracks m.0)) (id_on tracks m.0) (id_on tracks m.1)
    ∙ (λ i. piece_between (net i) (from i) (to i))

drawn_moves : (tracks : List Track) (moves : List (ℕ × ℕ)) → Apart (ids tracks) → ((m : ℕ × ℕ) → Contains moves m → IsWithin tracks m)
    → map (span_in (ids tracks)) (map (between tracks) (map (move_ids tracks) moves)) ≡ map (move_piece tracks) moves
drawn_moves tracks [] apart within = refl
drawn_moves tracks (m ∷ moves) apart within =
    λ i. drawn_move tracks m apart (within m (member-head m moves)) i ∷ drawn_moves tracks moves apart (λ o member. within o (member-tail m moves o member)) i

-- verticals that lie on uncrossed pieces are of one net where they share a point
pub uncrossed-verticals : (pins : Pins) (column : ℕ) (now : List Track) (done : Column) (spans : List Span) (moves : List (ℕ × ℕ)) → Apart (ids now)
    → map (span_in (ids now)) (joined_verticals pins column done now) ≡ spans → done.moves ≡ map (move_ids now) moves
    → ((m : ℕ × ℕ) → Contains moves m → IsWithin now m) → AreUncrossed (spans ++ map (move_piece now) moves)
    → (v w : Vertical) → Contains (verticals pins column done now) v → Contains (verticals pins column done now) w → Shares (ids now) v w → v.net ≡ w.net
uncrossed-verticals pins column now done spans moves apart drawn told within uncrossed v w first second shares =
    let all : map (span_in (ids now)) (verticals pins column done now) ≡ spans ++ map (move_piece now) moves =
    map-append (span_in (ids now)) (joined_verticals pins column done now) (map (between now) done.moves)
    ∙ (λ i. drawn i ++ map (span_in (ids now)) (map (between now) (told i)))
    ∙ ap (λ (l : List Span). spans ++ l) (drawn_moves now moves apart within) in
    uncrossed (span_in (ids now) v) (span_in (ids now) w)
    (subst (λ (l : List Span). Contains l (span_in (ids now) v)) all (map-member (span_in (ids now)) (verticals pins column done now) v first))
    (subst (λ (l : List Span). Contains l (span_in (ids now) w)) all (map-member (span_in (ids now)) (verticals pins column done now) w second)) shares
