use Rattle.std.proofs.Common.{◌≡◌, ◌≢◌, inl, inr, ◌<◌, ◌≤◌, ◌-◌, ◌++◌, not, eqb, ℕ, suc, List, [], ◌∷◌, Bool, true, false, cond, length, map, get_or, sym, subst, ap, ◌∙◌, arith, Contains}
use Rattle.std.proofs.lemmas.Bool.{cases_lt, eq-eqb}
use Rattle.std.proofs.lemmas.List.Kept.{AllPairs-from_increasing}
use Rattle.std.specs.List.Sorted.{IsStrictlyIncreasing}
use Rattle.choose_core.specs.declared.candidate.Candidate.{Candidate}
use Rattle.choose_core.specs.declared.candidate.Next.{Next}
use Rattle.greedy_column.specs.declared.column.Track.{Track}
use Rattle.greedy_column.specs.declared.span.Span.{Span}
use Rattle.greedy_column.specs.Tracks.{ids, held_by}
use Rattle.greedy_column.specs.Neighbours.{AreNeighbours}
use Rattle.greedy_column.specs.Lines.{id_on, net_on, lines_from}
use Rattle.greedy_column.specs.Offers.{offer, move_question}
use Rattle.greedy_column.specs.Joining.{is_clear}
use Rattle.greedy_column.specs.Moving.{MovesFollow, GoesTo, move_options, piece_between, without, carried, others_of_net}
use Rattle.greedy_column.proofs.PickLaws.{picked_is_option}
use Rattle.greedy_column.proofs.IdLaws.{Apart}
use Rattle.greedy_column.proofs.LineLaws.{lines_from-each}
use Rattle.greedy_column.proofs.TableLaws.{nets, length-ids, line_of-line, held_by-line, held_by-at, id_on-member, place_in}
use Rattle.greedy_column.proofs.DrawnLaws.{IsPiece}
use Rattle.std_laws.proofs.Members.{member-none, member-head, member-tail, member-cases, map-member, map-cases, filter-from}
use Rattle.std_laws.proofs.Increasing.{increasing-rest}

-- a piece lies between two neighbouring tracks
pub AreNeighbours-from : (now : List Track) (piece : Span) → Apart (ids now) → IsPiece now piece → AreNeighbours now piece.net (id_on now piece.low) (id_on now piece.high)
AreNeighbours-from now piece apart is =
    let low_within : piece.low ≤ length now = omega (arith, is.order, is.within) in
    let high_some : 0 < piece.high = omega (arith, is.order) in
    let low = line_of-line now piece.low apart is.begins low_within in
    let high = line_of-line now piece.high apart high_some is.within in
    record {
      lower = record { net_is = is.some; there = id_on-member now piece.low is.begins low_within; held = held_by-line now piece.low apart is.begins low_within ∙ is.lower };
      upper = record { net_is = is.some; there = id_on-member now piece.high high_some is.within; held = held_by-line now piece.high apart high_some is.within ∙ is.upper };
      above = omega (arith, low, high, is.order);
      next = λ id held above.
          let at = place_in (ids now) id apart held.there in
          let k = at.0 in
          let place : suc k - 1 ≡ k = omega arith in
          let own : net_on now (suc k) ≡ piece.net =
          ap (λ n. get_or (nets now) n 0) place ∙ sym (held_by-at now k apart (omega (arith, at.1, length-ids now))) ∙ ap (held_by now) at.2 ∙ held.held in
          elim (cases_lt (suc k) piece.high) [
            | inl below ↦ absurd (is.between (suc k) (omega (arith, at.3, above, low)) below own)
            | inr over ↦ omega (arith, at.3, over, high)
          ];
    }

pub Apart-rising : (xs : List ℕ) → IsStrictlyIncreasing xs → Apart xs
Apart-rising [] rising = tt
Apart-rising (x ∷ xs) rising = (
  (λ member.
      let less = AllPairs-from_increasing (x ∷ xs) rising 0 (suc member.0) x (omega arith) (omega (arith, member.1)) in
      omega (arith, less, member.2)),
  Apart-rising xs (increasing-rest x xs rising),
)

-- lines are apart
pub Apart-lines_from : (passes : Track → Bool) (first : ℕ) (tracks : List Track) → Apart (lines_from passes first tracks)
Apart-lines_from passes first [] = tt
Apart-lines_from passes first (t ∷ tracks) =
    step (passes t) first (lines_from passes (suc first) tracks)
    (λ member. let found = lines_from-each passes (suc first) first tracks member in omega (arith, found.above)) (Apart-lines_from passes (suc first) tracks) where
      step : (b : Bool) (first : ℕ) (lines : List ℕ) → (Contains lines first → ⊥) → Apart lines → Apart (cond b (first ∷ []) [] ++ lines)
      step true first lines none apart = (none, apart)
      step false first lines none apart = apart

-- what a map gives is apart where it keeps apart what is
pub Apart-map : {X : Type 0} (f : X → ℕ) (g : X → ℕ) (xs : List X) → ((x y : X) → Contains xs x → Contains xs y → f x ≡ f y → g x ≡ g y) → Apart (map g xs) → Apart (map f xs)
Apart-map f g [] keeps apart = tt
Apart-map f g (x ∷ xs) keeps apart = (
  (λ member.
      let from = map-cases f xs (f x) member in
      let same = keeps x from.0 (member-head x xs) (member-tail x xs from.0 from.1) (sym from.2) in
      apart.0 (subst (λ n. Contains (map g xs) n) (sym same) (map-member g xs from.0 from.1))),
  Apart-map f g xs (λ a b first second same. keeps a b (member-tail x xs a first) (member-tail x xs b second) same) apart.1,
)

module _ (may : List Candidate → ℕ → Type 0) (next : ℕ → Next) (tracks : List Track) where
  goes_free : (others : List ℕ) (net line target : ℕ) (spans : List Span) (free : List ℕ) → GoesTo may (next net) others line (move_options spans net line free) target → target ≢ line → Contains free target
  goes_free others net line target spans free goes other = in_options (move_options spans net line free) (λ member. (filter-from (λ o. is_clear spans (piece_between net line o)) free target member).0) goes where
    in_options : (options : List ℕ) → (Contains options target → Contains free target) → GoesTo may (next net) others line options target → Contains free target
    in_options [] from goes = absurd (other goes)
    in_options (o ∷ options) from goes =
        elim (member-cases line (o ∷ options) target (picked_is_option may (offer (move_question line (next net)) others) (line ∷ (o ∷ options)) target goes)) [
          | inl same ↦ absurd (other (sym same))
          | inr member ↦ from member
        ]

  -- moves go to free lines, and go from lines in their order
  pub moves_within : (kept : List Track) (lines : List ℕ) (spans : List Span) (free : List ℕ) (moves : List (ℕ × ℕ)) → MovesFollow may next tracks kept lines spans free moves
      → (m : ℕ × ℕ) → Contains moves m → Contains lines m.0 × Contains free m.1 × (m.1 ≢ m.0)
  moves_within kept [] spans free moves none m member = absurd (member-none m (subst (λ (l : List (ℕ × ℕ)). Contains l m) none member))
  moves_within kept (line ∷ lines) spans free moves (inl (stays, follow)) m member =
      let found = moves_within kept lines spans free moves follow m member in (member-tail line lines m.0 found.0, found.1, found.2)
  moves_within kept (line ∷ lines) spans free moves (inr (target, (rest, goes, other, is, follow))) m member =
      elim (member-cases (line, target) rest m (subst (λ (l : List (ℕ × ℕ)). Contains l m) is member)) [
        | inl same ↦
            let first : line ≡ m.0 = ap (λ (p : ℕ × ℕ). p.0) same in
            let second : target ≡ m.1 = ap (λ (p : ℕ × ℕ). p.1) same in (
              subst (λ l. Contains (line ∷ lines) l) first (member-head line lines),
              subst (λ t. Contains free t) second (goes_free (others_of_net tracks kept line) (net_on tracks line) line target spans free goes other),
              λ equal. other (second ∙ equal ∙ sym first),
            )
        | inr later ↦
            let found = moves_within (carried tracks kept line target) lines (spans ++ piece_between (net_on tracks line) line target ∷ []) (without target free) rest follow m later in
            (member-tail line lines m.0 found.0, (filter-from (λ o. not (eqb o target)) free m.1 found.1).0, found.2)
      ]

  kept_apart : (o target : ℕ) → not (eqb o target) ≡ true → o ≢ target
  kept_apart o target test same = cc (ap not (eq-eqb o target same), test)

  pub moves_apart : (kept : List Track) (lines : List ℕ) (spans : List Span) (free : List ℕ) (moves : List (ℕ × ℕ)) → Apart lines → MovesFollow may next tracks kept lines spans free moves
      → Apart (map (λ (m : ℕ × ℕ). m.0) moves) × Apart (map (λ (m : ℕ × ℕ). m.1) moves)
  moves_apart kept [] spans free moves apart none = subst (λ (l : List (ℕ × ℕ)). Apart (map (λ (m : ℕ × ℕ). m.0) l) × Apart (map (λ (m : ℕ × ℕ). m.1) l)) (sym none) (tt, tt)
  moves_apart kept (line ∷ lines) spans free moves apart (inl (stays, follow)) = moves_apart kept lines spans free moves apart.1 follow
  moves_apart kept (line ∷ lines) spans free moves apart (inr (target, (rest, goes, other, is, follow))) =
      let spans_now : List Span = spans ++ piece_between (net_on tracks line) line target ∷ [] in
      let later = moves_apart (carried tracks kept line target) lines spans_now (without target free) rest apart.1 follow in
      subst (λ (l : List (ℕ × ℕ)). Apart (map (λ (m : ℕ × ℕ). m.0) l) × Apart (map (λ (m : ℕ × ℕ). m.1) l)) (sym is) (
        (
          (λ member.
              let from = map-cases (λ (m : ℕ × ℕ). m.0) rest line member in
              let found = moves_within (carried tracks kept line target) lines spans_now (without target free) rest follow from.0 from.1 in
              apart.0 (subst (λ l. Contains lines l) from.2 found.0)),
          later.0,
        ),
        (
          (λ member.
              let from = map-cases (λ (m : ℕ × ℕ). m.1) rest target member in
              let found = moves_within (carried tracks kept line target) lines spans_now (without target free) rest follow from.0 from.1 in
              kept_apart from.0.1 target (filter-from (λ o. not (eqb o target)) free from.0.1 found.1).1 from.2),
          later.1,
        ),
      )
