use Rattle.std.proofs.Common.{◌≡◌, ◌≢◌, ◌⊎◌, inl, inr, ◌<◌, ◌≤◌, ◌+◌, ◌-◌, ◌&&◌, eqb, leb, ℕ, zero, suc, List, true, length, map, get_or, refl, sym, subst, ap, ◌∙◌, arith, Contains, eq-eqb}
use Rattle.std.proofs.lemmas.Bool.{and_from, le-leb, cases_lt, cases_eq}
use Rattle.greedy_column.specs.declared.column.Track.{Track}
use Rattle.greedy_column.specs.declared.span.Span.{Span}
use Rattle.greedy_column.specs.Tracks.{ids, held_by, line_of}
use Rattle.greedy_column.specs.Verticals.{Vertical}
use Rattle.greedy_column.specs.Neighbours.{Holds, Grouped, alone, along}
use Rattle.greedy_column.specs.Lines.{id_on, net_on}
use Rattle.greedy_column.specs.Joining.{neighbours, span_in, is_joined, covers}
use Rattle.greedy_column.proofs.IdLaws.{Apart}
use Rattle.greedy_column.proofs.TableLaws.{nets, length-ids, place_in, line_of-line, held_by-line, id_on-member}
use Rattle.greedy_column.proofs.NeighbourLaws.{AreNext, listed_from}
use Rattle.greedy_column.proofs.DrawnLaws.{IsPiece, IsPiece-neighbour}
use Rattle.greedy_column.proofs.JoinedLaws.{drawn_on, linked_by}
use Rattle.std_laws.proofs.Members.{map-member, any-cases, any-member}

-- a net holds the track on a line
pub record HoldsLine (tracks : List Track) (net line : ℕ) : Type 0 where
  pub some : 0 < net
  pub begins : 0 < line
  pub within : line ≤ length tracks
  pub held : net_on tracks line ≡ net

-- one net alone holds a track
pub one_holder : (tracks : List Track) (net other id : ℕ) → Holds tracks net id → Holds tracks other id → net ≡ other
one_holder tracks net other id first second = sym first.held ∙ second.held

module _ (now : List Track) (apart : Apart (ids now)) where
  pub id_of_line : (id : ℕ) → Contains (ids now) id → id_on now (line_of (ids now) id) ≡ id
  id_of_line id member =
      let at = place_in (ids now) id apart member in
      let place : line_of (ids now) id - 1 ≡ at.0 = omega (arith, at.3) in
      ap (λ k. get_or (ids now) k 0) place ∙ at.2

  pub HoldsLine-from : (net id : ℕ) → Holds now net id → HoldsLine now net (line_of (ids now) id)
  HoldsLine-from net id held =
      let at = place_in (ids now) id apart held.there in
      let inside : line_of (ids now) id ≤ length now = omega (arith, at.1, at.3, length-ids now) in
      let begins : 0 < line_of (ids now) id = omega (arith, at.3) in
      record {
        some = held.net_is;
        begins = begins;
        within = inside;
        held = sym (held_by-line now (line_of (ids now) id) apart begins inside) ∙ ap (held_by now) (id_of_line id held.there) ∙ held.held;
      }

  pub Holds-from : (net line : ℕ) → HoldsLine now net line → Holds now net (id_on now line)
  Holds-from net line held = record {
    net_is = held.some;
    there = id_on-member now line held.begins held.within;
    held = held_by-line now line apart held.begins held.within ∙ held.held;
  }

  pub lower_line : (piece : Span) → IsPiece now piece → HoldsLine now piece.net piece.low
  lower_line piece is = record { some = is.some; begins = is.begins; within = omega (arith, is.order, is.within); held = is.lower }

  pub upper_line : (piece : Span) → IsPiece now piece → HoldsLine now piece.net piece.high
  upper_line piece is = record { some = is.some; begins = omega (arith, is.order); within = is.within; held = is.upper }

  -- a net's next track above one, where it holds one further up
  pub record NextPiece (net low high : ℕ) : Type 0 where
    pub piece : Span
    pub listed : Contains (neighbours now) piece
    pub net_is : piece.net ≡ net
    pub begins : piece.low ≡ low
    pub ends : piece.high ≤ high

  -- the places from one on are searched for it, up to another one of the net
  search_up : (net i j : ℕ) → 0 < net → j < length now → get_or (nets now) i 0 ≡ net → get_or (nets now) j 0 ≡ net → (n m : ℕ) → m + n ≡ j → i < m
      → ((k : ℕ) → i < k → k < m → get_or (nets now) k 0 ≢ net) → (k : ℕ) × (k ≤ j) × AreNext now net i k
  search_up net i j some inside lower upper zero m is above none =
      let same : m ≡ j = omega (arith, is) in (
        m,
        omega (arith, same),
        record {
          some = some;
          order = above;
          within = omega (arith, same, inside);
          lower = lower;
          upper = ap (λ k. get_or (nets now) k 0) same ∙ upper;
          between = none;
        },
      )
  search_up net i j some inside lower upper (suc n) m is above none = elim (cases_eq (get_or (nets now) m 0) net) [
    | inl here ↦ (
      m,
      omega (arith, is),
      record {
        some = some;
        order = above;
        within = omega (arith, is, inside);
        lower = lower;
        upper = here;
        between = none;
      },
    )
    | inr other ↦ search_up net i j some inside lower upper n (suc m) (omega (arith, is)) (omega (arith, above))
        (λ k over under own. elim (cases_lt k m) [
          | inl below ↦ none k over below own
          | inr there ↦ let same : k ≡ m = omega (arith, there, under) in other (ap (λ p. get_or (nets now) p 0) (sym same) ∙ own)
        ])
  ]

  pub next_piece : (net low high : ℕ) → HoldsLine now net low → HoldsLine now net high → low < high → NextPiece net low high
  next_piece net low high lower upper order =
      let i : ℕ = low - 1 in
      let j : ℕ = high - 1 in
      let found = search_up net i j lower.some (omega (arith, upper.begins, upper.within)) lower.held upper.held (j - (i + 1)) (i + 1)
      (omega (arith, order, lower.begins)) (omega arith) (λ k over under. absurd (omega (arith, over, under))) in
      record {
        piece = record { net = net; low = 1 + i; high = 1 + found.0 };
        listed = listed_from now net 1 i found.0 found.2;
        net_is = refl;
        begins = omega (arith, lower.begins);
        ends = omega (arith, found.1, upper.begins);
      }

-- what the verticals on some spans link
module _ (now : List Track) (apart : Apart (ids now)) (vs : List Vertical) (spans : List Span) (drawn : map (span_in (ids now)) vs ≡ spans) where
  pub Grouped-trans : {a b c : ℕ} → Grouped now vs a b → Grouped now vs b c → Grouped now vs a c
  Grouped-trans alone later = later
  Grouped-trans (along v member one other over too rest) later = along v member one other over too (Grouped-trans rest later)

  pub Grouped-sym : {a b : ℕ} → Grouped now vs a b → Grouped now vs b a
  Grouped-sym alone = alone
  Grouped-sym (along v member one other over too rest) = Grouped-trans (Grouped-sym rest) (along v member other one too over alone)

  -- what is linked is held by one net
  pub Grouped-net : {a b : ℕ} (net : ℕ) → Grouped now vs a b → Holds now net a → Holds now net b
  Grouped-net net alone held = held
  Grouped-net {a = a} net (along {b = b} v member one other over too rest) held =
      Grouped-net net rest (subst (λ n. Holds now n b) (one_holder now v.net net a one held) other)

  -- a piece whose ends a vertical joins links its tracks
  pub piece_linked : (piece : Span) → IsPiece now piece → is_joined spans piece ≡ true → Grouped now vs (id_on now piece.low) (id_on now piece.high)
  piece_linked piece is joined =
      let found = any-cases (covers piece) spans joined in
      let v = drawn_on now vs spans drawn found.0 found.1 in
      let low = line_of-line now piece.low apart is.begins (omega (arith, is.order, is.within)) in
      let high = line_of-line now piece.high apart (omega (arith, is.order)) is.within in
      linked_by now vs piece.net (id_on now piece.low) (id_on now piece.high) piece found.0 v.0
      (Holds-from now apart piece.net piece.low (lower_line now apart piece is)) (Holds-from now apart piece.net piece.high (upper_line now apart piece is))
      v.1 v.2 refl low high (omega (arith, is.order)) found.2

  -- a piece lies between two lines
  abbrev pub LiesBetween : Span → ℕ → ℕ → Type 0
  LiesBetween piece low high = (low ≤ piece.low) × (piece.high ≤ high)

  covered_by : (piece : Span) (v : Vertical) → Contains vs v → v.net ≡ piece.net → (span_in (ids now) v).low ≤ piece.low → piece.high ≤ (span_in (ids now) v).high
      → is_joined spans piece ≡ true
  covered_by piece v member net low high =
      any-member (covers piece) spans (span_in (ids now) v) (subst (λ (l : List Span). Contains l (span_in (ids now) v)) drawn (map-member (span_in (ids now)) vs v member))
      (and_from (eqb v.net piece.net) (leb (span_in (ids now) v).low piece.low && leb piece.high (span_in (ids now) v).high) (eq-eqb v.net piece.net net)
      (and_from (leb (span_in (ids now) v).low piece.low) (leb piece.high (span_in (ids now) v).high) (le-leb (span_in (ids now) v).low piece.low low)
      (le-leb piece.high (span_in (ids now) v).high high)))

  -- a track of a piece's net lies below the piece or above it
  aside : (piece : Span) (id : ℕ) → IsPiece now piece → Holds now piece.net id → (line_of (ids now) id ≤ piece.low) ⊎ (piece.high ≤ line_of (ids now) id)
  aside piece id is held = elim (cases_lt piece.low (line_of (ids now) id)) [
    | inr below ↦ inl below
    | inl above ↦ elim (cases_lt (line_of (ids now) id) piece.high) [
      | inr over ↦ inr over
      | inl under ↦ absurd (is.between (line_of (ids now) id) above under (HoldsLine-from now apart piece.net id held).held)
    ]
  ]

  -- between two linked tracks each piece of their net is joined
  pub linked_joined : {a b : ℕ} (piece : Span) → IsPiece now piece → Grouped now vs a b → Holds now piece.net a
      → LiesBetween piece (line_of (ids now) a) (line_of (ids now) b) ⊎ LiesBetween piece (line_of (ids now) b) (line_of (ids now) a)
      → is_joined spans piece ≡ true
  linked_joined piece is alone held (inl between) = absurd (omega (arith, is.order, between.0, between.1))
  linked_joined piece is alone held (inr between) = absurd (omega (arith, is.order, between.0, between.1))
  linked_joined {a = a} piece is (along {b = b} v member one other over too rest) held between =
      let net : v.net ≡ piece.net = one_holder now v.net piece.net a one held in
      let next : Holds now piece.net b = subst (λ n. Holds now n b) net other in
      elim (aside piece b is next) [
        | inl below ↦ elim between [
          | inl up ↦ linked_joined piece is rest next (inl (below, up.1))
          | inr down ↦ covered_by piece v member net (omega (arith, too.0, below)) (omega (arith, over.1, down.1))
        ]
        | inr above ↦ elim between [
          | inl up ↦ covered_by piece v member net (omega (arith, over.0, up.0)) (omega (arith, too.1, above))
          | inr down ↦ linked_joined piece is rest next (inr (down.0, above))
        ]
      ]

  -- where each piece of a net between two of its tracks is joined, these are linked
  pub climb : (n net low high : ℕ) → high ≤ low + n → low ≤ high → HoldsLine now net low → HoldsLine now net high
      → ((piece : Span) → Contains (neighbours now) piece → piece.net ≡ net → LiesBetween piece low high → is_joined spans piece ≡ true)
      → Grouped now vs (id_on now low) (id_on now high)
  climb zero net low high bound order lower upper joined =
      let same : low ≡ high = omega (arith, order, bound) in subst (λ l. Grouped now vs (id_on now low) (id_on now l)) same alone
  climb (suc n) net low high bound order lower upper joined = elim (cases_lt low high) [
    | inr there ↦ let same : low ≡ high = omega (arith, order, there) in subst (λ l. Grouped now vs (id_on now low) (id_on now l)) same alone
    | inl under ↦
        let next = next_piece now apart net low high lower upper under in
        let is = IsPiece-neighbour now next.piece next.listed in
        let begins = next.begins in
        let first : Grouped now vs (id_on now low) (id_on now next.piece.high) =
        subst (λ l. Grouped now vs (id_on now l) (id_on now next.piece.high)) begins
        (piece_linked next.piece is (joined next.piece next.listed next.net_is (omega (arith, begins), next.ends))) in
        Grouped-trans first (climb n net next.piece.high high (omega (arith, bound, begins, is.order)) next.ends
        (subst (λ m. HoldsLine now m next.piece.high) next.net_is (upper_line now apart next.piece is)) upper
        (λ piece listed net_is between. joined piece listed net_is (omega (arith, begins, is.order, between.0), between.1)))
  ]

  -- the piece below a track of a net, where the net holds one further down
  pub record LastPiece (net low high : ℕ) : Type 0 where
    pub piece : Span
    pub listed : Contains (neighbours now) piece
    pub net_is : piece.net ≡ net
    pub begins : low ≤ piece.low
    pub ends : piece.high ≡ high

  pub last_piece : (n net low high : ℕ) → high ≤ low + n → HoldsLine now net low → HoldsLine now net high → low < high → LastPiece net low high
  last_piece zero net low high bound lower upper order = absurd (omega (arith, bound, order))
  last_piece (suc n) net low high bound lower upper order =
      let next = next_piece now apart net low high lower upper order in
      let is = IsPiece-neighbour now next.piece next.listed in
      let begins = next.begins in
      elim (cases_lt next.piece.high high) [
        | inr there ↦ record {
          piece = next.piece;
          listed = next.listed;
          net_is = next.net_is;
          begins = omega (arith, begins);
          ends = omega (arith, there, next.ends);
        }
        | inl under ↦
            let rest = last_piece n net next.piece.high high (omega (arith, bound, begins, is.order))
            (subst (λ m. HoldsLine now m next.piece.high) next.net_is (upper_line now apart next.piece is)) upper under in
            record {
              piece = rest.piece;
              listed = rest.listed;
              net_is = rest.net_is;
              begins = omega (arith, rest.begins, begins, is.order);
              ends = rest.ends;
            }
      ]
