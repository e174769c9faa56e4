use Rattle.std.proofs.Common.{◌≡◌, ◌⊎◌, inl, inr, ◌<◌, ◌≤◌, not, eqb, ℕ, zero, suc, List, [], ◌∷◌, Bool, true, false, cond, length, filter, map, refl, sym, subst, ap, ◌∙◌, arith, Contains, eqb-true, eq-eqb}
use Rattle.std.proofs.lemmas.Bool.{cases_lt, eqb-false}
use Rattle.greedy_column.specs.declared.column.Track.{Track}
use Rattle.greedy_column.specs.declared.span.Span.{Span}
use Rattle.greedy_column.specs.Tracks.{ids}
use Rattle.greedy_column.specs.Verticals.{Vertical}
use Rattle.greedy_column.specs.Neighbours.{Holds, Grouped, alone}
use Rattle.greedy_column.specs.Lines.{id_on, net_on, is_held, held_lines}
use Rattle.greedy_column.specs.Joining.{neighbours, span_in, is_joined}
use Rattle.greedy_column.specs.Ending.{chain_from, is_joined_below, joined_pairs}
use Rattle.greedy_column.proofs.IdLaws.{Apart}
use Rattle.greedy_column.proofs.PairLaws.{AreAscending, neighbours-ascending, AreAscending-filter}
use Rattle.greedy_column.proofs.TableLaws.{line_of-line}
use Rattle.greedy_column.proofs.PartLaws.{Apart-lines_from}
use Rattle.greedy_column.proofs.DrawnLaws.{IsPiece-neighbour}
use Rattle.greedy_column.proofs.GroupLaws.{HoldsLine, one_holder, Holds-from, lower_line, upper_line, Grouped-trans, Grouped-sym, Grouped-net, piece_linked, linked_joined, last_piece}
use Rattle.greedy_column.proofs.HeldLineLaws.{listed_held, HoldsLine-listed}
use Rattle.std_laws.proofs.Members.{member-none, member-only, member-head, member-tail, member-cases, filter-member, filter-from, any-cases, any-member}

-- what holds of a chain's first line, and goes from the lower end of a pair to the upper one, holds of each line of the chain
pub along_chain : (P : ℕ → Type 0) (pairs : List Span) (first line : ℕ) → P first → ((pair : Span) → Contains pairs pair → P pair.low → P pair.high)
    → Contains (chain_from pairs first) line → P line
along_chain P [] first line begins onward member = subst P (member-only first line member) begins
along_chain P (pair ∷ pairs) first line begins onward member =
    step (eqb pair.low first) refl member
    (λ up inside. along_chain P pairs pair.high line up (λ other there. onward other (member-tail pair pairs other there)) inside)
    (λ inside. along_chain P pairs first line begins (λ other there. onward other (member-tail pair pairs other there)) inside) where
      step : (b : Bool) → eqb pair.low first ≡ b → Contains (cond b (first ∷ chain_from pairs pair.high) (chain_from pairs first)) line
          → (P pair.high → Contains (chain_from pairs pair.high) line → P line) → (Contains (chain_from pairs first) line → P line) → P line
      step true is member up past = elim (member-cases first (chain_from pairs pair.high) line member) [
        | inl here ↦ subst P here begins
        | inr later ↦ up (onward pair (member-head pair pairs) (subst P (sym (eqb-true pair.low first is)) begins)) later
      ]
      step false is member up past = past member

-- a chain begins with its first line
pub chain_first : (pairs : List Span) (first : ℕ) → Contains (chain_from pairs first) first
chain_first [] first = member-head first []
chain_first (pair ∷ pairs) first = step (eqb pair.low first) (chain_first pairs first) where
  step : (b : Bool) → Contains (chain_from pairs first) first → Contains (cond b (first ∷ chain_from pairs pair.high) (chain_from pairs first)) first
  step true later = member-head first (chain_from pairs pair.high)
  step false later = later

-- the lines of a chain over ascending pairs are its first line, or lie above the lowest of the pairs
chain_lines : (tracks least : ℕ) (pairs : List Span) (first line : ℕ) → AreAscending tracks least pairs → Contains (chain_from pairs first) line
    → (line ≡ first) ⊎ (least < line)
chain_lines tracks least pairs first line ascending member =
    along_chain (λ l. (l ≡ first) ⊎ (least < l)) pairs first line (inl refl) (λ pair there low. let bounds = ends pairs least pair ascending there in inr (omega (arith, bounds.0, bounds.1))) member where
      ends : (pairs : List Span) (least : ℕ) (pair : Span) → AreAscending tracks least pairs → Contains pairs pair → (least ≤ pair.low) × (pair.low < pair.high)
      ends [] least pair ascending there = absurd (member-none pair there)
      ends (one ∷ pairs) least pair (begins, upward, within, later) there = elim (member-cases one pairs pair there) [
        | inl same ↦ (
          omega (arith, begins, ap (λ (s : Span). s.low) same),
          omega (arith, upward, ap (λ (s : Span). s.low) same, ap (λ (s : Span). s.high) same),
        )
        | inr behind ↦ let bounds = ends pairs (suc one.low) pair later behind in (omega (arith, begins, bounds.0), bounds.1)
      ]

least_low : (tracks least : ℕ) (pairs : List Span) (pair : Span) → AreAscending tracks least pairs → Contains pairs pair → least ≤ pair.low
least_low tracks least [] pair ascending there = absurd (member-none pair there)
least_low tracks least (one ∷ pairs) pair (begins, upward, within, later) there = elim (member-cases one pairs pair there) [
  | inl same ↦ omega (arith, begins, ap (λ (s : Span). s.low) same)
  | inr behind ↦ let bound = least_low tracks (suc one.low) pairs pair later behind in omega (arith, begins, bound)
]

-- with the lower end of a pair a chain has the upper one
pub chain_onward : (tracks least : ℕ) (pairs : List Span) (first : ℕ) (pair : Span) → AreAscending tracks least pairs → Contains pairs pair
    → Contains (chain_from pairs first) pair.low → Contains (chain_from pairs first) pair.high
chain_onward tracks least [] first pair ascending there member = absurd (member-none pair there)
chain_onward tracks least (one ∷ pairs) first pair (begins, upward, within, later) there member =
    step (eqb one.low first) refl member (λ up inside. chain_onward tracks (suc one.low) pairs up pair later inside) where
      step : (b : Bool) → eqb one.low first ≡ b → Contains (cond b (first ∷ chain_from pairs one.high) (chain_from pairs first)) pair.low
          → ((up : ℕ) → Contains pairs pair → Contains (chain_from pairs up) pair.low → Contains (chain_from pairs up) pair.high)
          → Contains (cond b (first ∷ chain_from pairs one.high) (chain_from pairs first)) pair.high
      step true is member onward = elim (member-cases one pairs pair there) [
        | inl same ↦ member-tail first (chain_from pairs one.high) pair.high
            (subst (λ l. Contains (chain_from pairs one.high) l) (ap (λ (s : Span). s.high) same) (chain_first pairs one.high))
        | inr behind ↦ elim (member-cases first (chain_from pairs one.high) pair.low member) [
          | inl here ↦ absurd (omega (arith, here, eqb-true one.low first is, least_low tracks (suc one.low) pairs pair later behind))
          | inr inside ↦ member-tail first (chain_from pairs one.high) pair.high (onward one.high behind inside)
        ]
      ]
      step false is member onward = elim (member-cases one pairs pair there) [
        | inr behind ↦ onward first behind member
        | inl same ↦
            let low : one.low ≡ pair.low = ap (λ (s : Span). s.low) same in
            elim (chain_lines tracks (suc one.low) pairs first pair.low later member) [
              | inl here ↦ absurd (eqb-false one.low first is (low ∙ here))
              | inr above ↦ absurd (omega (arith, above, low))
            ]
      ]

Apart-filter : (p : ℕ → Bool) (xs : List ℕ) → Apart xs → Apart (filter p xs)
Apart-filter p [] apart = tt
Apart-filter p (x ∷ xs) apart = step (p x) (Apart-filter p xs apart.1) where
  step : (b : Bool) → Apart (filter p xs) → Apart (cond b (x ∷ filter p xs) (filter p xs))
  step true rest = ((λ member. apart.0 (filter-from p xs x member).0), rest)
  step false rest = rest

-- the lines that begin groups, and how the groups divide the lines
module _ (now : List Track) (apart : Apart (ids now)) (vs : List Vertical) (spans : List Span) (drawn : map (span_in (ids now)) vs ≡ spans) where
  abbrev pub joined : List Span
  joined = joined_pairs spans (neighbours now)

  abbrev pub firsts : List ℕ
  firsts = filter (λ line. not (is_joined_below joined line)) (held_lines now)

  pub joined_is : (pair : Span) → Contains joined pair → Contains (neighbours now) pair × (is_joined spans pair ≡ true)
  joined_is pair member = filter-from (is_joined spans) (neighbours now) pair member

  ascending : AreAscending (length now) 1 joined
  ascending = AreAscending-filter (length now) 1 (is_joined spans) (neighbours now) (neighbours-ascending now)

  -- a line of a group, from its first one
  pub record IsInGroup (net first line : ℕ) : Type 0 where
    pub holds : HoldsLine now net line
    pub linked : Grouped now vs (id_on now first) (id_on now line)

  pub in_group : (net first line : ℕ) → HoldsLine now net first → Contains (chain_from joined first) line → IsInGroup net first line
  in_group net first line holds member =
      along_chain (λ l. IsInGroup net first l) joined first line (record { holds = holds; linked = alone })
      (λ pair there low.
      let from = joined_is pair there in
      let is = IsPiece-neighbour now pair from.0 in
      let same : pair.net ≡ net = sym (lower_line now apart pair is).held ∙ low.holds.held in
      record {
        holds = subst (λ n. HoldsLine now n pair.high) same (upper_line now apart pair is);
        linked = Grouped-trans now apart vs spans drawn low.linked (piece_linked now apart vs spans drawn pair is from.1);
      })
      member

  -- each line that a net holds is in a group
  pub record InSome (line : ℕ) : Type 0 where
    pub first : ℕ
    pub begins : Contains firsts first
    pub member : Contains (chain_from joined first) line

  pub in_some : (n net line : ℕ) → line ≤ n → HoldsLine now net line → InSome line
  in_some zero net line bound holds = absurd (omega (arith, bound, holds.begins))
  in_some (suc n) net line bound holds = step (is_joined_below joined line) refl (λ m other less held. in_some n m other less held) where
    step : (b : Bool) → is_joined_below joined line ≡ b → ((m other : ℕ) → other ≤ n → HoldsLine now m other → InSome other) → InSome line
    step false is lower = record {
      first = line;
      begins = filter-member (λ l. not (is_joined_below joined l)) (held_lines now) line (listed_held now net line holds) (ap not is);
      member = chain_first joined line;
    }
    step true is lower =
        let found = any-cases (λ (pair : Span). eqb pair.high line) joined is in
        let pair = found.0 in
        let piece = IsPiece-neighbour now pair (joined_is pair found.1).0 in
        let high : pair.high ≡ line = eqb-true pair.high line found.2 in
        let below = lower pair.net pair.low (omega (arith, bound, high, piece.order)) (lower_line now apart pair piece) in
        record {
          first = below.first;
          begins = below.begins;
          member = subst (λ l. Contains (chain_from joined below.first) l) high (chain_onward (length now) 1 joined below.first pair ascending found.1 below.member);
        }

  pub first_holds : (first : ℕ) → Contains firsts first → HoldsLine now (net_on now first) first
  first_holds first member = HoldsLine-listed now first (filter-from (λ l. not (is_joined_below joined l)) (held_lines now) first member).0

  -- the first line of a group is linked to none below it
  never_below : (first other : ℕ) → Contains firsts first → Contains firsts other → Grouped now vs (id_on now first) (id_on now other) → first < other → ⊥
  never_below first other one two linked below =
      let net : ℕ = net_on now first in
      let lower = first_holds first one in
      let upper_own = first_holds other two in
      let held = Holds-from now apart net first lower in
      let same : net_on now other ≡ net =
      one_holder now (net_on now other) net (id_on now other) (Holds-from now apart (net_on now other) other upper_own) (Grouped-net now apart vs spans drawn net linked held) in
      let upper : HoldsLine now net other = subst (λ n. HoldsLine now n other) same upper_own in
      let last = last_piece now apart vs spans drawn other net first other (omega arith) lower upper below in
      let piece = last.piece in
      let is = IsPiece-neighbour now piece last.listed in
      let low = line_of-line now first apart lower.begins lower.within in
      let high = line_of-line now other apart upper.begins upper.within in
      let covered : is_joined spans piece ≡ true =
      linked_joined now apart vs spans drawn piece is linked (subst (λ n. Holds now n (id_on now first)) (sym last.net_is) held)
      (inl (omega (arith, low, last.begins), omega (arith, high, last.ends))) in
      let listed : Contains joined piece = filter-member (is_joined spans) (neighbours now) piece last.listed covered in
      let is_below : is_joined_below joined other ≡ true = any-member (λ (pair : Span). eqb pair.high other) joined piece listed (eq-eqb piece.high other last.ends) in
      let free = (filter-from (λ l. not (is_joined_below joined l)) (held_lines now) other two).1 in
      cc (ap not is_below, free)

  -- linked lines are in one group
  pub one_group : (first other line above : ℕ) → Contains firsts first → Contains firsts other → Contains (chain_from joined first) line
      → Contains (chain_from joined other) above → Grouped now vs (id_on now line) (id_on now above) → first ≡ other
  one_group first other line above one two member there linked =
      let begins = in_group (net_on now first) first line (first_holds first one) member in
      let ends = in_group (net_on now other) other above (first_holds other two) there in
      let whole : Grouped now vs (id_on now first) (id_on now other) =
      Grouped-trans now apart vs spans drawn begins.linked
      (Grouped-trans now apart vs spans drawn linked (Grouped-sym now apart vs spans drawn ends.linked)) in
      elim (cases_lt first other) [
        | inl below ↦ absurd (never_below first other one two whole below)
        | inr not_below ↦ elim (cases_lt other first) [
          | inl over ↦ absurd (never_below other first two one (Grouped-sym now apart vs spans drawn whole) over)
          | inr not_over ↦ omega (arith, not_below, not_over)
        ]
      ]

  pub Apart-firsts : Apart firsts
  Apart-firsts = Apart-filter (λ l. not (is_joined_below joined l)) (held_lines now) (Apart-lines_from is_held 1 now)
