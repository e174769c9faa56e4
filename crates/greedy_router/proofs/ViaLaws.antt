use Rattle.std.proofs.Common.{◌≡◌, ◌⊎◌, inl, inr, ◌<◌, ◌&&◌, ◌||◌, eqb, leb, ℕ, List, [], ◌∷◌, Bool, true, false, cond, map, refl, sym, subst, ap, ◌∙◌, arith, Contains, eqb-true, eq-eqb}
use Rattle.std.proofs.lemmas.Bool.{cases_lt, cond-true, cond-false, ne_eqb, le-leb, leb-true, or_cases, or_left, or_right, and_parts, and_from}
use Rattle.std.proofs.lemmas.List.Elements.{Contains-append_cases, Contains-append_left, Contains-append_right}
use Rattle.std.specs.List.{list_any}
use Rattle.channel_model.specs.Pins.{Pins}
use Rattle.greedy_column.specs.declared.column.Track.{Track}
use Rattle.greedy_column.specs.declared.column.Column.{Column}
use Rattle.greedy_column.specs.Tracks.{ids, held_by, line_of}
use Rattle.greedy_column.specs.Replay.{entered, after}
use Rattle.greedy_column.specs.Verticals.{Vertical, line_at, pin_verticals, between, joined_verticals, verticals, IsOver}
use Rattle.greedy_column.specs.Neighbours.{Holds}
use Rattle.greedy_column.specs.Lawful.{IsLawful}
use Rattle.greedy_column.specs.State.{AreNumbered}
use Rattle.greedy_router.specs.SweepWiring.{is_of, meets_track, has_via, net_there}
use Rattle.greedy_router.proofs.OrderLaws.{IsEarlier, ports-order, over_before}
use Rattle.greedy_column.proofs.EnteredLaws.{now-apart, target-free}
use Rattle.greedy_router.proofs.LeftLaws.{goes-on}
use Rattle.greedy_column.proofs.VerticalLaws.{join_is, one_on_line, piece_of, vertical_kind}
use Rattle.greedy_router.proofs.VerticalLaws.{IsUpright, upright}
use Rattle.std_laws.proofs.Members.{member-head, member-tail, map-member, map-cases, any-cases, any-member}

-- a track that a net holds stands
pub held-there : (tracks : List Track) (id : ℕ) → 0 < held_by tracks id → Contains (ids tracks) id
held-there [] id some = absurd (omega (arith, some))
held-there (t ∷ tracks) id some = step (eqb t.id id) refl some (λ h. held-there tracks id h) where
  step : (b : Bool) → eqb t.id id ≡ b → 0 < cond b t.net (held_by tracks id) → (0 < held_by tracks id → Contains (ids tracks) id) → Contains (t.id ∷ ids tracks) id
  step true is some later = subst (λ i. Contains (t.id ∷ ids tracks) i) (eqb-true t.id id is) (member-head t.id (ids tracks))
  step false is some later = member-tail t.id (ids tracks) id (later some)

-- the net of a wire on a track
pub net_there-held : (now later : List Track) (net id : ℕ) → Holds now net id → net_there now later id ≡ net
net_there-held now later net id held =
    let some = held.net_is in
    cond-false (eqb (held_by now id) 0) (held_by later id) (held_by now id) (ne_eqb (held_by now id) 0 (λ none. omega (arith, some, held.held, none))) ∙ held.held

pub net_there-free : (now later : List Track) (net id : ℕ) → held_by now id ≡ 0 → Holds later net id → net_there now later id ≡ net
net_there-free now later net id free held =
    cond-true (eqb (held_by now id) 0) (held_by later id) (held_by now id) (eq-eqb (held_by now id) 0 free) ∙ held.held

-- a piece between two tracks covers both
pub between_net : (now : List Track) (a b : ℕ) → (between now (a, b)).net ≡ held_by now a
between_net now a b = step (leb (line_of (ids now) a) (line_of (ids now) b)) where
  step : (c : Bool) → (cond c (piece_of (held_by now a) a b) (piece_of (held_by now a) b a)).net ≡ held_by now a
  step true = refl
  step false = refl

pub between_over : (now : List Track) (order : List ℕ) (a b : ℕ) → line_at order (between now (a, b)).low < line_at order (between now (a, b)).high
    → IsOver order (between now (a, b)) (line_of order a) × IsOver order (between now (a, b)) (line_of order b)
between_over now order a b upward = step (leb (line_of (ids now) a) (line_of (ids now) b)) upward where
  step : (c : Bool) → line_at order (cond c (piece_of (held_by now a) a b) (piece_of (held_by now a) b a)).low
      < line_at order (cond c (piece_of (held_by now a) a b) (piece_of (held_by now a) b a)).high
      → IsOver order (cond c (piece_of (held_by now a) a b) (piece_of (held_by now a) b a)) (line_of order a)
      × IsOver order (cond c (piece_of (held_by now a) a b) (piece_of (held_by now a) b a)) (line_of order b)
  step true upward = ((omega arith, omega (arith, upward)), (omega (arith, upward), omega arith))
  step false upward = ((omega (arith, upward), omega arith), (omega arith, omega (arith, upward)))

module _ (pins : Pins) (column fresh : ℕ) (before : List Track) (done : Column) (numbered : AreNumbered fresh before)
    (lawful : IsLawful pins column fresh before done) (order : List ℕ) (earlier : IsEarlier (ids (entered pins column done before)) order) where
  abbrev now : List Track
  now = entered pins column done before

  abbrev later : List Track
  later = after pins column done before

  abbrev vs : List Vertical
  vs = verticals pins column done now

  abbrev has : ℕ → Type 0
  has id = has_via order now (pin_verticals pins column done) done id ≡ true

  pub in_joined : (v : Vertical) → Contains (pin_verticals pins column done) v → Contains (joined_verticals pins column done now) v
  in_joined v member = Contains-append_left (pin_verticals pins column done) (map (between now) done.joins) v member

  pub in_all : (v : Vertical) → Contains (joined_verticals pins column done now) v → Contains vs v
  in_all v member = Contains-append_left (joined_verticals pins column done now) (map (between now) done.moves) v member

  join_in : (low high : ℕ) → Contains done.joins (low, high) → Contains vs (between now (low, high))
  join_in low high member =
      in_all (between now (low, high)) (Contains-append_right (pin_verticals pins column done) (map (between now) done.joins) (between now (low, high))
      (map-member (between now) done.joins (low, high) member))

  pub move_in : (old new : ℕ) → Contains done.moves (old, new) → Contains vs (between now (old, new))
  move_in old new member =
      Contains-append_right (joined_verticals pins column done now) (map (between now) done.moves) (between now (old, new))
      (map-member (between now) done.moves (old, new) member)

  upright_in : (v : Vertical) → Contains vs v → IsUpright pins column before done fresh numbered lawful v
  upright_in v member = upright pins column before done fresh numbered lawful v (vertical_kind pins column before done fresh numbered lawful v member)

  -- in the end too the lower end of a vertical lies below the upper one
  pub upward : (v : Vertical) → Contains vs v → line_at order v.low < line_at order v.high
  upward v member =
      let is = upright_in v member in
      elim (cases_lt (line_at order v.low) (line_at order v.high)) [
        | inl less ↦ less
        | inr more ↦
            let back = (ports-order (ids now) order earlier v.high v.low is.drawn.high is.drawn.low).1 more in
            let less = is.upward in
            absurd (omega (arith, back, less))
      ]

  -- what a via is on: a vertical of its net, on a track that the net holds or to which it moves
  pub record IsVia (id : ℕ) : Type 0 where
    pub net : ℕ
    pub some : 0 < net
    pub is : net_there now later id ≡ net
    pub v : Vertical
    pub member : Contains vs v
    pub net_is : v.net ≡ net
    pub over : IsOver order v (line_of order id)
    pub held : Holds now net id ⊎ ((old : ℕ) × Contains done.moves (old, id) × Holds now net old)

  on_pin : (id : ℕ) (v : Vertical) → Contains (pin_verticals pins column done) v → meets_track order now id v ≡ true → IsVia id
  on_pin id v member meets =
      let both = and_parts (eqb v.net (held_by now id)) (leb (line_at order v.low) (line_of order id) && leb (line_of order id) (line_at order v.high)) meets in
      let lines = and_parts (leb (line_at order v.low) (line_of order id)) (leb (line_of order id) (line_at order v.high)) both.1 in
      let is : v.net ≡ held_by now id = eqb-true v.net (held_by now id) both.0 in
      let inside = in_all v (in_joined v member) in
      let some = (upright_in v inside).some in
      let held : Holds now v.net id = record { net_is = some; there = held-there now id (omega (arith, some, is)); held = sym is } in
      record {
        net = v.net;
        some = some;
        is = net_there-held now later v.net id held;
        v = v;
        member = inside;
        net_is = refl;
        over = (leb-true (line_at order v.low) (line_of order id) lines.0, leb-true (line_of order id) (line_at order v.high) lines.1);
        held = inl held;
      }

  on_held : (net id : ℕ) (v : Vertical) → Holds now net id → Contains vs v → v.net ≡ net → IsOver order v (line_of order id) → IsVia id
  on_held net id v held member net_is over = record {
    net = net;
    some = held.net_is;
    is = net_there-held now later net id held;
    v = v;
    member = member;
    net_is = net_is;
    over = over;
    held = inl held;
  }

  on_join : (id low high : ℕ) → Contains done.joins (low, high) → is_of id (low, high) ≡ true → IsVia id
  on_join id low high member of =
      let pair = lawful.joins low high member in
      let inside = join_in low high member in
      let both = between_over now order low high (upward (between now (low, high)) inside) in
      let net_is : (between now (low, high)).net ≡ pair.0 = between_net now low high ∙ pair.1.lower.held in
      elim (or_cases (eqb low id) (eqb high id) of) [
        | inl first ↦ subst (λ i. IsVia i) (eqb-true low id first) (on_held pair.0 low (between now (low, high)) pair.1.lower inside net_is both.0)
        | inr second ↦ subst (λ i. IsVia i) (eqb-true high id second) (on_held pair.0 high (between now (low, high)) pair.1.upper inside net_is both.1)
      ]

  on_move : (id old new : ℕ) → Contains done.moves (old, new) → is_of id (old, new) ≡ true → IsVia id
  on_move id old new member of =
      let move = lawful.moves old new member in
      let net = move.held.0 in
      let held = move.held.1 in
      let inside = move_in old new member in
      let both = between_over now order old new (upward (between now (old, new)) inside) in
      let net_is : (between now (old, new)).net ≡ net = between_net now old new ∙ held.held in
      elim (or_cases (eqb old id) (eqb new id) of) [
        | inl first ↦ subst (λ i. IsVia i) (eqb-true old id first) (on_held net old (between now (old, new)) held inside net_is both.0)
        | inr second ↦ subst (λ i. IsVia i) (eqb-true new id second) (record {
          net = net;
          some = held.net_is;
          is = net_there-free now later net new (target-free pins column fresh before done numbered lawful old new move).1
              (goes-on pins column fresh before done numbered lawful net old new held move.goes_on (inr member));
          v = between now (old, new);
          member = inside;
          net_is = net_is;
          over = both.1;
          held = inr (old, member, held);
        })
      ]

  pub via_is : (id : ℕ) → has id → IsVia id
  via_is id test =
      elim (or_cases (list_any (meets_track order now id) (pin_verticals pins column done)) (list_any (is_of id) done.joins || list_any (is_of id) done.moves) test) [
        | inl pin ↦ let found = any-cases (meets_track order now id) (pin_verticals pins column done) pin in on_pin id found.0 found.1 found.2
        | inr other ↦ elim (or_cases (list_any (is_of id) done.joins) (list_any (is_of id) done.moves) other) [
          | inl join ↦ let found = any-cases (is_of id) done.joins join in on_join id found.0.0 found.0.1 found.1 found.2
          | inr move ↦ let found = any-cases (is_of id) done.moves move in on_move id found.0.0 found.0.1 found.1 found.2
        ]
      ]

  -- where there is a via
  pub has-pin : (id : ℕ) (v : Vertical) → Contains (pin_verticals pins column done) v → Holds now v.net id → IsOver order v (line_of order id) → has id
  has-pin id v member held over =
      or_left (list_any (meets_track order now id) (pin_verticals pins column done)) (list_any (is_of id) done.joins || list_any (is_of id) done.moves)
      (any-member (meets_track order now id) (pin_verticals pins column done) v member
      (and_from (eqb v.net (held_by now id)) (leb (line_at order v.low) (line_of order id) && leb (line_of order id) (line_at order v.high)) (eq-eqb v.net (held_by now id) (sym held.held))
      (and_from (leb (line_at order v.low) (line_of order id)) (leb (line_of order id) (line_at order v.high)) (le-leb (line_at order v.low) (line_of order id) over.0)
      (le-leb (line_of order id) (line_at order v.high) over.1))))

  has-join : (id low high : ℕ) → Contains done.joins (low, high) → is_of id (low, high) ≡ true → has id
  has-join id low high member of =
      or_right (list_any (meets_track order now id) (pin_verticals pins column done)) (list_any (is_of id) done.joins || list_any (is_of id) done.moves)
      (or_left (list_any (is_of id) done.joins) (list_any (is_of id) done.moves) (any-member (is_of id) done.joins (low, high) member of))

  has-move : (id old new : ℕ) → Contains done.moves (old, new) → is_of id (old, new) ≡ true → has id
  has-move id old new member of =
      or_right (list_any (meets_track order now id) (pin_verticals pins column done)) (list_any (is_of id) done.joins || list_any (is_of id) done.moves)
      (or_right (list_any (is_of id) done.joins) (list_any (is_of id) done.moves) (any-member (is_of id) done.moves (old, new) member of))

  pub has-source : (old new : ℕ) → Contains done.moves (old, new) → has old
  has-source old new member = has-move old old new member (or_left (eqb old old) (eqb new old) (eq-eqb old old refl))

  pub has-target : (old new : ℕ) → Contains done.moves (old, new) → has new
  has-target old new member = has-move new old new member (or_right (eqb old new) (eqb new new) (eq-eqb new new refl))

  -- a vertical of a pin or a join has a via on each track of its net that it covers
  pub has-joined : (id : ℕ) (v : Vertical) → Contains (joined_verticals pins column done now) v → Holds now v.net id → IsOver (ids now) v (line_of (ids now) id) → has id
  has-joined id v member held over = elim (Contains-append_cases (pin_verticals pins column done) (map (between now) done.joins) v member) [
    | inl pin ↦
        let is = upright_in v (in_all v member) in
        has-pin id v pin held ((over_before (ids now) order earlier v id is.drawn held.there).0 over)
    | inr join ↦
        let from = map-cases (between now) done.joins v join in
        let low : ℕ = from.0.0 in
        let high : ℕ = from.0.1 in
        let pair = lawful.joins low high from.1 in
        let is : piece_of pair.0 low high ≡ v = sym (join_is pins column before done fresh numbered lawful pair.0 low high pair.1) ∙ from.2 in
        let own : Holds now pair.0 id = subst (λ n. Holds now n id) (sym (ap (λ (w : Vertical). w.net) is)) held in
        let lines : IsOver (ids now) (piece_of pair.0 low high) (line_of (ids now) id) = subst (λ w. IsOver (ids now) w (line_of (ids now) id)) (sym is) over in
        let apart = now-apart pins column fresh before done numbered lawful in
        elim (cases_lt (line_of (ids now) low) (line_of (ids now) id)) [
          | inl above ↦
              let next = pair.1.next id own above in
              let same = one_on_line (ids now) high id apart pair.1.upper.there own.there (omega (arith, next, lines.1)) in
              has-join id low high from.1 (or_right (eqb low id) (eqb high id) (eq-eqb high id same))
          | inr at ↦
              let same = one_on_line (ids now) low id apart pair.1.lower.there own.there (omega (arith, at, lines.0)) in
              has-join id low high from.1 (or_left (eqb low id) (eqb high id) (eq-eqb low id same))
        ]
  ]
