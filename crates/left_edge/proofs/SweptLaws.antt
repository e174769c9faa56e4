use Rattle.std.proofs.Common.{◌≡◌, ◌≢◌, ◌<◌, ◌≤◌, ◌+◌, ◌&&◌, ◌||◌, not, Bool, true, false, cond, eqb, ltb, ℕ, suc, List, inl, inr, sym, ap, subst, ◌∙◌, arith, get_or, length, map, max, set}
use Rattle.std.proofs.lemmas.Bool.{cases_Bool, cases_eq, cases_lt, cond-true, cond-false, both_ways}
use Rattle.std.proofs.lemmas.Bool.Decides.{nat_tests}
use Rattle.std.proofs.lemmas.List.{get_or-set_same, get_or-set_other, length-set, get_or-map, length-map, same_lists, get_or_default}
use Rattle.std.proofs.lemmas.List.Elements.{Contains-get_or}
use Rattle.std.proofs.lemmas.List.Sums.{position_or_len_is}
use Rattle.std.specs.BTreeSet.{contains}
use Rattle.std.specs.List.{position_or_len}
use Rattle.std.specs.Ordering.{nat_cmp}
use Rattle.channel_model.specs.Pins.{Pins, IsChannel}
use Rattle.channel_model.specs.Nets.{nets_of}
use Rattle.channel_model.proofs.NetsOf.{nets-are}
use Rattle.left_edge.specs.declared.sweep.TracksSoFar.{TracksSoFar}
use Rattle.left_edge.specs.Columns.{IsUnconstrained, net_at}
use Rattle.left_edge.specs.Spans.{span}
use Rattle.left_edge.specs.Swept.{IsSwept}
use Rattle.left_edge.specs.Tracks.{begins, ends, is_past, with_net, lasts, level_of}
use Rattle.left_edge.proofs.ColumnLaws.{stands_at}
use Rattle.left_edge.proofs.SpanLaws.{IsSpanOf, has_span}
use Rattle.left_edge.proofs.TrackLaws.{Stands, holder, Held, held, begins-true, begins-from, ends-true, ends-from, not_past-from, lasts-begin, lasts-same, lasts-none, level_of-begin, with_net-at, with_net-other, length-with_net}
use Rattle.std_laws.proofs.Increasing.{increasing-same}

-- tests of numbers
both-true : (level count : ℕ) (past : Bool) → level < count → (ltb level count && past) ≡ past
both-true level count past within = grind (arith, nat_tests)

both-past : (level count : ℕ) (past : Bool) → count ≤ level → (ltb level count && past) ≡ false
both-past level count past outside = grind (arith, nat_tests)

still : (level count last column : ℕ) → (level < count → last ≢ column)
    → (ltb level count && ltb last column) ≡ (ltb level count && ltb last (suc column))
still level count last column other =
    elim (cases_lt level count) [
      | inl within ↦ both-true level count _ within ∙ same (other within) ∙ sym (both-true level count _ within)
      | inr outside ↦ both-past level count _ outside ∙ sym (both-past level count _ outside)
    ]
  where
    same : last ≢ column → ltb last column ≡ ltb last (suc column)
    same apart = elim (cases_lt last column) [
      | inl less ↦ grind (arith, nat_tests)
      | inr more ↦ let above : column < last = omega arith in grind (arith, nat_tests)
    ]

freed : (level given count last column : ℕ) → (level < count → last ≡ column → level ≡ given) → (level ≡ given → (level < count) × (last ≡ column))
    → (eqb level given || (ltb level count && ltb last column)) ≡ (ltb level count && ltb last (suc column))
freed level given count last column only there =
    elim (cases_eq level given) [
      | inl same ↦ let at = there same in again same at.0 at.1
      | inr other ↦ closed other ∙ still level count last column (λ within ending. other (only within ending))
    ]
  where
    again : level ≡ given → level < count → last ≡ column → (eqb level given || (ltb level count && ltb last column)) ≡ (ltb level count && ltb last (suc column))
    again same within ending = grind (arith, nat_tests)

    closed : level ≢ given → (eqb level given || (ltb level count && ltb last column)) ≡ (ltb level count && ltb last column)
    closed other = grind (arith, nat_tests)

module _ (pins : Pins) (channel : IsChannel pins) (free : IsUnconstrained pins) where
  abbrev nets : List ℕ
  nets = nets_of pins

  span_at : (net : ℕ) → Stands pins net → IsSpanOf pins net (span pins net)
  span_at net stands = (has_span pins channel free net (stands_at pins (span pins net).first net stands.some stands.starts)).1

  stands_place : (place : ℕ) → place < length nets → Stands pins (get_or nets place 0)
  stands_place place within =
      let stands = (nets-are pins).standing (get_or nets place 0) (Contains-get_or nets place 0 within) in
      record { some = stands.0; starts = (has_span pins channel free (get_or nets place 0) stands).1.starts }

  -- before the first column
  pub swept-none : (sweep : TracksSoFar) → sweep.count ≡ 0 → ((level : ℕ) → contains nat_cmp sweep.free level ≡ false)
      → length sweep.levels.items ≡ length nets → IsSwept pins 0 0 sweep
  swept-none sweep count none long = record {
    count = rw (lasts-none pins) count;
    free = λ level. none level ∙ sym (both-past level (length (lasts pins 0)) _ (omega (arith, ap length (lasts-none pins))));
    long = long;
    levels = λ place within before. absurd (omega arith);
  }

  -- a column where no net begins
  pub swept-same : (column : ℕ) (sweep : TracksSoFar) → IsSwept pins column column sweep → begins pins column ≡ false → IsSwept pins (suc column) column sweep
  swept-same column sweep was none =
      let same = lasts-same pins column none in
      record {
        count = rw same was.count;
        free = rw same was.free;
        long = was.long;
        levels = λ place within before. was.levels place within (earlier place within before);
      }
    where
      earlier : (place : ℕ) → place < length nets → (span pins (get_or nets place 0)).first < suc column → (span pins (get_or nets place 0)).first < column
      earlier place within before =
          elim (cases_eq (span pins (get_or nets place 0)).first column) [
            | inl first ↦
                let stands = stands_place place within in
                let at : net_at pins column ≡ get_or nets place 0 = ap (net_at pins) (sym first) ∙ stands.starts in
                absurd (both_ways _ none (begins-from pins column (rw at stands.some) (ap (λ n. (span pins n).first) at ∙ first)))
            | inr other ↦ omega arith
          ]

  -- the lowest free track is that of the net that begins
  module _ (column : ℕ) (old : TracksSoFar) (was : IsSwept pins column column old) (is : begins pins column ≡ true) (level : ℕ)
      (lowest : (l : ℕ) → l < level → contains nat_cmp old.free l ≡ false)
      (full : contains nat_cmp old.free level ≡ false → (level ≡ old.count) × ((l : ℕ) → contains nat_cmp old.free l ≡ false)) where
    abbrev past : ℕ → Bool
    past = is_past pins column

    abbrev before : List ℕ
    before = lasts pins column

    free_there : contains nat_cmp old.free level ≡ true → (level < length before) × (past (get_or before level 0) ≡ true)
    free_there is_free =
        elim (cases_lt level (length before)) [
          | inl within ↦ (within, sym (both-true level (length before) (past (get_or before level 0)) within) ∙ sym (was.free level) ∙ is_free)
          | inr outside ↦ absurd (both_ways _ (was.free level ∙ both-past level (length before) (past (get_or before level 0)) outside) is_free)
        ]

    level_within : level ≤ length before
    level_within =
        elim (cases_Bool (contains nat_cmp old.free level)) [
          | inl is_free ↦ omega (arith, (free_there is_free).0)
          | inr taken ↦ omega (arith, (full taken).0, was.count)
        ]

    pub lowest_is : position_or_len past before ≡ level
    lowest_is =
        position_or_len_is past before level 0 level_within
        (λ k below. sym (both-true k (length before) (past (get_or before k 0)) (omega (arith, level_within))) ∙ sym (was.free k) ∙ lowest k below)
        (λ within. elim (cases_Bool (contains nat_cmp old.free level)) [
          | inl is_free ↦ (free_there is_free).1
          | inr taken ↦ absurd (omega (arith, (full taken).0, was.count))
        ])

    net : ℕ
    net = net_at pins column

    pub given : (new : TracksSoFar) (place : ℕ) → place < length nets → get_or nets place 0 ≡ net_at pins column
        → new.count ≡ cond (contains nat_cmp old.free level) old.count (old.count + 1)
        → ((l : ℕ) → contains nat_cmp new.free l ≡ (contains nat_cmp old.free l && not (eqb l level)))
        → new.levels.items ≡ set old.levels.items place level → IsSwept pins (suc column) column new
    given new place within at counted left stored = record {
      count = rw made (counts ∙ sym long);
      free = rw made opened;
      long = rw stored (length-set old.levels.items place level ∙ was.long);
      levels = rw stored levelled;
    }
      where
        starts : (0 < net_at pins column) × ((span pins (net_at pins column)).first ≡ column)
        starts = begins-true pins column is

        after : List ℕ
        after = with_net past (net_at pins column) before

        made : lasts pins (suc column) ≡ with_net past (net_at pins column) before
        made = lasts-begin pins column is

        long : length (with_net past (net_at pins column) before) ≡ max (length before) (level + 1)
        long = rw lowest_is at (length-with_net past (net_at pins column) before)

        counts : new.count ≡ max (length before) (level + 1)
        counts = elim (cases_Bool (contains nat_cmp old.free level)) [
          | inl is_free ↦
              let same : new.count ≡ old.count = counted ∙ cond-true _ old.count (old.count + 1) is_free in
              omega (arith, (free_there is_free).0, was.count)
          | inr taken ↦
              let more : new.count ≡ old.count + 1 = counted ∙ cond-false _ old.count (old.count + 1) taken in
              omega (arith, (full taken).0, was.count)
        ]

        own_at : get_or (with_net past (net_at pins column) before) level 0 ≡ net_at pins column
        own_at = rw lowest_is at (with_net-at past (net_at pins column) before)

        others_at : (l : ℕ) → l ≢ level → get_or (with_net past (net_at pins column) before) l 0 ≡ get_or before l 0
        others_at l other = with_net-other past (net_at pins column) before l (λ same. other (same ∙ lowest_is))

        not_past : past (net_at pins column) ≡ false
        not_past =
            let stands : Stands pins (net_at pins column) = record { some = starts.0; starts = ap (net_at pins) starts.1 } in
            let ordered = (span_at (net_at pins column) stands).ordered in
            not_past-from pins column (net_at pins column) (omega (arith, starts.1))

        opened : (l : ℕ) → contains nat_cmp new.free l
            ≡ (ltb l (length (with_net past (net_at pins column) before)) && past (get_or (with_net past (net_at pins column) before) l 0))
        opened l = elim (cases_eq l level) [
          | inl same ↦
              let inside : l < length (with_net past (net_at pins column) before) = omega (arith, long) in
              left l ∙ closed (contains nat_cmp old.free l) l level same
              ∙ sym (both-true l _ (past (get_or (with_net past (net_at pins column) before) l 0)) inside
              ∙ ap past (ap (λ k. get_or (with_net past (net_at pins column) before) k 0) same ∙ own_at) ∙ not_past)
          | inr other ↦
              left l ∙ kept (contains nat_cmp old.free l) l level other ∙ was.free l
              ∙ lengths l (past (get_or before l 0)) other
              ∙ ap (λ n. ltb l (length (with_net past (net_at pins column) before)) && past n) (sym (others_at l other))
        ]
          where
            closed : (b : Bool) (k j : ℕ) → k ≡ j → (b && not (eqb k j)) ≡ false
            closed b k j same = grind (arith, nat_tests)

            kept : (b : Bool) (k j : ℕ) → k ≢ j → (b && not (eqb k j)) ≡ b
            kept b k j other = grind (arith, nat_tests)

            lengths : (k : ℕ) (b : Bool) → k ≢ level → (ltb k (length before) && b) ≡ (ltb k (length (with_net past (net_at pins column) before)) && b)
            lengths k b other =
                elim (cases_lt k (length before)) [
                  | inl inside ↦ both-true k (length before) b inside ∙ sym (both-true k _ b (omega (arith, long)))
                  | inr outside ↦ both-past k (length before) b outside ∙ sym (both-past k _ b (omega (arith, long, level_within)))
                ]

        levelled : (k : ℕ) → k < length nets → (span pins (get_or nets k 0)).first < suc column
            → get_or (set old.levels.items place level) k 0 ≡ level_of pins (get_or nets k 0)
        levelled k inside earlier = elim (cases_eq k place) [
          | inl same ↦
              rw (same, get_or-set_same old.levels.items place level 0 (omega (arith, was.long)))
              (sym (ap (level_of pins) at ∙ level_of-begin pins (net_at pins column) column starts.1 ∙ lowest_is))
          | inr other ↦
              let first : (span pins (get_or nets k 0)).first ≢ column = λ first.
              let stands = stands_place k inside in
              let here : net_at pins column ≡ get_or nets k 0 = ap (net_at pins) (sym first) ∙ stands.starts in
              other (increasing-same nets k place (nets-are pins).ascending inside within (sym here ∙ sym at)) in
              rw (get_or-set_other old.levels.items place k level 0 other) (was.levels k inside (omega arith))
        ]

  -- a column where no net ends
  pub passed-same : (column : ℕ) (sweep : TracksSoFar) → IsSwept pins (suc column) column sweep → ends pins column ≡ false → IsSwept pins (suc column) (suc column) sweep
  passed-same column sweep was none =
      let ls = lasts pins (suc column) in
      record {
        count = was.count;
        free = λ level. was.free level ∙ still level (length ls) (span pins (get_or ls level 0)).last column (λ within last.
            let stands = (holder pins (suc column) level within).stands in
            let at : net_at pins column ≡ get_or ls level 0 = ap (net_at pins) (sym last) ∙ (span_at (get_or ls level 0) stands).stops in
            both_ways _ none (ends-from pins column (rw at stands.some) (ap (λ n. (span pins n).last) at ∙ last)));
        long = was.long;
        levels = was.levels;
      }

  -- a column where a net ends, and its track is freed
  pub passed : (column : ℕ) (old new : TracksSoFar) (place : ℕ) → IsSwept pins (suc column) column old → ends pins column ≡ true
      → place < length nets → get_or nets place 0 ≡ net_at pins column → new.count ≡ old.count → new.levels.items ≡ old.levels.items
      → ((l : ℕ) → contains nat_cmp new.free l ≡ (eqb l (get_or old.levels.items place 0) || contains nat_cmp old.free l))
      → IsSwept pins (suc column) (suc column) new
  passed column old new place was is within at counted stored opened = record {
    count = counted ∙ was.count;
    free = λ level. opened level ∙ ap (λ b. eqb level (get_or old.levels.items place 0) || b) (was.free level)
        ∙ ap (λ l. eqb level l || (ltb level (length ls) && ltb (span pins (get_or ls level 0)).last column)) own_level
        ∙ freed level (level_of pins net) (length ls) (span pins (get_or ls level 0)).last column (only level) (there level);
    long = ap length stored ∙ was.long;
    levels = rw stored was.levels;
  }
    where
      ls : List ℕ
      ls = lasts pins (suc column)

      net : ℕ
      net = net_at pins column

      stops : (0 < net_at pins column) × ((span pins (net_at pins column)).last ≡ column)
      stops = ends-true pins column is

      stands : Stands pins (net_at pins column)
      stands = subst (Stands pins) at (stands_place place within)

      begun : (span pins (net_at pins column)).first ≤ column
      begun = omega (arith, (span_at (net_at pins column) stands).ordered, stops.1)

      own_level : get_or old.levels.items place 0 ≡ level_of pins (net_at pins column)
      own_level = was.levels place within (omega (arith, ap (λ n. (span pins n).first) at, begun)) ∙ ap (level_of pins) at

      held_there : Held pins (suc column) (net_at pins column)
      held_there = held pins (net_at pins column) (suc column) stands (omega (arith, begun)) (omega (arith, stops.1))

      only : (level : ℕ) → level < length (lasts pins (suc column)) → (span pins (get_or (lasts pins (suc column)) level 0)).last ≡ column
          → level ≡ level_of pins (net_at pins column)
      only level inside last =
          let holds = holder pins (suc column) level inside in
          let here : net_at pins column ≡ get_or (lasts pins (suc column)) level 0 =
          ap (net_at pins) (sym last) ∙ (span_at (get_or (lasts pins (suc column)) level 0) holds.stands).stops in
          sym holds.level ∙ ap (level_of pins) (sym here)

      there : (level : ℕ) → level ≡ level_of pins (net_at pins column)
          → (level < length (lasts pins (suc column))) × ((span pins (get_or (lasts pins (suc column)) level 0)).last ≡ column)
      there level same =
          (rw same held_there.within, ap (λ l. (span pins (get_or (lasts pins (suc column)) l 0)).last) same ∙ ap (λ n. (span pins n).last) held_there.at ∙ stops.1)

  -- after the last column all nets have their tracks
  pub swept-all : (sweep : TracksSoFar) → IsSwept pins (length pins.top) (length pins.top) sweep → sweep.levels.items ≡ map (level_of pins) nets
  swept-all sweep was =
      same_lists sweep.levels.items (map (level_of pins) nets) (was.long ∙ sym (length-map nets (level_of pins)))
      (λ k d below.
      let within : k < length nets = omega (arith, was.long) in
      let reach = span_at (get_or nets k 0) (stands_place k within) in
      get_or_default sweep.levels.items k d 0 below ∙ was.levels k within (omega (arith, reach.ordered, reach.within))
      ∙ sym (get_or-map (level_of pins) nets k 0 d within))
