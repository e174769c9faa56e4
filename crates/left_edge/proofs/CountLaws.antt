use Rattle.std.proofs.Common.{◌≡◌, ◌<◌, ◌≤◌, ◌+◌, ◌&&◌, Bool, true, false, cond, eqb, leb, ℕ, zero, suc, List, [], ◌∷◌, Option, inl, inr, refl, sym, ap, subst, ◌∙◌, arith, get_or, length, map, filter, count_by, max, Contains, take, ◌++◌}
use Rattle.std.proofs.lemmas.Bool.{cases_Bool, cases_eq, cases_lt, ne_eqb, eqb-true, cond-false}
use Rattle.std.proofs.lemmas.Cmp.{nat_eq_equiv}
use Rattle.std.proofs.lemmas.Bool.Decides.{nat_tests}
use Rattle.std.proofs.lemmas.List.Elements.{filter_more}
use Rattle.std.proofs.lemmas.List.{get_or_default, get_or-map, append-nil}
use Rattle.std.proofs.lemmas.List.Sums.{sum_by-cons, length-filter, fails_before_first}
use Rattle.std.proofs.lemmas.Map.Keys.{IsDistinct-from_apart}
use Rattle.std.proofs.lemmas.Map.Made.{length-le_from_is_member}
use Rattle.std.proofs.lemmas.Map.Views.{Contains-from_any, list_any-from_Contains}
use Rattle.std.specs.List.{IsDistinct, cons_option, position_or_len}
use Rattle.channel_model.specs.declared.reach.Reach.{Reach}
use Rattle.channel_model.specs.Pins.{Pins, IsChannel}
use Rattle.channel_model.specs.Nets.{StandsIn, nets_of}
use Rattle.channel_model.specs.Density.{is_over, spans_of, greatest, density_of}
use Rattle.channel_model.proofs.NetsOf.{nets-are}
use Rattle.left_edge.specs.Columns.{IsUnconstrained, net_at}
use Rattle.left_edge.specs.Spans.{span, nets_over}
use Rattle.left_edge.specs.Tracks.{begins, is_past, lasts, level_of, track_count}
use Rattle.left_edge.proofs.ColumnLaws.{stands_at}
use Rattle.left_edge.proofs.SpanLaws.{has_span}
use Rattle.left_edge.proofs.TrackLaws.{holder, begins-true, past-false, lasts-begin, lasts-same, lasts-none, with_net-at, with_net-other, length-with_net}
use Rattle.std_laws.proofs.Members.{member-head, member-tail, filter-member, filter-from}
use Rattle.std_laws.proofs.Searches.{position-le}

-- a span is over a column
pub over-true : (column : ℕ) (reach : Reach) → is_over column reach ≡ true → (reach.first ≤ column) × (column ≤ reach.last)
over-true column reach is = by reach.first reach.last is
  where
    by : (first last : ℕ) → (leb first column && leb column last) ≡ true → (first ≤ column) × (column ≤ last)
    by first last is = (grind (arith, nat_tests), grind (arith, nat_tests))

pub over-from : (column : ℕ) (reach : Reach) → reach.first ≤ column → column ≤ reach.last → is_over column reach ≡ true
over-from column reach after before = by reach.first reach.last after before
  where
    by : (first last : ℕ) → first ≤ column → column ≤ last → (leb first column && leb column last) ≡ true
    by first last after before = grind (arith, nat_tests)

module _ (pins : Pins) (channel : IsChannel pins) (free : IsUnconstrained pins) where
  -- the spans of nets that stand in the channel
  spans-are : (nets : List ℕ) → ((net : ℕ) → Contains nets net → StandsIn pins net) → spans_of pins nets ≡ map (span pins) nets
  spans-are [] each = refl
  spans-are (n ∷ nets) each =
      ap (λ (o : Option Reach). cons_option o (spans_of pins nets)) (has_span pins channel free n (each n (member-head n nets))).0
      ∙ ap (λ (l : List Reach). span pins n ∷ l) (spans-are nets (λ m there. each m (member-tail n nets m there)))

  pub spans_of-nets : spans_of pins (nets_of pins) ≡ map (span pins) (nets_of pins)
  spans_of-nets = spans-are (nets_of pins) (nets-are pins).standing

  pub count-map : (p : Reach → Bool) (nets : List ℕ) → count_by p (map (span pins) nets) ≡ count_by (λ n. p (span pins n)) nets
  count-map p [] = refl
  count-map p (n ∷ nets) =
      omega (
        arith,
        count-map p nets,
        sum_by-cons (λ r. cond (p r) 1 0) (span pins n) (map (span pins) nets),
        sum_by-cons (λ n. cond (p (span pins n)) 1 0) n nets,
      )

  -- the nets over a column are as many as the spans
  pub count_over : (column : ℕ) → count_by (is_over column) (spans_of pins (nets_of pins)) ≡ length (nets_over pins column)
  count_over column =
      ap (count_by (is_over column)) spans_of-nets ∙ count-map (is_over column) (nets_of pins)
      ∙ sym (length-filter (λ n. is_over column (span pins n)) (nets_of pins))

  -- the nets over a column stand in the channel, and their spans cover it
  pub over_from : (column net : ℕ) → Contains (nets_over pins column) net
      → StandsIn pins net × ((span pins net).first ≤ column) × (column ≤ (span pins net).last)
  over_from column net there =
      let found = filter-from (λ n. is_over column (span pins n)) (nets_of pins) net there in
      let covers = over-true column (span pins net) found.1 in
      ((nets-are pins).standing net found.0, covers.0, covers.1)

  pub over_member : (column net : ℕ) → StandsIn pins net → (span pins net).first ≤ column → column ≤ (span pins net).last
      → Contains (nets_over pins column) net
  over_member column net stands after before =
      filter-member (λ n. is_over column (span pins n)) (nets_of pins) net ((nets-are pins).listed net stands)
      (over-from column (span pins net) after before)

  -- the last nets of tracks are different
  distinct_lasts : (column : ℕ) → IsDistinct eqb (lasts pins column)
  distinct_lasts column =
      IsDistinct-from_apart eqb (lasts pins column) (λ i j d before within. ne_eqb _ _ (λ same.
      let one = (holder pins column i (omega arith)).level in
      let other = (holder pins column j within).level in
      let first : get_or (lasts pins column) i d ≡ get_or (lasts pins column) i 0 = get_or_default _ i d 0 (omega arith) in
      let second : get_or (lasts pins column) j d ≡ get_or (lasts pins column) j 0 = get_or_default _ j d 0 within in
      let level : i ≡ j = sym one ∙ ap (level_of pins) (sym first ∙ same ∙ second) ∙ other in
      omega arith))

  -- where a track is added, all tracks are of nets over the column
  all_over : (column level : ℕ) → begins pins column ≡ true → length (lasts pins column) ≤ position_or_len (is_past pins column) (lasts pins column)
      → level < length (lasts pins (suc column)) → Contains (nets_over pins column) (get_or (lasts pins (suc column)) level 0)
  all_over column level is none within =
      let p = is_past pins column in
      let ls = lasts pins column in
      let net = get_or (lasts pins (suc column)) level 0 in
      let holds = holder pins (suc column) level within in
      let stands = stands_at pins (span pins net).first net holds.stands.some holds.stands.starts in
      let reach = (has_span pins channel free net stands).1 in
      over_member column net stands (omega (arith, holds.before))
      (elim (cases_eq level (position_or_len p ls)) [
        | inl here ↦
            let at : net ≡ net_at pins column = rw (lasts-begin pins column is, here) (with_net-at p (net_at pins column) ls) in
            let first : (span pins net).first ≡ column = ap (λ n. (span pins n).first) at ∙ (begins-true pins column is).1 in
            omega (arith, reach.ordered)
        | inr other ↦
            let at : net ≡ get_or ls level 0 = rw (lasts-begin pins column is) (with_net-other p (net_at pins column) ls level other) in
            let long : length (lasts pins (suc column)) ≡ max (length ls) (position_or_len p ls + 1) =
            rw (lasts-begin pins column is) (length-with_net p (net_at pins column) ls) in
            let few = position-le p ls in
            let fails = fails_before_first p ls level 0 (omega arith) in
            past-false pins column net (rw (sym at) at fails)
      ])

  added : (column : ℕ) → begins pins column ≡ true → length (lasts pins column) ≤ position_or_len (is_past pins column) (lasts pins column)
      → length (lasts pins (suc column)) ≤ length (nets_over pins column)
  added column is none =
      let ls = lasts pins (suc column) in
      length-le_from_is_member nat_eq_equiv ls (nets_over pins column) (distinct_lasts (suc column))
      (λ q there.
      let member : Contains ls q = Contains-from_any (λ x y same. eqb-true x y same) q ls there in
      let at : get_or ls member.0 0 ≡ q = get_or_default ls member.0 0 q member.1 ∙ member.2 in
      list_any-from_Contains nat_eq_equiv q (nets_over pins column) (subst (Contains (nets_over pins column)) at (all_over column member.0 is none member.1)))

  -- there are no more tracks than nets over some column
  tracks_bound : (columns : ℕ) → length (lasts pins columns) ≤ greatest (λ c. count_by (is_over c) (spans_of pins (nets_of pins))) columns
  tracks_bound zero = omega (arith, ap length (lasts-none pins))
  tracks_bound (suc column) =
      let before = tracks_bound column in
      let here = count_over column in
      let p = is_past pins column in
      let ls = lasts pins column in
      elim (cases_Bool (begins pins column)) [
        | inl is ↦
            let long : length (lasts pins (suc column)) ≡ max (length ls) (position_or_len p ls + 1) =
            rw (lasts-begin pins column is) (length-with_net p (net_at pins column) ls) in
            elim (cases_lt (position_or_len p ls) (length ls)) [
              | inl again ↦ omega arith
              | inr new ↦ let more = added column is new in omega arith
            ]
        | inr none ↦ let same = ap length (lasts-same pins column none) in omega arith
      ]

  pub tracks_at_most : track_count pins ≤ density_of pins
  tracks_at_most = tracks_bound (length pins.top)

-- a net whose span does not cover a column is not kept
pub over_skip : (pins : Pins) (nets : List ℕ) (spans : List Reach) (place column : ℕ) → spans ≡ map (span pins) nets → place < length nets → (d : Reach)
    → is_over column (get_or spans place d) ≡ false
    → filter (λ net. is_over column (span pins net)) (take place nets) ≡ filter (λ net. is_over column (span pins net)) (take (place + 1) nets)
over_skip pins nets spans place column are within d other =
    let none : List ℕ = [] in
    let at : get_or spans place d ≡ span pins (get_or nets place 0) = rw are (get_or-map (span pins) nets place 0 d within) in
    let p = λ (net : ℕ). is_over column (span pins net) in
    sym (filter_more p nets place 0 within
    ∙ ap (λ (l : List ℕ). filter p (take place nets) ++ l) (cond-false (p (get_or nets place 0)) (get_or nets place 0 ∷ none) none (rw at at other))
    ∙ append-nil (filter p (take place nets)))
