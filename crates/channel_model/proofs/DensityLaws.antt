use Rattle.std.proofs.Common.{◌≡◌, ◌<◌, ◌≤◌, ◌+◌, ◌-◌, ◌&&◌, Bool, true, false, cond, eqb, leb, ltb, ℕ, suc, List, [], ◌∷◌, ◌++◌, Option, Some, None, refl, sym, ap, ◌∙◌, arith, All, length, get_or, map, take, count_by}
use Rattle.std.proofs.lemmas.Bool.{ltb-true}
use Rattle.std.proofs.lemmas.Bool.Decides.{nat_tests}
use Rattle.std.proofs.lemmas.List.Elements.{All-nil, All-cons, All-tail, All-head, filter_map-append}
use Rattle.std.proofs.lemmas.List.{take_more, get_or-map}
use Rattle.std.proofs.lemmas.List.Sums.{sum_by-cons}
use Rattle.std.specs.List.{cons_option, filter_map}
use Rattle.std.specs.Option.{option_to_list}
use Rattle.channel_model.specs.declared.reach.Reach.{Reach}
use Rattle.channel_model.specs.Pins.{Pins}
use Rattle.channel_model.specs.Reach.{IsReach, reach_of, joined, span_of}
use Rattle.channel_model.specs.Density.{is_over, spans_of, crossing_of}
use Rattle.channel_model.proofs.ReachLaws.{LiesWithin, span_of-within}

-- a span that is over a column and over the one before
abbrev pub is_carried : ℕ → Reach → Bool
is_carried column span = ltb span.first column && leb column span.last

one_over : (first last c : ℕ) → first ≤ last
    → ◌≡◌ {A = ℕ} (cond (leb first c && leb c last) 1 0) (cond (ltb first c && leb c last) 1 0 + cond (eqb first c) 1 0)
one_over first last c ordered = grind (arith, nat_tests)

one_carried : (first last c : ℕ) → first ≤ last
    → ◌≡◌ {A = ℕ} (cond (ltb first (c + 1) && leb (c + 1) last) 1 0 + cond (eqb last c) 1 0) (cond (leb first c && leb c last) 1 0)
one_carried first last c ordered = grind (arith, nat_tests)

-- over a column are those that were over the one before, and those that begin
pub over_is : (w c : ℕ) (spans : List Reach) → All (IsReach w) spans
    → count_by (is_over c) spans ≡ count_by (is_carried c) spans + count_by (λ s. eqb s.first c) spans
over_is w c [] all = refl
over_is w c (s ∷ spans) all =
    let head = All-head (IsReach w) s spans all in
    omega (
      arith,
      over_is w c spans (All-tail (IsReach w) s spans all),
      one_over s.first s.last c head.ordered,
      sum_by-cons (λ s. cond (is_over c s) 1 0) s spans,
      sum_by-cons (λ s. cond (is_carried c s) 1 0) s spans,
      sum_by-cons (λ s. cond (eqb s.first c) 1 0) s spans,
    )

-- those over a column are over the next, or end
pub carried_is : (w c : ℕ) (spans : List Reach) → All (IsReach w) spans
    → count_by (is_carried (c + 1)) spans + count_by (λ s. eqb s.last c) spans ≡ count_by (is_over c) spans
carried_is w c [] all = refl
carried_is w c (s ∷ spans) all =
    let head = All-head (IsReach w) s spans all in
    omega (
      arith,
      carried_is w c spans (All-tail (IsReach w) s spans all),
      one_carried s.first s.last c head.ordered,
      sum_by-cons (λ s. cond (is_over c s) 1 0) s spans,
      sum_by-cons (λ s. cond (is_carried (c + 1) s) 1 0) s spans,
      sum_by-cons (λ s. cond (eqb s.last c) 1 0) s spans,
    )

none_carried : (first last : ℕ) → ◌≡◌ {A = ℕ} (cond (ltb first 0 && leb 0 last) 1 0) 0
none_carried first last = grind (arith, nat_tests)

-- none comes to the first column from the left
pub carried_none : (spans : List Reach) → count_by (is_carried 0) spans ≡ 0
carried_none [] = refl
carried_none (s ∷ spans) =
    omega (arith, carried_none spans, none_carried s.first s.last, sum_by-cons (λ s. cond (is_carried 0 s) 1 0) s spans)

-- the spans of one more net
pub spans_of-more : (pins : Pins) (nets : List ℕ) (i : ℕ) → i < length nets
    → spans_of pins (take (i + 1) nets) ≡ spans_of pins (take i nets) ++ option_to_list (span_of pins (get_or nets i 0))
spans_of-more pins nets i within =
    rw (take_more nets i 0 within, filter_map-append (span_of pins) (take i nets) (get_or nets i 0 ∷ []))
    (ap (λ (l : List Reach). spans_of pins (take i nets) ++ l) (alone (span_of pins (get_or nets i 0))))
  where
    alone : (o : Option Reach) → cons_option o [] ≡ option_to_list o
    alone None = refl
    alone (Some r) = refl

-- the same, by the nets' reaches along both edges
pub spans_of-step : (pins : Pins) (nets top bottom : List ℕ) (i : ℕ) (tops bottoms : List (Option Reach)) (t b : Option Reach)
    → top ≡ pins.top → bottom ≡ pins.bottom → i < length nets
    → tops ≡ map (λ net. reach_of top net (length top)) nets → bottoms ≡ map (λ net. reach_of bottom net (length bottom)) nets
    → t ≡ get_or tops i t → b ≡ get_or bottoms i b
    → spans_of pins (take i nets) ++ option_to_list (joined t b) ≡ spans_of pins (take (i + 1) nets)
spans_of-step pins nets top bottom i tops bottoms t b first second within is_tops is_bottoms at_top at_bottom =
    let above : t ≡ reach_of pins.top (get_or nets i 0) (length pins.top) =
    rw (is_tops, first) at at_top ∙ get_or-map (λ net. reach_of pins.top net (length pins.top)) nets i 0 t within in
    let below : b ≡ reach_of pins.bottom (get_or nets i 0) (length pins.bottom) =
    rw (is_bottoms, second) at at_bottom ∙ get_or-map (λ net. reach_of pins.bottom net (length pins.bottom)) nets i 0 b within in
    rw (above, below) (sym (spans_of-more pins nets i within))

-- spans lie within the channel
pub spans_of-within : (pins : Pins) (nets : List ℕ) → length pins.top ≡ length pins.bottom → All (IsReach (length pins.top)) (spans_of pins nets)
spans_of-within pins [] matched = All-nil (IsReach (length pins.top))
spans_of-within pins (n ∷ nets) matched =
    with_head (span_of pins n) (span_of-within pins n matched) (spans_of-within pins nets matched)
  where
    with_head : (o : Option Reach) → LiesWithin (length pins.top) o → All (IsReach (length pins.top)) (spans_of pins nets)
        → All (IsReach (length pins.top)) (cons_option o (spans_of pins nets))
    with_head None here rest = rest
    with_head (Some r) here rest = All-cons (IsReach (length pins.top)) r (spans_of pins nets) here rest

-- there are no more spans than nets
pub length-spans_of : (pins : Pins) (nets : List ℕ) → length (spans_of pins nets) ≤ length nets
length-spans_of pins [] = omega arith
length-spans_of pins (n ∷ nets) = one_more (span_of pins n) (length-spans_of pins nets)
  where
    one_more : (o : Option Reach) → length (spans_of pins nets) ≤ length nets → length (cons_option o (spans_of pins nets)) ≤ suc (length nets)
    one_more None few = omega arith
    one_more (Some r) few = omega arith

-- where a net crosses lies within the channel too
pub crossings-within : (w : ℕ) (spans : List Reach) → All (IsReach w) spans → All (IsReach w) (filter_map crossing_of spans)
crossings-within w [] all = All-nil (IsReach w)
crossings-within w (s ∷ spans) all =
    let head = All-head (IsReach w) s spans all in
    step (ltb s.first s.last) refl head (crossings-within w spans (All-tail (IsReach w) s spans all))
  where
    step : (b : Bool) → ltb s.first s.last ≡ b → IsReach w s → All (IsReach w) (filter_map crossing_of spans)
        → All (IsReach w) (cons_option (cond b (Some (record { first = s.first; last = s.last - 1 })) None) (filter_map crossing_of spans))
    step true less head rest =
        let ordered = ltb-true s.first s.last less in
        All-cons (IsReach w) (record { first = s.first; last = s.last - 1 }) (filter_map crossing_of spans)
        (record { ordered = omega (arith, ordered); within = omega (arith, head.within) }) rest
    step false not_less head rest = rest

-- there are no more of them than spans
pub length-crossings : (spans : List Reach) → length (filter_map crossing_of spans) ≤ length spans
length-crossings [] = omega arith
length-crossings (s ∷ spans) = one_more (crossing_of s) (length-crossings spans)
  where
    one_more : (o : Option Reach) → length (filter_map crossing_of spans) ≤ length spans → length (cons_option o (filter_map crossing_of spans)) ≤ suc (length spans)
    one_more None few = omega arith
    one_more (Some r) few = omega arith

-- a step of the sweep over the columns
pub swept : (w c : ℕ) (spans : List Reach) (opened begins ends : ℕ) → All (IsReach w) spans → opened ≡ count_by (is_carried c) spans
    → begins ≡ count_by (λ s. eqb s.first c) spans → ends ≡ count_by (λ s. eqb s.last c) spans
    → (opened + begins ≡ count_by (is_over c) spans) × (ends ≤ opened + begins) × (opened + begins - ends ≡ count_by (is_carried (c + 1)) spans)
swept w c spans opened begins ends all was first last =
    let over = over_is w c spans all in
    let carried = carried_is w c spans all in
    (omega arith, omega arith, omega arith)
