use Rattle.std.proofs.Common.{◌≡◌, ◌≢◌, ◌<◌, ◌≤◌, ℕ, List, [], ◌∷◌, Option, Some, None, inl, inr, refl, sym, ap, ap₂, subst, ◌∙◌, arith, get_or, length, min, max, map, Contains}
use Rattle.std.proofs.lemmas.Bool.{cases_lt}
use Rattle.std.proofs.lemmas.List.{get_or_past}
use Rattle.std.specs.Prelude.{unwrap_or}
use Rattle.channel_model.specs.declared.reach.Reach.{Reach}
use Rattle.channel_model.specs.Pins.{Pins, IsChannel}
use Rattle.channel_model.specs.Nets.{StandsIn, AreNets}
use Rattle.channel_model.specs.Reach.{reach_of, joined, span_of}
use Rattle.channel_model.proofs.ReachLaws.{ReachesAll, reach_of-all}
use Rattle.left_edge.specs.Columns.{IsUnconstrained, net_at}
use Rattle.left_edge.specs.Spans.{span}
use Rattle.left_edge.proofs.ColumnLaws.{net_at-bottom, net_at-top, net_at-cases, net_at-within, column_of, stands_at}
use Rattle.std_laws.proofs.Members.{member-head, member-tail}

-- a reach has all columns of a net, which begin and end it
pub record IsSpanOf (pins : Pins) (net : ℕ) (reach : Reach) : Type 0 where
  pub ordered : reach.first ≤ reach.last
  pub within : reach.last < length pins.top
  pub starts : net_at pins reach.first ≡ net
  pub stops : net_at pins reach.last ≡ net
  pub between : (k : ℕ) → k < length pins.top → net_at pins k ≡ net → (reach.first ≤ k) × (k ≤ reach.last)

-- where there is none there is no column
abbrev pub SpansAll : Pins → ℕ → Option Reach → Type 0
SpansAll pins net None = (k : ℕ) → k < length pins.top → net_at pins k ≢ net
SpansAll pins net (Some reach) = IsSpanOf pins net reach

module _ (pins : Pins) (free : IsUnconstrained pins) (net : ℕ) (some : 0 < net) where
  at_top : (k : ℕ) → get_or pins.top k 0 ≡ net → net_at pins k ≡ net
  at_top k is = net_at-top pins free k (omega arith) ∙ is

  at_bottom : (k : ℕ) → get_or pins.bottom k 0 ≡ net → net_at pins k ≡ net
  at_bottom k is = net_at-bottom pins k (omega arith) ∙ is

  -- the reaches along both edges make the span
  joined_all : (a b : Option Reach) → ReachesAll pins.top net (length pins.top) a → ReachesAll pins.bottom net (length pins.top) b
      → SpansAll pins net (joined a b)
  joined_all None None top bottom = λ k within at.
      elim (net_at-cases pins k net at) [ inl above ↦ top k within above | inr below ↦ bottom k within below ]
  joined_all None (Some b) top bottom = record {
    ordered = bottom.ordered;
    within = bottom.within;
    starts = at_bottom b.first bottom.starts;
    stops = at_bottom b.last bottom.ends;
    between = λ k within at. elim (net_at-cases pins k net at) [
      | inl above ↦ absurd (top k within above)
      | inr below ↦ bottom.between k within below
    ];
  }
  joined_all (Some a) None top bottom = record {
    ordered = top.ordered;
    within = top.within;
    starts = at_top a.first top.starts;
    stops = at_top a.last top.ends;
    between = λ k within at. elim (net_at-cases pins k net at) [
      | inl above ↦ top.between k within above
      | inr below ↦ absurd (bottom k within below)
    ];
  }
  joined_all (Some a) (Some b) top bottom = record {
    ordered = omega (arith, top.ordered, bottom.ordered);
    within = omega (arith, top.within, bottom.within);
    starts = elim (cases_lt a.first b.first) [
      | inl less ↦ let is : min a.first b.first ≡ a.first = omega arith in rw is (at_top a.first top.starts)
      | inr more ↦ let is : min a.first b.first ≡ b.first = omega arith in rw is (at_bottom b.first bottom.starts)
    ];
    stops = elim (cases_lt a.last b.last) [
      | inl less ↦ let is : max a.last b.last ≡ b.last = omega arith in rw is (at_bottom b.last bottom.ends)
      | inr more ↦ let is : max a.last b.last ≡ a.last = omega arith in rw is (at_top a.last top.ends)
    ];
    between = λ k within at. elim (net_at-cases pins k net at) [
      | inl above ↦ let r = top.between k within above in (omega (arith, r.0), omega (arith, r.1))
      | inr below ↦ let r = bottom.between k within below in (omega (arith, r.0), omega (arith, r.1))
    ];
  }

  pub span_of-all : IsChannel pins → SpansAll pins net (span_of pins net)
  span_of-all channel =
      joined_all (reach_of pins.top net (length pins.top)) (reach_of pins.bottom net (length pins.bottom))
      (reach_of-all pins.top net (length pins.top))
      (subst (λ n. ReachesAll pins.bottom net n (reach_of pins.bottom net (length pins.bottom))) (sym channel.matched)
      (reach_of-all pins.bottom net (length pins.bottom)))

  -- the reach along the nets of the columns is the span
  same_span : (columns : List ℕ) → ((k : ℕ) → k < length pins.top → get_or columns k 0 ≡ net_at pins k) → (a b : Option Reach)
      → ReachesAll columns net (length pins.top) a → SpansAll pins net b → a ≡ b
  same_span columns are None None first second = refl
  same_span columns are None (Some b) first second =
      let inside : b.first < length pins.top = omega (arith, second.ordered, second.within) in
      absurd (first b.first inside (are b.first inside ∙ second.starts))
  same_span columns are (Some a) None first second =
      let inside : a.first < length pins.top = omega (arith, first.ordered, first.within) in
      absurd (second a.first inside (sym (are a.first inside) ∙ first.starts))
  same_span columns are (Some a) (Some b) first second =
      let a_first : a.first < length pins.top = omega (arith, first.ordered, first.within) in
      let b_first : b.first < length pins.top = omega (arith, second.ordered, second.within) in
      let to_first = second.between a.first a_first (sym (are a.first a_first) ∙ first.starts) in
      let to_last = second.between a.last first.within (sym (are a.last first.within) ∙ first.ends) in
      let from_first = first.between b.first b_first (are b.first b_first ∙ second.starts) in
      let from_last = first.between b.last second.within (are b.last second.within ∙ second.stops) in
      let firsts : a.first ≡ b.first = omega (arith, to_first.0, from_first.0) in
      let lasts : a.last ≡ b.last = omega (arith, to_last.1, from_last.1) in
      ap₂ (λ (f l : ℕ). Some (record { first = f; last = l })) firsts lasts

  pub reach-is_span : IsChannel pins → (columns : List ℕ) → length columns ≡ length pins.top
      → ((k : ℕ) → k < length pins.top → get_or columns k 0 ≡ net_at pins k) → reach_of columns net (length columns) ≡ span_of pins net
  reach-is_span channel columns long are =
      same_span columns are (reach_of columns net (length columns)) (span_of pins net)
      (subst (λ n. ReachesAll columns net n (reach_of columns net (length columns))) long (reach_of-all columns net (length columns)))
      (span_of-all channel)

some_span : (pins : Pins) (net : ℕ) (o : Option Reach) (r : Reach) (k : ℕ) → k < length pins.top → net_at pins k ≡ net → SpansAll pins net o
    → (o ≡ Some (unwrap_or o r)) × IsSpanOf pins net (unwrap_or o r)
some_span pins net None r k within at none = absurd (none k within at)
some_span pins net (Some reach) r k within at is = (refl, is)

-- a net that stands in the channel has a span
pub has_span : (pins : Pins) → IsChannel pins → IsUnconstrained pins → (net : ℕ) → StandsIn pins net
    → (span_of pins net ≡ Some (span pins net)) × IsSpanOf pins net (span pins net)
unfolding span
has_span pins channel free net stands =
    let column = column_of pins free net stands in
    let some = stands.0 in
    let positive : 0 < net_at pins column.0 = rw column.1 some in
    some_span pins net (span_of pins net) (record { first = 0; last = 0 }) column.0 (net_at-within pins channel column.0 positive) column.1
    (span_of-all pins free net some channel)

-- the reaches along the nets of the columns are the spans
pub spans-made : (pins : Pins) → IsChannel pins → IsUnconstrained pins → (columns : List ℕ) → length columns ≡ length pins.top
    → ((k : ℕ) → k < length pins.top → get_or columns k 0 ≡ net_at pins k) → (nets : List ℕ) → ((net : ℕ) → Contains nets net → 0 < net)
    → map (λ o. unwrap_or o (record { first = 0; last = 0 })) (map (λ net. reach_of columns net (length columns)) nets) ≡ map (span pins) nets
unfolding span
spans-made pins channel free columns long are [] positive = refl
spans-made pins channel free columns long are (n ∷ nets) positive =
    ap₂ (λ (r : Reach) (rs : List Reach). r ∷ rs)
    (ap (λ (o : Option Reach). unwrap_or o (record { first = 0; last = 0 }))
    (reach-is_span pins free n (positive n (member-head n nets)) channel columns long are))
    (spans-made pins channel free columns long are nets (λ m there. positive m (member-tail n nets m there)))

-- the nets of the columns are listed
pub listed_columns : (pins : Pins) (nets : List ℕ) → AreNets pins nets → (columns : List ℕ) → length columns ≡ length pins.top
    → ((k : ℕ) → k < length pins.top → get_or columns k 0 ≡ net_at pins k) → (column : ℕ) → 0 < get_or columns column 0
    → Contains nets (get_or columns column 0)
listed_columns pins nets listing columns long are column some =
    elim (cases_lt column (length columns)) [
      | inl within ↦ listing.listed (get_or columns column 0) (stands_at pins column (get_or columns column 0) some (sym (are column (omega arith))))
      | inr past ↦ let none = get_or_past columns column 0 past in absurd (omega arith)
    ]
