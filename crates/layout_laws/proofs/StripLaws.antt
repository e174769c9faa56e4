use Rattle.std.proofs.Common.{◌≡◌, ◌≢◌, ◌⊎◌, inl, inr, refl, sym, subst, ◌∙◌, ℕ, ◌+◌, ◌*◌, ◌-◌, ◌<◌, List, ◌++◌, Contains, arith}
use Rattle.std.proofs.lemmas.Bool.{cases_lt}
use Rattle.std.proofs.lemmas.Int.{ints}
use Rattle.std.proofs.lemmas.List.Elements.{Contains-append_left, Contains-append_right, Contains-append_cases}
use Rattle.std.specs.Prelude.{◌+ℤ◌, ◌≤ℤ◌}
use Rattle.channel_model.specs.Pins.{Pins}
use Rattle.channel_model.specs.Wired.{Wired}
use Rattle.channel_model.specs.declared.wiring.Wiring.{Wiring}
use Rattle.geom_core.specs.Rectangles.{Apart, left_of, right_of, under, above as higher}
use Rattle.tech_rules.specs.Lengths.{length_in}
use Rattle.tech_rules.specs.Rules.{RuleValues, ValidRules}
use Rattle.wire_geom.specs.Drawing.{drawing}
use Rattle.wire_geom.specs.Edges.{bottom_entry, top_entry, StandsIn, Keeps}
use Rattle.wire_geom.specs.Grid.{centre, line_at, scaled}
use Rattle.wire_geom.specs.Spaces.{NetsKeep}
use Rattle.wire_geom.specs.Widths.{IsCovered, AreWide}
use Rattle.wire_geom.specs.declared.drawn.Drawn.{Drawn}
use Rattle.wire_geom.proofs.DrawingLaws.{drawing_wide, drawing_apart, drawing_edges}
use Rattle.wire_geom.proofs.GridLaws.{centre-step}
use Rattle.wire_geom.proofs.ScaleLaws.{scaled-order, scaled-gap}
use Rattle.layout_laws.specs.Heights.{channel_height}
use Rattle.layout_laws.proofs.Strips.{Stays, Strip, IsTall, Agree}
use Rattle.std_laws.proofs.Members.{each-appended}

-- a gap is one in either order
pub Apart-sym : (r : RuleValues) (space : ℕ) (a b : Drawn) → Apart (length_in r space) a.shape.rect b.shape.rect → Apart (length_in r space) b.shape.rect a.shape.rect
Apart-sym r space a b (left_of e) = right_of e
Apart-sym r space a b (right_of e) = left_of e
Apart-sym r space a b (under e) = higher e
Apart-sym r space a b (higher e) = under e

-- vertical wires in a column and in a later one keep their space
pub columns-gap : (r : RuleValues) → ValidRules r → (c d : ℕ) (a b : Drawn) → c < d → StandsIn r c a → StandsIn r d b
    → (a.shape.rect.x1 +ℤ length_in r r.vertical.space) ≤ℤ b.shape.rect.x0
columns-gap r valid c d a b order in_c in_d =
    rw (in_c.right, in_d.left)
    (scaled-gap r (centre r c + r.vertical.width) r.vertical.space (centre r d - r.vertical.width)
    (omega (arith, centre-step r c d order, valid.pad_vertical, valid.column_vertical)))

-- vertical wires stand in one column, or keep their space
pub columns-apart : (r : RuleValues) → ValidRules r → (c d : ℕ) (a b : Drawn) → StandsIn r c a → StandsIn r d b
    → (c ≡ d) ⊎ Apart (length_in r r.vertical.space) a.shape.rect b.shape.rect
columns-apart r valid c d a b in_c in_d =
    elim (cases_lt c d) [
      | inl before ↦ inr (left_of (columns-gap r valid c d a b before in_c in_d))
      | inr rest ↦ elim (cases_lt d c) [
        | inl behind ↦ inr (right_of (columns-gap r valid d c b a behind in_d in_c))
        | inr other ↦ inl (omega (arith, rest, other))
      ]
    ]

-- a cut stays covered among more rectangles
covered_left : (r : RuleValues) (ds es : List Drawn) (layer : List ℕ) (cut : Drawn) → IsCovered r ds layer cut → IsCovered r (ds ++ es) layer cut
covered_left r ds es layer cut c = record {
  cover = c.cover;
  is_drawn = Contains-append_left ds es c.cover c.is_drawn;
  on_layer = c.on_layer;
  same_net = c.same_net;
  encloses = c.encloses;
}

covered_right : (r : RuleValues) (ds es : List Drawn) (layer : List ℕ) (cut : Drawn) → IsCovered r es layer cut → IsCovered r (ds ++ es) layer cut
covered_right r ds es layer cut c = record {
  cover = c.cover;
  is_drawn = Contains-append_right ds es c.cover c.is_drawn;
  on_layer = c.on_layer;
  same_net = c.same_net;
  encloses = c.encloses;
}

-- two wide lists are one
pub AreWide-append : (r : RuleValues) (ds es : List Drawn) → AreWide r ds → AreWide r es → AreWide r (ds ++ es)
AreWide-append r ds es first second = record {
  horizontal = each-appended _ ds es first.horizontal second.horizontal;
  vertical = each-appended _ ds es first.vertical second.vertical;
  cut = each-appended _ ds es first.cut second.cut;
  in_horizontal = each-appended (λ (d : Drawn). d.shape.layer ≡ r.cut.layer → IsCovered r (ds ++ es) r.horizontal.layer d) ds es
      (λ d member on. covered_left r ds es r.horizontal.layer d (first.in_horizontal d member on))
      (λ d member on. covered_right r ds es r.horizontal.layer d (second.in_horizontal d member on));
  in_vertical = each-appended (λ (d : Drawn). d.shape.layer ≡ r.cut.layer → IsCovered r (ds ++ es) r.vertical.layer d) ds es
      (λ d member on. covered_left r ds es r.vertical.layer d (first.in_vertical d member on))
      (λ d member on. covered_right r ds es r.vertical.layer d (second.in_vertical d member on));
}

-- what reaches an edge over an entry may also leave its space
Stays-kept : (r : RuleValues) (floor ceiling : ℕ) (lower upper : ℕ → ℕ → Type 0) (space : ℕ) (a : Drawn)
    → Keeps r floor ceiling lower upper space a → Stays r floor ceiling lower upper space a
Stays-kept r floor ceiling lower upper space a keeps = record {
  from = keeps.from;
  to = keeps.to;
  below = elim keeps.below [ inl far ↦ inl far | inr at ↦ inr at.1 ];
  above = elim keeps.above [ inl far ↦ inl far | inr at ↦ inr at.1 ];
}

-- the drawing of a wired channel is a strip between the channel's edges
pub channel-strip : (r : RuleValues) → ValidRules r → (pins : Pins) (wiring : Wiring) → Wired pins wiring → (base : ℕ)
    → Strip r (2 * base) (2 * (base + channel_height r wiring)) (bottom_entry pins) (top_entry pins) (drawing r base wiring)
channel-strip r valid pins wiring wired base =
    let edges = drawing_edges pins wiring wired r valid base in
    let ceiling : ℕ = line_at r base (wiring.tracks + 1) in
    let floor_is : line_at r base 0 ≡ 2 * base = omega arith in
    subst (λ (floor : ℕ). Strip r floor ceiling (bottom_entry pins) (top_entry pins) (drawing r base wiring)) floor_is
    (record {
      wide = drawing_wide pins wiring wired r valid base;
      apart = drawing_apart pins wiring wired r valid base;
      stay = record {
        horizontal = λ a member on. Stays-kept r (line_at r base 0) ceiling (bottom_entry pins) (top_entry pins) r.horizontal.space a (edges.horizontal a member on);
        vertical = λ a member on. Stays-kept r (line_at r base 0) ceiling (bottom_entry pins) (top_entry pins) r.vertical.space a (edges.vertical a member on);
        cut = λ a member on. Stays-kept r (line_at r base 0) ceiling (bottom_entry pins) (top_entry pins) r.cut.space a (edges.cut a member on);
      };
    })

-- the rectangles of a layer stay between two edges
abbrev StaysOn : RuleValues → ℕ → ℕ → (ℕ → ℕ → Type 0) → (ℕ → ℕ → Type 0) → List Drawn → List ℕ → ℕ → Type 0
StaysOn r floor ceiling lower upper ds layer space =
    (a : Drawn) → Contains ds a → a.shape.layer ≡ layer → Stays r floor ceiling lower upper space a

module _ (r : RuleValues) (valid : ValidRules r) (floor middle ceiling : ℕ) (lower below above upper : ℕ → ℕ → Type 0)
    (agree : Agree below above) (tall_low : IsTall r floor middle) (tall_high : IsTall r middle ceiling) where
  -- a rectangle below the common edge and one above it, of different nets
  over : (space : ℕ) (a b : Drawn) → (a.shape.layer ≡ r.vertical.layer → space ≡ r.vertical.space) → a.net ≢ b.net
      → Stays r floor middle lower below space a → Stays r middle ceiling above upper space b → Apart (length_in r space) a.shape.rect b.shape.rect
  over space a b named differ stays_a stays_b =
      elim stays_a.above [
        | inl far ↦ under (omega (arith, ints, far, stays_b.from))
        | inr enters_a ↦ elim stays_b.below [
          | inl far ↦ under (omega (arith, ints, far, stays_a.to))
          | inr enters_b ↦
              subst (λ (n : ℕ). Apart (length_in r n) a.shape.rect b.shape.rect) (sym (named enters_a.stands.on_layer))
              (elim (columns-apart r valid enters_a.column enters_b.column a b enters_a.stands enters_b.stands) [
                | inl same ↦
                    absurd (differ (agree enters_a.column a.net b.net enters_a.has_entry
                    (subst (λ (c : ℕ). above c b.net) (sym same) enters_b.has_entry)))
                | inr apart ↦ apart
              ])
        ]
      ]

  -- a rectangle below the common edge keeps its space from the upper edge, and one above it from the lower edge
  stays_below : (space : ℕ) (a : Drawn) → (a.shape.layer ≡ r.vertical.layer → space ≡ r.vertical.space)
      → Stays r floor middle lower below space a → Stays r floor ceiling lower upper space a
  stays_below space a named stays =
      let order = scaled-order r middle ceiling (omega (arith, tall_high)) in
      record {
        from = stays.from;
        to = omega (arith, ints, stays.to, order);
        below = stays.below;
        above = elim stays.above [
          | inl far ↦ inl (omega (arith, ints, far, order))
          | inr enters ↦
              let gap = scaled-gap r middle r.vertical.space ceiling tall_high in
              inl (subst (λ (n : ℕ). (a.shape.rect.y1 +ℤ length_in r n) ≤ℤ scaled r ceiling) (sym (named enters.stands.on_layer))
              (omega (arith, ints, stays.to, gap)))
        ];
      }

  stays_above : (space : ℕ) (a : Drawn) → (a.shape.layer ≡ r.vertical.layer → space ≡ r.vertical.space)
      → Stays r middle ceiling above upper space a → Stays r floor ceiling lower upper space a
  stays_above space a named stays =
      let order = scaled-order r floor middle (omega (arith, tall_low)) in
      record {
        from = omega (arith, ints, stays.from, order);
        to = stays.to;
        below = elim stays.below [
          | inl far ↦ inl (omega (arith, ints, far, order))
          | inr enters ↦
              let gap = scaled-gap r floor r.vertical.space middle tall_low in
              inl (subst (λ (n : ℕ). (scaled r floor +ℤ length_in r n) ≤ℤ a.shape.rect.y0) (sym (named enters.stands.on_layer))
              (omega (arith, ints, stays.from, gap)))
        ];
        above = stays.above;
      }

  module _ (ds es : List Drawn) where
    -- on one layer
    keep_on : (layer : List ℕ) (space : ℕ) → (layer ≡ r.vertical.layer → space ≡ r.vertical.space)
        → NetsKeep r ds layer space → NetsKeep r es layer space
        → StaysOn r floor middle lower below ds layer space → StaysOn r middle ceiling above upper es layer space → NetsKeep r (ds ++ es) layer space
    keep_on layer space named low high stay_low stay_high a b member_a member_b on_a on_b differ =
        elim (Contains-append_cases ds es a member_a) [
          | inl a_low ↦ elim (Contains-append_cases ds es b member_b) [
            | inl b_low ↦ low a b a_low b_low on_a on_b differ
            | inr b_high ↦ over space a b (λ e. named (sym on_a ∙ e)) differ (stay_low a a_low on_a) (stay_high b b_high on_b)
          ]
          | inr a_high ↦ elim (Contains-append_cases ds es b member_b) [
            | inl b_low ↦
                Apart-sym r space b a (over space b a (λ e. named (sym on_b ∙ e)) (λ e. differ (sym e)) (stay_low b b_low on_b) (stay_high a a_high on_a))
            | inr b_high ↦ high a b a_high b_high on_a on_b differ
          ]
        ]

    stay_on : (layer : List ℕ) (space : ℕ) → (layer ≡ r.vertical.layer → space ≡ r.vertical.space)
        → StaysOn r floor middle lower below ds layer space → StaysOn r middle ceiling above upper es layer space
        → StaysOn r floor ceiling lower upper (ds ++ es) layer space
    stay_on layer space named stay_low stay_high a member on =
        elim (Contains-append_cases ds es a member) [
          | inl low ↦ stays_below space a (λ e. named (sym on ∙ e)) (stay_low a low on)
          | inr high ↦ stays_above space a (λ e. named (sym on ∙ e)) (stay_high a high on)
        ]

    -- a strip on a strip is a strip
    pub strip-on : Strip r floor middle lower below ds → Strip r middle ceiling above upper es → Strip r floor ceiling lower upper (ds ++ es)
    strip-on low high =
        let horizontal : r.horizontal.layer ≡ r.vertical.layer → r.horizontal.space ≡ r.vertical.space = λ e. absurd (valid.layers.horizontal_vertical e) in
        let vertical : r.vertical.layer ≡ r.vertical.layer → r.vertical.space ≡ r.vertical.space = λ e. refl in
        let cut : r.cut.layer ≡ r.vertical.layer → r.cut.space ≡ r.vertical.space = λ e. absurd (valid.layers.vertical_cut (sym e)) in
        record {
          wide = AreWide-append r ds es low.wide high.wide;
          apart = record {
            horizontal = keep_on r.horizontal.layer r.horizontal.space horizontal low.apart.horizontal high.apart.horizontal low.stay.horizontal high.stay.horizontal;
            vertical = keep_on r.vertical.layer r.vertical.space vertical low.apart.vertical high.apart.vertical low.stay.vertical high.stay.vertical;
            cut = keep_on r.cut.layer r.cut.space cut low.apart.cut high.apart.cut low.stay.cut high.stay.cut;
          };
          stay = record {
            horizontal = stay_on r.horizontal.layer r.horizontal.space horizontal low.stay.horizontal high.stay.horizontal;
            vertical = stay_on r.vertical.layer r.vertical.space vertical low.stay.vertical high.stay.vertical;
            cut = stay_on r.cut.layer r.cut.space cut low.stay.cut high.stay.cut;
          };
        }
