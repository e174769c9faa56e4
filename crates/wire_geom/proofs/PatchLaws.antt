use Rattle.std.proofs.Common.{◌⊎◌, inl, inr, ℕ, ◌≤◌, ◌<◌, arith}
use Rattle.std.proofs.lemmas.Bool.{cases_lt}
use Rattle.std.specs.Prelude.{max}
use Rattle.channel_model.specs.declared.wiring.Segment.TheVariants.{Across, Along}
use Rattle.channel_model.specs.Elements.{Layer, vertical, horizontal, Element, segment, via, Covers, Meets}
use Rattle.channel_model.specs.Wired.{IsOnGrid}
use Rattle.wire_geom.specs.Drawing.{Mask, on_horizontal, on_vertical, on_cut}
use Rattle.wire_geom.proofs.GridLaws.{Patch, Parted, left_of, right_of, below_it, above_it}

-- the patch that an element covers
abbrev pub patch_of : Element → Patch
patch_of (segment (Across net column low high)) = record { from = column; to = column; low = low; high = high }
patch_of (segment (Along net track from to)) = record { from = from; to = to; low = track; high = track }
patch_of (via v) = record { from = v.column; to = v.column; low = v.track; high = v.track }

-- the layers of an element
abbrev pub Lies : Element → Layer → Type 0
Lies (segment (Across net column low high)) vertical = Unit {0}
Lies (segment (Across net column low high)) horizontal = ⊥
Lies (segment (Along net track from to)) vertical = ⊥
Lies (segment (Along net track from to)) horizontal = Unit {0}
Lies (via v) layer = Unit {0}

-- the layer of a wiring on which a rectangle's element lies; an element with a cut lies on both
abbrev pub layer_of : Mask → Layer
layer_of on_horizontal = horizontal
layer_of on_vertical = vertical
layer_of on_cut = vertical

-- a point of a patch
pub record IsPoint (p : Patch) (x y : ℕ) : Type 0 where
  pub from : p.from ≤ x
  pub to : x ≤ p.to
  pub low : p.low ≤ y
  pub high : y ≤ p.high

-- a patch that has a point
pub record IsProper (p : Patch) : Type 0 where
  pub across : p.from ≤ p.to
  pub up : p.low ≤ p.high

pub proper : (columns tracks : ℕ) (e : Element) → IsOnGrid columns tracks e → IsProper (patch_of e)
proper columns tracks (segment (Across net column low high)) h = record { across = omega arith; up = omega (arith, h.1) }
proper columns tracks (segment (Along net track from to)) h = record { across = h.2; up = omega arith }
proper columns tracks (via v) h = record { across = omega arith; up = omega arith }

pub within_columns : (columns tracks : ℕ) (e : Element) → IsOnGrid columns tracks e → (patch_of e).to < columns
within_columns columns tracks (segment (Across net column low high)) h = h.0
within_columns columns tracks (segment (Along net track from to)) h = h.3
within_columns columns tracks (via v) h = h.0

-- an element covers the points of its patch on its layers
pub covers : (e : Element) (layer : Layer) (x y : ℕ) → Lies e layer → IsPoint (patch_of e) x y → Covers e layer x y
covers (segment (Across net column low high)) vertical x y lies h = (omega (arith, h.from, h.to), h.low, h.high)
covers (segment (Across net column low high)) horizontal x y lies h = absurd lies
covers (segment (Along net track from to)) vertical x y lies h = absurd lies
covers (segment (Along net track from to)) horizontal x y lies h = (omega (arith, h.low, h.high), h.from, h.to)
covers (via v) layer x y lies h = (omega (arith, h.from, h.to), omega (arith, h.low, h.high))

-- and no other points
pub covered : (e : Element) (layer : Layer) (x y : ℕ) → Covers e layer x y → IsPoint (patch_of e) x y
covered (segment (Across net column low high)) vertical x y h = record { from = omega (arith, h.0); to = omega (arith, h.0); low = h.1; high = h.2 }
covered (segment (Across net column low high)) horizontal x y h = absurd h
covered (segment (Along net track from to)) vertical x y h = absurd h
covered (segment (Along net track from to)) horizontal x y h = record { from = h.1; to = h.2; low = omega (arith, h.0); high = omega (arith, h.0) }
covered (via v) layer x y h = record { from = omega (arith, h.0); to = omega (arith, h.0); low = omega (arith, h.1); high = omega (arith, h.1) }

-- two patches are parted, or have a common point
pub record Common (p q : Patch) : Type 0 where
  pub x : ℕ
  pub y : ℕ
  pub first : IsPoint p x y
  pub second : IsPoint q x y

pub parted_or_common : (p q : Patch) → IsProper p → IsProper q → Parted p q ⊎ Common p q
parted_or_common p q proper_p proper_q =
    elim (cases_lt p.to q.from) [
      | inl h ↦ inl (left_of h)
      | inr a ↦ elim (cases_lt q.to p.from) [
        | inl h ↦ inl (right_of h)
        | inr b ↦ elim (cases_lt p.high q.low) [
          | inl h ↦ inl (below_it h)
          | inr c ↦ elim (cases_lt q.high p.low) [
            | inl h ↦ inl (above_it h)
            | inr d ↦ inr (record {
              x = max p.from q.from;
              y = max p.low q.low;
              first = record {
                from = omega arith;
                to = omega (arith, proper_p.across);
                low = omega arith;
                high = omega (arith, proper_p.up);
              };
              second = record {
                from = omega arith;
                to = omega (arith, proper_q.across);
                low = omega arith;
                high = omega (arith, proper_q.up);
              };
            })
          ]
        ]
      ]
    ]

-- two elements of a layer are parted, or share a point of it
pub parted_or_meet : (e f : Element) (layer : Layer) → Lies e layer → Lies f layer → IsProper (patch_of e) → IsProper (patch_of f)
    → Parted (patch_of e) (patch_of f) ⊎ Meets e f
parted_or_meet e f layer lies_e lies_f proper_e proper_f =
    elim (parted_or_common (patch_of e) (patch_of f) proper_e proper_f) [
      | inl parted ↦ inl parted
      | inr common ↦ inr (record {
        layer = layer;
        column = common.x;
        line = common.y;
        first = covers e layer common.x common.y lies_e common.first;
        second = covers f layer common.x common.y lies_f common.second;
      })
    ]
