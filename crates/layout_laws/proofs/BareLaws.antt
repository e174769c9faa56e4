use Rattle.std.proofs.Common.{inl, inr, ℕ, ◌≤◌, List, ◌++◌, Contains, arith}
use Rattle.std.proofs.lemmas.Int.{ints}
use Rattle.std.proofs.lemmas.List.Elements.{Contains-append_cases}
use Rattle.tech_rules.specs.Rules.{RuleValues}
use Rattle.wire_geom.proofs.ScaleLaws.{scaled-order}
use Rattle.wire_geom.specs.Spaces.{NetsApart}
use Rattle.wire_geom.specs.Widths.{AreWide}
use Rattle.wire_geom.specs.declared.drawn.Drawn.{Drawn}
use Rattle.layout_laws.proofs.Strips.{Stays, Stay, Strip}
use Rattle.layout_laws.proofs.Uprights.{IsWired}
use Rattle.layout_laws.proofs.StripLaws.{AreWide-append}

-- rectangles without wires and cuts
abbrev pub IsBare : RuleValues → List Drawn → Type 0
IsBare r ds = (a : Drawn) → Contains ds a → IsWired r a → ⊥

module _ (r : RuleValues) (floor middle ceiling : ℕ) (lower below upper : ℕ → ℕ → Type 0) (order : floor ≤ middle) (none : (column net : ℕ) → below column net → ⊥) where
  -- what keeps its space from an edge without entries keeps it from a lower one
  stays-lowered : (space : ℕ) (a : Drawn) → Stays r middle ceiling below upper space a → Stays r floor ceiling lower upper space a
  stays-lowered space a stays =
      let down = scaled-order r floor middle order in
      record {
        from = omega (arith, ints, stays.from, down);
        to = stays.to;
        below = elim stays.below [
          | inl far ↦ inl (omega (arith, ints, far, down))
          | inr enters ↦ absurd (none enters.column a.net enters.has_entry)
        ];
        above = stays.above;
      }

  module _ (ds es : List Drawn) (bare : IsBare r ds) (strip : Strip r middle ceiling below upper es) where
    -- the wires and cuts of both are the strip's
    only : (a : Drawn) → Contains (ds ++ es) a → IsWired r a → Contains es a
    only a member wired =
        elim (Contains-append_cases ds es a member) [
          | inl first ↦ absurd (bare a first wired)
          | inr second ↦ second
        ]

    bare_wide : AreWide r ds
    bare_wide = record {
      horizontal = λ a member on. absurd (bare a member (inl (inl on)));
      vertical = λ a member on. absurd (bare a member (inl (inr on)));
      cut = λ a member on. absurd (bare a member (inr on));
      in_horizontal = λ a member on. absurd (bare a member (inr on));
      in_vertical = λ a member on. absurd (bare a member (inr on));
    }

    both_apart : NetsApart r (ds ++ es)
    both_apart = record {
      horizontal = λ a b in_a in_b on_a on_b. strip.apart.horizontal a b (only a in_a (inl (inl on_a))) (only b in_b (inl (inl on_b))) on_a on_b;
      vertical = λ a b in_a in_b on_a on_b. strip.apart.vertical a b (only a in_a (inl (inr on_a))) (only b in_b (inl (inr on_b))) on_a on_b;
      cut = λ a b in_a in_b on_a on_b. strip.apart.cut a b (only a in_a (inr on_a)) (only b in_b (inr on_b)) on_a on_b;
    }

    both_stay : Stay r floor ceiling lower upper (ds ++ es)
    both_stay = record {
      horizontal = λ a member on. stays-lowered r.horizontal.space a (strip.stay.horizontal a (only a member (inl (inl on))) on);
      vertical = λ a member on. stays-lowered r.vertical.space a (strip.stay.vertical a (only a member (inl (inr on))) on);
      cut = λ a member on. stays-lowered r.cut.space a (strip.stay.cut a (only a member (inr on)) on);
    }

    -- a strip without entries on its lower edge stays one with rectangles that are no wires under it, down to any lower edge
    pub strip-lowered : Strip r floor ceiling lower upper (ds ++ es)
    strip-lowered = record { wide = AreWide-append r ds es bare_wide strip.wide; apart = both_apart; stay = both_stay }
