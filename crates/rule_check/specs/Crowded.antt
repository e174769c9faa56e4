-- shapes that are too close, and outlines that overlap or are out of row
use Rattle.std.specs.Prelude.{ℕ, pos, int_lt, List, Bool, not, ◌&&◌, ◌||◌, ◌==◌}
use Rattle.std.specs.Ordering.{int_eq}
use Rattle.close_rects.specs.ClosePairs.{is_close}
use Rattle.geom_core.specs.Rectangles.{gap}
use Rattle.geom_core.specs.declared.layout.Shape.{Shape}
use Rattle.rule_check.specs.Narrow.{is_on}
use Rattle.tech_rules.specs.Lengths.{length_in}
use Rattle.tech_rules.specs.Rules.{RuleValues}

-- whether two shapes of this layer have both gaps below its space
abbrev pub is_crowded_on : RuleValues → List ℕ → ℕ → Shape → Shape → Bool
is_crowded_on r layer space s t = (is_on layer s && is_on layer t) && is_close (length_in r space) s.rect t.rect

-- two shapes, each behind its class, are of different classes and closer than the space of a layer of wires or of cuts that is both shapes' own
abbrev pub are_too_close : RuleValues → ℕ × Shape → ℕ × Shape → Bool
are_too_close r a b = not (a.0 == b.0)
    && (is_crowded_on r r.horizontal.layer r.horizontal.space a.1 b.1
    || is_crowded_on r r.vertical.layer r.vertical.space a.1 b.1
    || is_crowded_on r r.cut.layer r.cut.space a.1 b.1)

abbrev pub are_outlines : RuleValues → Shape → Shape → Bool
are_outlines r s t = is_on r.outline.layer s && is_on r.outline.layer t

-- two outlines share an inner point
abbrev pub do_overlap : RuleValues → Shape → Shape → Bool
do_overlap r s t = are_outlines r s t && is_close (pos 0) s.rect t.rect

-- two outlines stand at different heights and share an inner height
abbrev pub are_out_of_row : RuleValues → Shape → Shape → Bool
are_out_of_row r s t = are_outlines r s t
    && (not (int_eq s.rect.y0 t.rect.y0) && int_lt (gap s.rect t.rect).1 (pos 0))
