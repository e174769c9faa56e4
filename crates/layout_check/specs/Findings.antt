-- the findings of a layout
use Rattle.std.specs.Prelude.{◌≡◌, ◌≢◌, ℕ, List, [], ◌++◌, map, take, true, not}
use Rattle.std.specs.List.{list_any, zip}
use Rattle.std.specs.Str.{bytes_eq}
use Rattle.limits.specs.declared.TheConstants.{MOST_PAIRS}
use Rattle.geom_core.specs.declared.layout.Layout.{Layout}
use Rattle.tech_rules.specs.Rules.{RuleValues}
use Rattle.design_model.specs.Netlist.{Netlist}
use Rattle.geom_extract.specs.Extracts.{IsExtract}
use Rattle.geom_extract.specs.declared.joined.Extract.{Extract}
use Rattle.rule_check.specs.Crowded.{are_out_of_row, are_too_close, do_overlap}
use Rattle.rule_check.specs.Failing.{failing, failing_pairs}
use Rattle.rule_check.specs.Narrow.{is_bare, is_narrow}
use Rattle.layout_check.specs.CellFaults.{doubled, misdrawn, missing, strange}
use Rattle.layout_check.specs.NetFaults.{opened, pairs_of_firsts, shorted}
use Rattle.layout_check.specs.declared.finding.Finding.{Finding}
use Rattle.layout_check.specs.declared.finding.Finding.TheVariants.{Missing, Doubled, Strange, Drawing, Overlap, OutOfRow, Narrow, Close, BareCut, Opened, Short}

-- what is found of the names of cells, by those of the instances
abbrev pub name_findings : List (List ℕ) → List (List ℕ) → List Finding
name_findings instances cells =
    map Missing (failing (λ name. not (list_any (bytes_eq name) cells)) instances)
    ++ map (λ (p : ℕ × ℕ). Doubled p.0 p.1) (pairs_of_firsts bytes_eq (λ name other. true) cells)
    ++ map Strange (failing (λ name. not (list_any (bytes_eq name) instances)) cells)

-- what is found of cells
abbrev pub cell_findings : RuleValues → Netlist → Layout → List Finding
cell_findings r d l =
    map Missing (missing d l) ++ map (λ (p : ℕ × ℕ). Doubled p.0 p.1) (doubled l) ++ map Strange (strange d l) ++ map Drawing (misdrawn r d l)

-- what is found of outlines, and then of wires and cuts alone; of pairs of shapes the first thousand count
abbrev pub row_findings : RuleValues → Layout → List Finding
row_findings r l =
    map (λ (p : ℕ × ℕ). Overlap p.0 p.1) (take MOST_PAIRS (failing_pairs (do_overlap r) l.shapes))
    ++ map (λ (p : ℕ × ℕ). OutOfRow p.0 p.1) (take MOST_PAIRS (failing_pairs (are_out_of_row r) l.shapes))

abbrev pub narrow_findings : RuleValues → Layout → List Finding
narrow_findings r l = map Narrow (failing (is_narrow r) l.shapes)

abbrev pub bare_findings : RuleValues → Layout → List Finding
bare_findings r l = map BareCut (failing (is_bare r l.shapes) l.shapes)

-- what is found of shapes of these classes that are too close
abbrev pub close_findings : RuleValues → Layout → List ℕ → List Finding
close_findings r l shapes = map (λ (p : ℕ × ℕ). Close p.0 p.1) (take MOST_PAIRS (failing_pairs (are_too_close r) (zip shapes l.shapes)))

-- what is found of nets whose pins have these classes
abbrev pub net_findings : Netlist → List ℕ → List Finding
net_findings d pins = map (λ (p : ℕ × ℕ). Opened p.0 p.1) (opened d pins) ++ map (λ (p : ℕ × ℕ). Short p.0 p.1) (shorted d pins)

-- the findings of a layout, kind by kind: where something is found of cells, what is joined is not asked; else the classes may be numbered in any way
pub data Findings (r : RuleValues) (d : Netlist) (l : Layout) : List Finding → Type 0 where
  of_cells : cell_findings r d l ≢ []
      → Findings r d l (cell_findings r d l ++ row_findings r l ++ narrow_findings r l ++ bare_findings r l)
  of_nets : (e : Extract) → cell_findings r d l ≡ [] → IsExtract r d l e
      → Findings r d l (row_findings r l ++ narrow_findings r l ++ close_findings r l e.shapes.items ++ bare_findings r l ++ net_findings d e.pins.items)
