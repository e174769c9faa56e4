use Rattle.std.proofs.Common.{◌≡◌, ◌↔◌, ℕ, List, [], ◌++◌, map, take, lit<, ap, ap₂}
use Rattle.std.specs.Prelude.{All, IfOk, OnOk, Result, Ok, Err}
use Rattle.std.specs.List.{zip}
use Rattle.geom_core.specs.declared.layout.Layout.{Layout}
use Rattle.geom_core.specs.declared.layout.Shape.{Shape}
use Rattle.close_rects.specs.Items.{HasInside}
use Rattle.tech_rules.specs.InRows.{InRows}
use Rattle.tech_rules.specs.Rules.{RuleValues}
use Rattle.design_model.specs.Good.{Good}
use Rattle.design_model.specs.Netlist.{IsNetlist, Netlist}
use Rattle.geom_extract.specs.Extracts.{IsExtract}
use Rattle.geom_extract.specs.declared.joined.Extract.{Extract}
use Rattle.rule_check.specs.Crowded.{are_out_of_row, are_too_close, do_overlap}
use Rattle.rule_check.specs.Failing.{failing, failing_pairs}
use Rattle.rule_check.specs.Narrow.{is_bare, is_narrow}
use Rattle.rule_check.proofs.Laws.{rows-failing, wide-failing}
use Rattle.layout_check.specs.Findings.{Findings, bare_findings, cell_findings, close_findings, narrow_findings, net_findings, row_findings}
use Rattle.layout_check.specs.Findings.Findings.{of_cells, of_nets}
use Rattle.layout_check.specs.declared.finding.Finding.{Finding}
use Rattle.layout_check.specs.declared.finding.Finding.TheVariants.{Overlap, OutOfRow, Narrow, Close, BareCut}
use Rattle.layout_check.proofs.CellLaws.{cells-match, match-cells}
use Rattle.layout_check.proofs.NetLaws.{join-none, none-join}
use Rattle.layout_check.proofs.SpaceLaws.{spaced-failing}
use Rattle.std_laws.proofs.Slices.{both-empty, none-taken, empty-five, five-empty}
use Rattle.std_laws.proofs.Images.{none-mapped}

-- what follows from a value's property, given what holds wherever there is a value
pub good-if : {A E : Type 0} (result : Result A E) (P : Type 0) (Q R : A → Type 0) → (P → (x : A) → Q x → R x) → OnOk result P → IfOk result Q → IfOk result R
good-if (Ok x) P Q R follows p q = follows p x q
good-if (Err e) P Q R follows p q = tt

-- of pairs the first thousand are none just where all are none
told-none : (f : ℕ × ℕ → Finding) (pairs : List (ℕ × ℕ)) → map f (take 1000 pairs) ≡ [] → pairs ≡ []
told-none f pairs none = none-taken 1000 pairs (lit< tt) (none-mapped f (take 1000 pairs) none)

none-told : (f : ℕ × ℕ → Finding) (pairs : List (ℕ × ℕ)) → pairs ≡ [] → map f (take 1000 pairs) ≡ []
none-told f pairs none = ap (λ (ps : List (ℕ × ℕ)). map f (take 1000 ps)) none

module _ (r : RuleValues) (d : Netlist) (l : Layout) (good : IsNetlist d) (inside : All (λ (s : Shape). HasInside s.rect) l.shapes) where
  rows-none : row_findings r l ≡ [] → InRows r l
  rows-none none =
      let both = both-empty _ (map (λ (p : ℕ × ℕ). OutOfRow p.0 p.1) (take 1000 (failing_pairs (are_out_of_row r) l.shapes))) none in
      (rows-failing r l inside).1 (
        told-none (λ (p : ℕ × ℕ). Overlap p.0 p.1) (failing_pairs (do_overlap r) l.shapes) both.0,
        told-none (λ (p : ℕ × ℕ). OutOfRow p.0 p.1) (failing_pairs (are_out_of_row r) l.shapes) both.1,
      )

  none-rows : InRows r l → row_findings r l ≡ []
  none-rows rows =
      let both = (rows-failing r l inside).0 rows in
      ap₂ (λ (os rs : List Finding). os ++ rs) (none-told (λ (p : ℕ × ℕ). Overlap p.0 p.1) (failing_pairs (do_overlap r) l.shapes) both.0)
      (none-told (λ (p : ℕ × ℕ). OutOfRow p.0 p.1) (failing_pairs (are_out_of_row r) l.shapes) both.1)

  none-good : (e : Extract) → cell_findings r d l ≡ [] → IsExtract r d l e
      → row_findings r l ++ narrow_findings r l ++ close_findings r l e.shapes.items ++ bare_findings r l ++ net_findings d e.pins.items ≡ [] → Good r d l
  none-good e cells extract none =
      let all = five-empty (row_findings r l) (narrow_findings r l) (close_findings r l e.shapes.items) (bare_findings r l) (net_findings d e.pins.items) none in
      record {
        cells = cells-match r d l good cells;
        rows = rows-none all.0;
        wide = (wide-failing r l).1 (none-mapped Narrow (failing (is_narrow r) l.shapes) all.1, none-mapped BareCut (failing (is_bare r l.shapes) l.shapes) all.3);
        spaced = (spaced-failing r d l e extract inside).1
            (told-none (λ (p : ℕ × ℕ). Close p.0 p.1) (failing_pairs (are_too_close r) (zip e.shapes.items l.shapes)) all.2);
        nets = none-join r d l e extract all.4;
      }

  good-none : (e : Extract) → IsExtract r d l e → Good r d l
      → row_findings r l ++ narrow_findings r l ++ close_findings r l e.shapes.items ++ bare_findings r l ++ net_findings d e.pins.items ≡ []
  good-none e extract is =
      let wide = (wide-failing r l).0 is.wide in
      empty-five (row_findings r l) (narrow_findings r l) (close_findings r l e.shapes.items) (bare_findings r l) (net_findings d e.pins.items)
      (none-rows is.rows) (ap (map Narrow) wide.0)
      (none-told (λ (p : ℕ × ℕ). Close p.0 p.1) (failing_pairs (are_too_close r) (zip e.shapes.items l.shapes)) ((spaced-failing r d l e extract inside).0 is.spaced))
      (ap (map BareCut) wide.1) (join-none r d l e extract is.nets)

  -- nothing is found just where the layout is good
  pub findings-good : (list : List Finding) → Findings r d l list → (list ≡ []) ↔ Good r d l
  findings-good list (of_cells some) = (
    λ none. absurd (some (both-empty (cell_findings r d l) (row_findings r l)
        (both-empty (cell_findings r d l ++ row_findings r l) (narrow_findings r l)
        (both-empty (cell_findings r d l ++ row_findings r l ++ narrow_findings r l) (bare_findings r l) none).0).0).0),
    λ is. absurd (some (match-cells r d l good is.cells)),
  )
  findings-good list (of_nets e none extract) = (none-good e none extract, good-none e extract)
