use Rattle.std.proofs.Common.{◌++◌, ◌∙◌, ℕ, List, true, not, map, ap, ap₂}
use Rattle.std.specs.List.{list_any}
use Rattle.std.specs.Str.{bytes_eq}
use Rattle.list_facts.specs.Texts.{texts}
use Rattle.rule_check.specs.Failing.{failing}
use Rattle.layout_check.specs.NetFaults.{pairs_of_firsts}
use Rattle.layout_check.specs.declared.finding.Finding.{Finding}
use Rattle.layout_check.specs.declared.finding.Finding.TheVariants.{Missing, Doubled, Strange}
use Rattle.layout_check.proofs.Instances.{sought-mentions}
use Rattle.layout_check.proofs.cells.tell_names.Goals as goal

pub returns : goal.returns
returns c =
    let instances = texts c.args.instances.now.list.now in
    let cells = texts c.args.cells.now.list.now in
    let missing = ap (λ (l : List (List ℕ)). failing (λ (name : List ℕ). not (list_any (bytes_eq name) l)) instances) c.args.cells.now.mentioned ∙ sought-mentions instances cells in
    let strange = ap (λ (l : List (List ℕ)). failing (λ (name : List ℕ). not (list_any (bytes_eq name) l)) cells) c.args.instances.now.mentioned ∙ sought-mentions cells instances in
    c.in_ok-tell_strange.ensures
    ∙ ap₂ (λ (fs : List Finding) (ns : List ℕ). fs ++ map Strange ns)
    (c.in_ok-tell_doubled.ensures
    ∙ ap (λ (fs : List Finding). fs ++ map (λ (p : ℕ × ℕ). Doubled p.0 p.1) (pairs_of_firsts bytes_eq (λ name other. true) cells))
    (c.in_ok-tell_missing.ensures ∙ ap₂ (λ (fs : List Finding) (ns : List ℕ). fs ++ map Missing ns) c.new-findings.ensures.items missing)) strange
