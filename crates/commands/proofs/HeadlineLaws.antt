use Rattle.std.proofs.Common.{◌≡◌, ◌∙◌, ℕ, List, Bool, true, false, Result, Ok, Err, refl, ap, subst, sym}
use Rattle.geom_core.specs.declared.layout.Layout.{Layout}
use Rattle.tech_rules.specs.Rules.{RuleValues}
use Rattle.yal_reader.specs.declared.file.YalFile.{YalFile}
use Rattle.design_model.specs.Good.{Good}
use Rattle.design_model.specs.Netlist.{Netlist}
use Rattle.netlist_core.specs.OnGrid.{on_grid}
use Rattle.port_rows.specs.Designs.{bare_designs, placed_in, ported_designs}
use Rattle.port_rows.specs.Ported.{ported_of}
use Rattle.port_rows.specs.declared.designs.Designs.{Designs}
use Rattle.port_rows.specs.declared.fault.PortFault.{PortFault}
use Rattle.port_rows.specs.declared.ported.Ported.{Ported}
use Rattle.cif_text.specs.Meaning.{meaning}
use Rattle.cif_text.specs.ReadsAs.{ReadsAs}
use Rattle.command_inputs.specs.Drawn.{drawn_said, ported_said}
use Rattle.command_inputs.specs.Origin.{AreDesignsFor, AreInputsFrom}
use Rattle.command_inputs.specs.declared.stages.Inputs.{Inputs}
use Rattle.command_jobs.specs.Written.{IsGoodText, IsPortedText}
use Rattle.commands.specs.Headline.{HeadlineSo, IsGoodByLabels, IsGoodSo, IsGoodTextSo, PortedHeadline, ReadsSo, layout_so}
use Rattle.label_reader.specs.Labelled.{labelled}
use Rattle.label_reader.specs.ReadsByLabels.{ReadsByLabels}
use Rattle.layout_merge.specs.MergedLayout.{merged_layout}
use Rattle.yal_reader.specs.Numbers.{numbers_of}
use Rattle.yal_reader.specs.YalReads.{yal_reads}
use Rattle.std_laws.proofs.Options.{ok-same}

-- without ports the design that is drawn is the one that is placed
bare-drawn : (rules : RuleValues) (file : YalFile) (d : Netlist) (designs : Designs) → drawn_said false rules file d ≡ Ok designs → d ≡ designs.drawn.design
bare-drawn rules file d designs is =
    ap (λ (x : Designs). x.drawn.design) (ok-same (drawn_said false rules file d) (bare_designs d) designs refl is)

-- and with them it is that with its ports
ported-drawn : (rules : RuleValues) (file : YalFile) (d : Netlist) (designs : Designs) → drawn_said true rules file d ≡ Ok designs → ported_of rules file d ≡ Ok designs.drawn
ported-drawn rules file d designs is = by (ported_of rules file d) is
  where
    by : (found : Result Ported PortFault) → ported_said d found ≡ Ok designs → found ≡ Ok designs.drawn
    by (Ok ported) found =
        ap (λ (x : Designs). let answer : Result Ported PortFault = Ok x.drawn in answer) (ok-same (ported_said d (Ok ported)) (ported_designs d ported) designs refl found)
    by (Err fault) found = cc

-- what holds of the design that is drawn does so of that of the file
good-so : (ports : Bool) (rules : RuleValues) (file : YalFile) (designs : Designs) (holds : Netlist → Type 0) → AreDesignsFor rules ports file designs
    → holds designs.drawn.design → IsGoodSo ports rules file holds
good-so false rules file designs holds are good = record {
  design = designs.drawn.design;
  checked = subst (λ (d : Netlist). on_grid rules file ≡ Ok d) (bare-drawn rules file (placed_in designs) designs are.drawn) are.checked;
  nets = are.nets;
  good = good;
}
good-so true rules file designs holds are good = record {
  design = placed_in designs;
  checked = are.checked;
  ported = designs.drawn;
  has = ported-drawn rules file (placed_in designs) designs are.drawn;
  words = are.words refl;
  nets = are.nets;
  good = good;
}

-- a text reads as one layout
one-layout : (rules : RuleValues) (d : Netlist) (text : List ℕ) (layout : Layout) → ReadsAs text layout → IsGoodText rules d text → Good rules d layout
one-layout rules d text layout reads good =
    let commands : good.reads.commands ≡ reads.commands = ok-same _ good.reads.commands reads.commands good.reads.reads reads.reads in
    let shown : good.layout ≡ layout = ok-same (meaning good.reads.commands) good.layout layout good.reads.means (ap meaning commands ∙ reads.means) in
    subst (λ (l : Layout). Good rules d l) shown good.good

-- and by its labels too
one-labelled : (rules : RuleValues) (d : Netlist) (text : List ℕ) (layout : Layout) → ReadsByLabels rules.outline.layer text layout → IsGoodByLabels rules d text
    → Good rules d (merged_layout rules d layout)
one-labelled rules d text layout reads good =
    let commands : good.reads.commands ≡ reads.commands = ok-same _ good.reads.commands reads.commands good.reads.reads reads.reads in
    let shown : good.layout ≡ layout =
    ok-same (labelled rules.outline.layer good.reads.commands) good.layout layout good.reads.labelled_is (ap (labelled rules.outline.layer) commands ∙ reads.labelled_is) in
    subst (λ (l : Layout). Good rules d (merged_layout rules d l)) shown good.good

one-so : (labels : Bool) (rules : RuleValues) (d : Netlist) (text : List ℕ) (layout : Layout) → ReadsSo labels rules text layout → IsGoodTextSo labels rules text d
    → Good rules d (layout_so labels rules d layout)
one-so false rules d text layout reads good = one-layout rules d text layout reads good
one-so true rules d text layout reads good = one-labelled rules d text layout reads good

-- a text that reads as a good layout
pub text-so : (labels : Bool) (rules : RuleValues) (d : Netlist) (text : List ℕ) (layout : Layout) → ReadsSo labels rules text layout → Good rules d (layout_so labels rules d layout)
    → IsGoodTextSo labels rules text d
text-so false rules d text layout reads good = record { layout = layout; reads = reads; good = good }
text-so true rules d text layout reads good = record { layout = layout; reads = reads; good = good }

-- what a file says is one design, so that what holds of it does so of the design that is drawn
so-good : (ports : Bool) (rules : RuleValues) (file : YalFile) (designs : Designs) (holds : Netlist → Type 0) → AreDesignsFor rules ports file designs
    → IsGoodSo ports rules file holds → holds designs.drawn.design
so-good false rules file designs holds are so =
    let same : so.design ≡ placed_in designs = ok-same (on_grid rules file) so.design (placed_in designs) so.checked are.checked in
    subst holds (same ∙ bare-drawn rules file (placed_in designs) designs are.drawn) so.good
so-good true rules file designs holds are so =
    let same : so.design ≡ placed_in designs = ok-same (on_grid rules file) so.design (placed_in designs) so.checked are.checked in
    let drawn : so.ported ≡ designs.drawn =
    ok-same (ported_of rules file (placed_in designs)) so.ported designs.drawn (ap (ported_of rules file) (sym same) ∙ so.has)
    (ported-drawn rules file (placed_in designs) designs are.drawn) in
    subst (λ (p : Ported). holds p.design) drawn so.good

-- of what the bytes of a rules file and of a design's file say
module _ (stated bytes text : List ℕ) (labels ports : Bool) (inputs : Inputs) (from : AreInputsFrom stated bytes ports inputs) where
  -- a text that is a good layout of it is so of what they say
  pub headline-of : IsGoodTextSo labels inputs.rules text inputs.designs.drawn.design → HeadlineSo labels ports stated bytes text
  headline-of good = record {
    rules = inputs.rules;
    states = from.states;
    good = record { file = inputs.file; read = from.read; good = good-so ports inputs.rules inputs.file inputs.designs (IsGoodTextSo labels inputs.rules text) from.is good };
  }

  -- what files say is one design under one set of rules, and a text reads as one layout, so that the headline is a fact of these
  pub good-of : (layout : Layout) → ReadsSo labels inputs.rules text layout → HeadlineSo labels ports stated bytes text
      → Good inputs.rules inputs.designs.drawn.design (layout_so labels inputs.rules inputs.designs.drawn.design layout)
  good-of layout reads headline =
      let rules : headline.rules ≡ inputs.rules = ok-same _ headline.rules inputs.rules headline.states from.states in
      let file : headline.good.file ≡ inputs.file =
      ok-same _ headline.good.file inputs.file headline.good.read
      (ap (λ (r : RuleValues). yal_reads bytes (numbers_of r.version r.decimals)) rules ∙ from.read) in
      let so : IsGoodSo ports inputs.rules inputs.file (IsGoodTextSo labels inputs.rules text) =
      subst (λ (f : YalFile). IsGoodSo ports inputs.rules f (IsGoodTextSo labels inputs.rules text)) file
      (subst (λ (r : RuleValues). IsGoodSo ports r headline.good.file (IsGoodTextSo labels r text)) rules headline.good.good) in
      one-so labels inputs.rules inputs.designs.drawn.design text layout reads
      (so-good ports inputs.rules inputs.file inputs.designs (IsGoodTextSo labels inputs.rules text) from.is so)

-- a text in which ports stand at the edges
pub ported-of : (stated bytes text : List ℕ) (inputs : Inputs) → AreInputsFrom stated bytes true inputs → IsPortedText inputs.rules inputs.designs.drawn text
    → PortedHeadline stated bytes text
ported-of stated bytes text inputs from ported = (
  record {
    rules = inputs.rules;
    states = from.states;
    good = record {
      file = inputs.file;
      read = from.read;
      good = record {
        design = placed_in inputs.designs;
        checked = from.is.checked;
        ported = inputs.designs.drawn;
        has = ported-drawn inputs.rules inputs.file (placed_in inputs.designs) inputs.designs from.is.drawn;
        words = from.is.words refl;
        nets = from.is.nets;
        good = ported.is;
      };
    };
  },
  ported.edges,
)
