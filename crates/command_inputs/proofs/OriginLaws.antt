use Rattle.std.proofs.Common.{◌≡◌, ℕ, List, Bool, Option, Some, Result, Ok, Err, ap, is_ok, sym}
use Rattle.tech_rules.specs.Rules.{RuleValues}
use Rattle.tech_rules.specs.RulesOf.{rules_of}
use Rattle.tech_rules.specs.declared.fault.RulesFault.{RulesFault}
use Rattle.yal_reader.specs.Numbers.{numbers_of}
use Rattle.yal_reader.specs.YalReads.{yal_reads}
use Rattle.yal_reader.specs.declared.fault.YalKind.{YalKind}
use Rattle.yal_reader.specs.declared.file.YalFile.{YalFile}
use Rattle.design_model.specs.Netlist.{Netlist}
use Rattle.netlist_core.specs.OnGrid.{on_grid}
use Rattle.port_rows.specs.declared.designs.Designs.{Designs}
use Rattle.command_ends.specs.Refusing.{◌>>=◌}
use Rattle.command_inputs.specs.Failures.{ArePassed}
use Rattle.command_inputs.specs.Origin.{AreInputsFrom, AreRead, IsSourceText}
use Rattle.command_inputs.specs.Drawn.{design_said, drawn_said, file_said}
use Rattle.command_inputs.specs.Stated.{design_text, design_verdict, rules_said, rules_verdict, stated_design, stated_rules, yal_said, inputs_told, inputs_under}
use Rattle.command_inputs.specs.declared.outcome.ReadDesign.{ReadDesign}
use Rattle.command_inputs.specs.declared.stages.Inputs.{Inputs}
use Rattle.command_words.specs.Command.{Source, from_file, from_seed}
use Rattle.command_ends.specs.Answers.{Finds}
use Rattle.command_ends.specs.declared.refusal.Refusal.{Refusal}
use Rattle.command_ends.proofs.FindsLaws.{of-file, told-goes-on}
use Rattle.command_inputs.proofs.LimitLaws.{within-next}

-- the text of a design from a source under the rules that a text states
source-text : (source : Source) (told : List ℕ → Option (List ℕ)) (stated bytes : List ℕ) (rules : RuleValues) → rules_of stated ≡ Ok rules
    → IsSourceText source told stated bytes → design_text source told rules ≡ Some bytes
source-text (from_file name) told stated bytes rules states is = is
source-text (from_seed seed count) told stated bytes rules states is = ap (λ (l : List ℕ). Some l) (sym (is rules states))

-- rules and a file that bytes are found to state are those that these say
states-rules : (bytes : List ℕ) (values : RuleValues) → rules_verdict bytes ≡ Ok values → rules_of bytes ≡ Ok values
unfolding rules_verdict
states-rules bytes values is = stated (rules_of bytes) (within-next _ _ bytes stated_rules values is)
  where
    stated : (found : Result RuleValues RulesFault) → rules_said found ≡ Ok values → found ≡ Ok values
    stated (Ok rules) is = cc
    stated (Err fault) is = cc

reads-file : (rules : RuleValues) (ports : Bool) (bytes : List ℕ) (read : ReadDesign) → design_verdict rules ports bytes ≡ Ok read
    → yal_reads bytes (numbers_of rules.version rules.decimals) ≡ Ok read.file
unfolding design_verdict stated_design file_said
reads-file rules ports bytes read is = by (yal_reads bytes (numbers_of rules.version rules.decimals)) (within-next _ _ bytes (stated_design rules ports) read is)
  where
    drawn : (file : YalFile) (found : Result Designs Refusal) → (found >>= (λ designs. let made : ReadDesign = record { file = file; designs = designs } in Ok made)) ≡ Ok read
        → file ≡ read.file
    drawn file (Ok designs) is = cc
    drawn file (Err refusal) is = cc

    kept : (file : YalFile) (found : Result Netlist Refusal)
        → (found >>= (λ d. drawn_said ports rules file d >>= (λ designs. let made : ReadDesign = record { file = file; designs = designs } in Ok made))) ≡ Ok read → file ≡ read.file
    kept file (Ok design) is = drawn file (drawn_said ports rules file design) is
    kept file (Err refusal) is = cc

    by : (found : Result YalFile (YalKind × ℕ)) → (yal_said found >>= (λ file. file_said ports rules file)) ≡ Ok read → found ≡ Ok read.file
    by (Ok file) is = ap (λ (f : YalFile). Ok f) (kept file (design_said file (on_grid rules file)) is)
    by (Err bad) is = cc

-- inputs that were read are what the bytes of both files say
pub inputs-from : (rules : List ℕ) (source : Source) (ports : Bool) (told : List ℕ → Option (List ℕ)) (inputs : Inputs) (stated bytes : List ℕ) → AreRead rules source ports told inputs
    → told rules ≡ Some stated → IsSourceText source told stated bytes → AreInputsFrom stated bytes ports inputs
inputs-from rules source ports told inputs stated bytes read states text =
    let ruled = states-rules stated inputs.rules (read.stated stated states) in
    record {
      states = ruled;
      read = reads-file inputs.rules ports bytes (record { file = inputs.file; designs = inputs.designs }) (read.designed bytes (source-text source told stated bytes inputs.rules ruled text));
      is = read.is;
    }

-- and they are not refused
pub read-passed : (rules : List ℕ) (source : Source) (ports : Bool) (told : List ℕ → Option (List ℕ)) (inputs : Inputs) → AreRead rules source ports told inputs
    → ArePassed rules source ports told inputs.rules
read-passed rules source ports told inputs read = record { stated = read.stated; designed = λ bytes text. ap is_ok (read.designed bytes text) }

-- and what is told of both files is said of them
pub read-told : (rules : List ℕ) (source : Source) (ports : Bool) (told : List ℕ → Option (List ℕ)) (inputs : Inputs) (said : Result Inputs Refusal) → AreRead rules source ports told inputs
    → inputs_told rules source ports told ≡ Some said → said ≡ Ok inputs
unfolding inputs_told inputs_under
read-told rules source ports told inputs said read is =
    let finds : Finds {X = Inputs} (λ i. i) (Ok inputs) said =
    told-goes-on (λ (i : Inputs). i) (Ok inputs) _ inputs.rules _ said (of-file (λ (r : RuleValues). r) (Ok inputs.rules) rules_verdict _ read.stated)
    (of-file (λ (i : Inputs). i) (Ok inputs) (inputs_under inputs.rules ports) _
    (λ bytes text.
    ap (λ found. found >>= (λ (d : ReadDesign). let i : Inputs = record { rules = inputs.rules; file = d.file; designs = d.designs } in Ok i)) (read.designed bytes text))) is in
    finds
