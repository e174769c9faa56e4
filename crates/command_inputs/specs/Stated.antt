-- what the files of rules and of a design state, and what the file of a layout says
use Rattle.std.specs.Prelude.{ℕ, List, Bool, Option, Some, option_map, Result, Ok, Err}
use Rattle.limits.specs.declared.TheConstants.{MOST_DESIGN_BYTES, MOST_RULES_BYTES}
use Rattle.tech_rules.specs.Rules.{RuleValues}
use Rattle.tech_rules.specs.RulesOf.{rules_of}
use Rattle.tech_rules.specs.declared.fault.RulesFault.{RulesFault}
use Rattle.tech_rules.specs.declared.fault.RulesFault.TheVariants as rules_faults
use Rattle.yal_reader.specs.Numbers.{numbers_of}
use Rattle.yal_reader.specs.YalReads.{yal_reads}
use Rattle.yal_reader.specs.declared.fault.YalKind.{YalKind}
use Rattle.yal_reader.specs.declared.file.YalFile.{YalFile}
use Rattle.layout_report.specs.MadeText.{made_text}
use Rattle.command_words.specs.Command.{Source, from_file, from_seed}
use Rattle.command_inputs.specs.Drawn.{file_said}
use Rattle.command_ends.specs.Limits.{within_limit}
use Rattle.command_ends.specs.Refusing.{◌>>=◌, told_then}
use Rattle.command_ends.specs.declared.refusal.Limited.TheVariants as limits
use Rattle.command_ends.specs.declared.refusal.Refusal.{Refusal}
use Rattle.command_inputs.specs.declared.outcome.ReadDesign.{ReadDesign}
use Rattle.command_inputs.specs.declared.stages.Inputs.{Inputs}
use Rattle.command_ends.specs.declared.refusal.Refusal.TheVariants.{Toml, Missing, Range, Tight, Yal, Memory}

-- a fault of the rules file as a refusal
abbrev pub rules_refusal : RulesFault → Refusal
rules_refusal rules_faults.Toml = Toml
rules_refusal (rules_faults.Missing key) = Missing key
rules_refusal (rules_faults.Range key) = Range key
rules_refusal (rules_faults.Tight rule) = Tight rule
rules_refusal rules_faults.Memory = Memory

abbrev pub rules_said : Result RuleValues RulesFault → Result RuleValues Refusal
rules_said (Ok rules) = Ok rules
rules_said (Err fault) = Err (rules_refusal fault)

abbrev pub yal_said : Result YalFile (YalKind × ℕ) → Result YalFile Refusal
yal_said (Ok file) = Ok file
yal_said (Err bad) = Err (Yal bad.0 bad.1)

-- the rules that a text states
abbrev pub stated_rules : List ℕ → Result RuleValues Refusal
stated_rules bytes = rules_said (rules_of bytes)

-- the rules that the bytes of a rules file state
unfoldable pub rules_verdict : List ℕ → Result RuleValues Refusal
rules_verdict bytes = do
  whole ← within_limit limits.Rules MOST_RULES_BYTES bytes
  stated_rules whole

-- the file that a text of YAL is, and the designs that it says, with ports where these are wished for
unfoldable pub stated_design : RuleValues → Bool → List ℕ → Result ReadDesign Refusal
stated_design rules ports bytes = do
  file ← yal_said (yal_reads bytes (numbers_of rules.version rules.decimals))
  file_said ports rules file

-- those that the bytes of a design's file state
unfoldable pub design_verdict : RuleValues → Bool → List ℕ → Result ReadDesign Refusal
design_verdict rules ports bytes = do
  whole ← within_limit limits.Design MOST_DESIGN_BYTES bytes
  stated_design rules ports whole

-- the rules, and what the bytes of a design's file state under them
unfoldable pub inputs_under : RuleValues → Bool → List ℕ → Result Inputs Refusal
inputs_under rules ports bytes = do
  read ← design_verdict rules ports bytes
  Ok (record { rules = rules; file = read.file; designs = read.designs })

-- the text of a design from a source, under rules: that of a file as far as it is told, or one that is made
abbrev pub design_text : Source → (List ℕ → Option (List ℕ)) → RuleValues → Option (List ℕ)
design_text (from_file name) told rules = told name
design_text (from_seed seed count) told rules = Some (made_text rules seed count)

-- the rules that a file is told to state, and the designs from a source under them
unfoldable pub inputs_told : List ℕ → Source → Bool → (List ℕ → Option (List ℕ)) → Option (Result Inputs Refusal)
inputs_told rules source ports told =
    told_then (option_map rules_verdict (told rules)) (λ stated. option_map (inputs_under stated ports) (design_text source told stated))
