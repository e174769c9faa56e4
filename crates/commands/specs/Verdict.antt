-- what a command's words and files ask for: a design to lay out, a layout to judge, a text to write, a text of help, or the first refusal
use Rattle.std.specs.Prelude.{◌≡◌, ◌++◌, ℕ, List, Bool, true, false, Option, Some, None, option_map, Result, Ok, Err}
use Rattle.command_words.specs.Command.{Command, check, command_of, draw, from_file, help, import, route}
use Rattle.commands.specs.Headline.{layout_so}
use Rattle.commands.specs.Accepted.{Accepted, to_help, to_judge, to_lay_out, to_write}
use Rattle.commands.specs.Drawn.{drawn_text, view_of}
use Rattle.commands.specs.Imported.{import_said}
use Rattle.command_ends.specs.Refusing.{◌>>=◌, told_then}
use Rattle.command_jobs.specs.Tries.{job_of}
use Rattle.command_words.specs.declared.command.Wanted.{Wanted}
use Rattle.command_ends.specs.declared.refusal.Refusal.{Refusal}
use Rattle.command_inputs.specs.declared.stages.Inputs.{Inputs}
use Rattle.command_ends.specs.declared.refusal.Refusal.TheVariants.{Usage}
use Rattle.command_inputs.specs.Stated.{inputs_told}
use Rattle.command_inputs.specs.LayoutFile.{layout_verdict}
use Rattle.command_inputs.specs.GivenRules.{rules_given}
use Rattle.command_inputs.specs.NetlistFiles.{cells_verdict, netlist_verdict}
use Rattle.blif_reader.specs.declared.file.BlifFile.{BlifFile}
use Rattle.geom_core.specs.Extent.{Extent}
use Rattle.netlist_import.specs.Parent.{parent_of}
use Rattle.tech_rules.specs.Rules.{RuleValues}
use Rattle.yal_writer.specs.ParentText.{parent_text}
use Rattle.command_jobs.specs.Limits.{within_limits}

-- the job of laying a design out under rules
unfoldable pub job_verdict : Wanted → Inputs → Result Accepted Refusal
job_verdict wanted inputs = do
  job ← within_limits (job_of inputs.rules inputs.designs wanted)
  Ok (to_lay_out job)

-- the layer whose labels tell the cells, where they are to
abbrev pub labels_on : Bool → RuleValues → Option (List ℕ)
labels_on false rules = None
labels_on true rules = Some rules.outline.layer

-- the judgement of the layout that the bytes of a file are, by labels and areas or not, for a design under rules, with a file for markers or none
unfoldable pub judgement_verdict : Bool → Inputs → Option (List ℕ) → List ℕ → Result Accepted Refusal
judgement_verdict labels inputs markers bytes = do
  layout ← layout_verdict (labels_on labels inputs.rules) bytes
  Ok (to_judge inputs (layout_so labels inputs.rules inputs.designs.drawn.design layout) markers)

-- the picture of the layout that the bytes of a file are, of a part of it or of all, with the roles of its layers under rules, if there are some
unfoldable pub picture_verdict : Option Extent → Option RuleValues → List ℕ → Result Accepted Refusal
picture_verdict part rules bytes = do
  layout ← layout_verdict None bytes
  text ← drawn_text layout (view_of part rules)
  Ok (to_write text)

-- the text of cells that the bytes of a file are, and behind it the PARENT of a netlist over them
unfoldable pub import_verdict : ℕ → BlifFile → List ℕ → Result Accepted Refusal
import_verdict decimals netlist bytes = do
  cells ← cells_verdict decimals bytes
  parent ← import_said (parent_of netlist cells)
  Ok (to_write (bytes ++ parent_text parent))

-- the verdict on a command by what the files are told to hold: what is to be done, or the first refusal. There is none where a file that it comes to
-- is untold
unfoldable pub command_verdict : Command → (List ℕ → Option (List ℕ)) → Option (Result Accepted Refusal)
command_verdict (route names) told = told_then (inputs_told names.rules names.design names.wanted.ports told) (λ inputs. Some (job_verdict names.wanted inputs))
command_verdict (check names) told =
    told_then (inputs_told names.rules (from_file names.design) names.ports told) (λ inputs. option_map (judgement_verdict names.labels inputs names.markers) (told names.cif))
command_verdict (draw names) told = told_then (rules_given names.rules told) (λ rules. option_map (picture_verdict names.part rules) (told names.cif))
command_verdict (import names) told =
    told_then (option_map netlist_verdict (told names.netlist)) (λ netlist. option_map (import_verdict names.decimals netlist) (told names.cells))
command_verdict (help topic) told = Some (Ok (to_help topic))

-- that on a command's words
abbrev pub asked_verdict : Option Command → (List ℕ → Option (List ℕ)) → Option (Result Accepted Refusal)
asked_verdict None told = Some (Err Usage)
asked_verdict (Some command) told = command_verdict command told

abbrev pub verdict : List (List ℕ) → List (List ℕ) → (List ℕ → Option (List ℕ)) → Option (Result Accepted Refusal)
verdict styles words told = asked_verdict (command_of styles words) told

-- words give a command, where the styles have these names, and this is the verdict on it
pub record Comes (styles words : List (List ℕ)) (told : List ℕ → Option (List ℕ)) (command : Command) (said : Result Accepted Refusal) : Type 0 where
  pub asked : command_of styles words ≡ Some command
  pub says : command_verdict command told ≡ Some said
