-- what was done for the words of a command
use Rattle.std.specs.Prelude.{◌≡◌, ◌⊎◌, ◌↔◌, ℕ, List, [], true, Option, Some, None, option_and_then, Result, IfOk}
use Rattle.command_ends.specs.Status.{ending_status}
use Rattle.command_ends.specs.declared.stop.Stop.{Stop}
use Rattle.command_inputs.specs.Origin.{IsSourceText}
use Rattle.command_inputs.specs.Reading.{Files}
use Rattle.command_words.specs.Command.{CheckNames, Command, DrawNames, ImportNames, Names, check, draw, import, route, style_of, writes_of}
use Rattle.commands.specs.Causes.{ReadFails}
use Rattle.commands.specs.Changes.{Changes, IsAsSaid, IsLaidOut, IsMarkedIn}
use Rattle.commands.specs.Done.{Done, helped, judged, laid_out, wrote}
use Rattle.commands.specs.Drawn.{IsPictureOf}
use Rattle.commands.specs.Headline.{Headline, HeadlineSo, PortedHeadline}
use Rattle.commands.specs.Imported.{IsImportOf}
use Rattle.commands.specs.Verdict.{asked_verdict}
use Rattle.greedy_router.specs.declared.sweep.Routed.{Routed}

-- nothing was found of a layout exactly where this holds
abbrev pub IsJudgedBy : Type 0 → Done → Type 0
IsJudgedBy good (laid_out summary) = ⊥
IsJudgedBy good (judged inputs layout findings) = (findings ≡ []) ↔ good
IsJudgedBy good wrote = ⊥
IsJudgedBy good (helped topic) = ⊥

-- what was done for a command that is asked, or for none, that ended so and keeps this: what files tell before and after
pub record Carried (asked : Option Command) (ending : Result Done Stop) (kept : List Routed) (old new : Files) : Type 0 where
  pub said : (said : _) → asked_verdict asked old.holds ≡ Some said → IsAsSaid said (option_and_then writes_of asked) ending kept old new
  pub usage : ending_status ending ≡ 2 → asked ≡ None
  pub no_command : asked ≡ None → (ending_status ending ≡ 2) ⊎ (ending_status ending ≡ 10)
  pub changes : Changes (option_and_then writes_of asked) ending kept old new
  pub unkept : (command : Command) → asked ≡ Some command → style_of command ≡ None → kept ≡ []
  -- to route is to lay out, and what is found of a layout is marked in the file for that, if there is one
  pub laid : (names : Names) → asked ≡ Some (route names) → IfOk ending IsLaidOut
  pub marked : (names : CheckNames) (file : List ℕ) → asked ≡ Some (check names) → names.markers ≡ Some file → IfOk ending (IsMarkedIn (new.holds file))
  pub cause : (command : Command) → asked ≡ Some command → ending_status ending ≡ 8 → ReadFails command old.holds old.reads new.reads
  -- what is written is a good layout, and a layout is judged by that
  pub headline : (names : Names) (stated bytes held : List ℕ) → asked ≡ Some (route names) → old.holds names.rules ≡ Some stated
      → IsSourceText names.design old.holds stated bytes → ending_status ending ≡ 0 → new.holds names.out ≡ Some held → Headline names.wanted.ports stated bytes held
  pub judges : (names : CheckNames) (stated bytes text : List ℕ) → asked ≡ Some (check names) → old.holds names.rules ≡ Some stated
      → old.holds names.design ≡ Some bytes → old.holds names.cif ≡ Some text → IfOk ending (IsJudgedBy (HeadlineSo names.labels names.ports stated bytes text))
  pub edges : (names : Names) (stated bytes held : List ℕ) → asked ≡ Some (route names) → names.wanted.ports ≡ true → old.holds names.rules ≡ Some stated
      → IsSourceText names.design old.holds stated bytes → ending_status ending ≡ 0 → new.holds names.out ≡ Some held → PortedHeadline stated bytes held
  -- what is written is the picture of a layout, or a design that carries a netlist
  pub drawn : (names : DrawNames) (text held : List ℕ) → asked ≡ Some (draw names) → old.holds names.cif ≡ Some text → ending_status ending ≡ 0
      → new.holds names.out ≡ Some held → IsPictureOf names.part text held
  pub imported : (names : ImportNames) (netlist cells held : List ℕ) → asked ≡ Some (import names) → old.holds names.netlist ≡ Some netlist
      → old.holds names.cells ≡ Some cells → ending_status ending ≡ 0 → new.holds names.out ≡ Some held → IsImportOf names.decimals netlist cells held
