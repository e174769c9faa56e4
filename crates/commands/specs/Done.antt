-- how a command ends
use Rattle.std.specs.Prelude.{◌≡◌, ◌≢◌, ◌↔◌, ◌⊎◌, ℕ, List, [], ◌∷◌, None, Result, Ok, Err}
use Rattle.geom_core.specs.declared.layout.Layout.{Layout}
use Rattle.design_model.specs.Good.{Good}
use Rattle.layout_check.specs.Findings.{Findings}
use Rattle.layout_check.specs.declared.finding.Finding.{Finding}
use Rattle.greedy_router.specs.declared.sweep.Routed.{Routed}
use Rattle.layout_report.specs.SummaryText.{summary_text}
use Rattle.layout_report.specs.declared.summary.Summary.{Summary}
use Rattle.command_ends.specs.FindingLines.{judged_text}
use Rattle.commands.specs.Accepted.{Accepted, to_help, to_judge, to_lay_out, to_write}
use Rattle.command_ends.specs.Status.{refusal_status}
use Rattle.command_help.specs.Texts.{text_on}
use Rattle.command_words.specs.declared.topic.Topic.{Topic}
use Rattle.command_jobs.specs.Summarized.{summary_of}
use Rattle.command_ends.specs.declared.refusal.Refusal.{Refusal}
use Rattle.command_inputs.specs.declared.stages.Inputs.{Inputs}
use Rattle.command_ends.specs.declared.stop.Stop.{Stop}
use Rattle.commands.specs.declared.done.Done as seen
use Rattle.commands.specs.declared.done.Done.TheVariants as dones

-- what a command has done: it has laid a design out, of which this is told, found this of a layout, or written a text; or a text of help is asked for
pub data Done : Type 0 where
  laid_out : Summary → Done
  judged : Inputs → Layout → List Finding → Done
  wrote : Done
  helped : Topic → Done

-- findings of a layout for a design under rules: there are none exactly where it is good
pub record AreFound (inputs : Inputs) (layout : Layout) (findings : List Finding) : Type 0 where
  pub are : Findings inputs.rules inputs.designs.drawn.design layout findings
  pub good : (findings ≡ []) ↔ Good inputs.rules inputs.designs.drawn.design layout

-- so of the inputs and the layout that were to be judged
pub record IsJudged (inputs : Inputs) (layout : Layout) (findings : List Finding) (asked : Inputs) (shown : Layout) : Type 0 where
  pub same_inputs : inputs ≡ asked
  pub same_layout : layout ≡ shown
  pub found : AreFound inputs layout findings

-- it has done what was to be done, and keeps these routed channels
abbrev pub Does : List Routed → Done → Accepted → Type 0
Does kept (laid_out summary) (to_lay_out job) = summary ≡ summary_of job kept
Does kept (laid_out summary) (to_judge inputs layout markers) = ⊥
Does kept (laid_out summary) (to_write text) = ⊥
Does kept (laid_out summary) (to_help topic) = ⊥
Does kept (judged inputs layout findings) (to_lay_out job) = ⊥
Does kept (judged inputs layout findings) (to_judge asked shown markers) = IsJudged inputs layout findings asked shown
Does kept (judged inputs layout findings) (to_write text) = ⊥
Does kept (judged inputs layout findings) (to_help topic) = ⊥
Does kept wrote (to_lay_out job) = ⊥
Does kept wrote (to_judge inputs layout markers) = ⊥
Does kept wrote (to_write text) = Unit {0}
Does kept wrote (to_help topic) = ⊥
Does kept (helped topic) (to_lay_out job) = ⊥
Does kept (helped topic) (to_judge inputs layout markers) = ⊥
Does kept (helped topic) (to_write text) = ⊥
Does kept (helped topic) (to_help asked) = topic ≡ asked

-- what is to be done writes a file
abbrev pub IsToWrite : Accepted → Type 0
IsToWrite (to_lay_out job) = Unit {0}
IsToWrite (to_judge inputs layout markers) = markers ≢ None
IsToWrite (to_write text) = Unit {0}
IsToWrite (to_help topic) = ⊥

-- the status of a layout of which this was found
abbrev pub findings_status : List Finding → ℕ
findings_status [] = 0
findings_status (finding ∷ more) = 1

-- the status of what was done, and what is printed of it: nothing of a text that was written
abbrev pub done_status : Done → ℕ
done_status (laid_out summary) = 0
done_status (judged inputs layout findings) = findings_status findings
done_status wrote = 0
done_status (helped topic) = 0

abbrev pub done_text : Done → List ℕ
done_text (laid_out summary) = summary_text summary
done_text (judged inputs layout findings) = judged_text inputs.designs.drawn.design layout findings
done_text wrote = []
done_text (helped topic) = text_on topic

-- what a command has done as contracts see it, and how it ended
abbrev pub done_seen : seen.Done → Done
done_seen (dones.LaidOut summary) = laid_out summary
done_seen (dones.Judged j) = judged j.inputs j.layout j.findings.items
done_seen dones.Wrote = wrote
done_seen (dones.Helped topic) = helped topic

abbrev pub end_seen : Result seen.Done Stop → Result Done Stop
end_seen (Ok done) = Ok (done_seen done)
end_seen (Err stop) = Err stop

-- 0 where a layout is good, and 1 where it is not
abbrev pub IsJudgement : Type 0 → ℕ → Type 0
IsJudgement good n = ((n ≡ 0) × good) ⊎ ((n ≡ 1) × (good → ⊥))

-- the status of a verdict, where nothing fails
abbrev pub IsStatusOf : Result Accepted Refusal → ℕ → Type 0
IsStatusOf (Ok (to_lay_out job)) n = n ≡ 0
IsStatusOf (Ok (to_judge inputs layout markers)) n = IsJudgement (Good inputs.rules inputs.designs.drawn.design layout) n
IsStatusOf (Ok (to_write text)) n = n ≡ 0
IsStatusOf (Ok (to_help topic)) n = n ≡ 0
IsStatusOf (Err refusal) n = n ≡ refusal_status refusal
