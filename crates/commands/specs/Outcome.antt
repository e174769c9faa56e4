-- what the written file and the sink hold after a command, and its status
use Rattle.std.specs.Prelude.{◌≡◌, ◌⊎◌, ◌++◌, Bool, ℕ, List, Option, Some, Result, Ok, Err, IfSome, slice_get, take}
use Rattle.shelf_io.specs.Count.{Rose}
use Rattle.shelf_io.specs.Told.{Refines, appended}
use Rattle.commands.specs.Ends.{Ends}
use Rattle.cif_writer.specs.LayoutText as written
use Rattle.marker_text.specs.Held as marked
use Rattle.finding_markers.specs.Markers.{markers_text}
use Rattle.geom_core.specs.declared.layout.Layout.{Layout}
use Rattle.layout_check.specs.declared.finding.Finding.{Finding}
use Rattle.command_inputs.specs.declared.stages.Inputs.{Inputs}
use Rattle.commands.specs.Done.{AreFound, Done, done_status, done_text}
use Rattle.command_ends.specs.Gains.{Gains}
use Rattle.commands.specs.Accepted.{Accepted, to_help, to_judge, to_lay_out, to_write}
use Rattle.command_jobs.specs.Job.{Job}
use Rattle.command_ends.specs.FindingLines.{judged_text}
use Rattle.command_ends.specs.Line.{line_of}
use Rattle.command_ends.specs.Status.{stop_status}
use Rattle.choose_core.specs.declared.candidate.Candidate.{Candidate}
use Rattle.choose_core.specs.declared.plan.Plan.{Plan}
use Rattle.greedy_router.specs.Answers.{AreRouted}
use Rattle.greedy_router.specs.declared.sweep.Routed.{Routed}
use Rattle.command_words.specs.Command.{Command, is_by_edge, style_of}
use Rattle.command_jobs.specs.Text.{channels_of, job_text}
use Rattle.command_ends.specs.declared.refusal.Refusal.{Refusal}
use Rattle.command_ends.specs.declared.stop.Stop.{Stop}
use Rattle.command_ends.specs.declared.stop.Stop.TheVariants.{WriteFault}

-- a job to lay a design out is accepted, of which this holds
abbrev pub IsJobAnd : Result Accepted Refusal → (Job → Type 0) → Type 0
IsJobAnd (Ok (to_lay_out job)) P = P job
IsJobAnd (Ok (to_judge inputs layout markers)) P = ⊥
IsJobAnd (Ok (to_write text)) P = ⊥
IsJobAnd (Ok (to_help topic)) P = ⊥
IsJobAnd (Err refusal) P = ⊥

-- a file that is told holds just the report database of what is wrong with a layout
abbrev pub HoldsMarkers : Inputs → Layout → Option (List ℕ) → Type 0
HoldsMarkers inputs layout told =
    (findings : List Finding) × (AreFound inputs layout findings × Refines told (Some (markers_text inputs.designs.drawn.design layout findings)))

-- or what it was told to hold before, or a front of that
abbrev pub HoldsMarkersFront : Inputs → Layout → Option (List ℕ) → Option (List ℕ) → Type 0
HoldsMarkersFront inputs layout before told =
    (findings : List Finding) × (AreFound inputs layout findings × marked.HoldsFront (markers_text inputs.designs.drawn.design layout findings) before told)

-- a file that is told holds just what the command is to write: the text of the job that is accepted, with these routed channels, the report database of the layout that is to be judged, or
-- the text that is to be written
abbrev pub Holds : Result Accepted Refusal → List Routed → Option (List ℕ) → Type 0
Holds (Ok (to_lay_out job)) kept told = Refines told (Some (job_text job kept))
Holds (Ok (to_judge inputs layout markers)) kept told = HoldsMarkers inputs layout told
Holds (Ok (to_write text)) kept told = Refines told (Some text)
Holds (Ok (to_help topic)) kept told = ⊥
Holds (Err refusal) kept told = ⊥

-- a file that is told holds what it was told to hold before, or a front of what the command is to write
abbrev pub HoldsFront : Result Accepted Refusal → List Routed → Option (List ℕ) → Option (List ℕ) → Type 0
HoldsFront (Ok (to_lay_out job)) kept before told = written.HoldsFront (job_text job kept) before told
HoldsFront (Ok (to_judge inputs layout markers)) kept before told = HoldsMarkersFront inputs layout before told
HoldsFront (Ok (to_write text)) kept before told = marked.HoldsFront text before told
HoldsFront (Ok (to_help topic)) kept before told = ⊥
HoldsFront (Err refusal) kept before told = ⊥

-- the channels of the job that is accepted are routed so, by the sweeps of a plan and choices that may be made, and by left edges where
-- these are wished for; one is
abbrev pub IsRoutedSo : Bool → Plan → (List Candidate → ℕ → Type 0) → Result Accepted Refusal → List Routed → Type 0
IsRoutedSo edge plan may said kept = IsJobAnd said (λ job. AreRouted edge plan may (channels_of job) kept)

-- so by the plan and the choices of a command's style
pub record AreKept {C : Type 0} (styles : List C) (plan : C → Plan) (may : C → List Candidate → ℕ → Type 0) (command : Command)
    (said : Result Accepted Refusal) (kept : List Routed) : Type 0 where
  pub by_style : (place : ℕ) (style : C) → style_of command ≡ Some place → slice_get styles place ≡ Some style
      → IsRoutedSo (is_by_edge command) (plan style) (may style) said kept

-- what was done is printed whole
pub record IsPrinted (done : Done) (status : ℕ) (before after : Option (List ℕ)) (old new : ℕ) : Type 0 where
  pub number : status ≡ done_status done
  pub whole : Refines after (appended before (done_text done))
  pub calm : new ≡ old

-- a file that is told holds the report database of what was found of a layout, and a sink that is told gained the lines of just that
pub record IsMarked (told before after : Option (List ℕ)) : Type 0 where
  pub inputs : Inputs
  pub layout : Layout
  pub findings : List Finding
  pub found : AreFound inputs layout findings
  pub holds : Refines told (Some (markers_text inputs.designs.drawn.design layout findings))
  pub printed : Refines after (appended before (judged_text inputs.designs.drawn.design layout findings))

-- a sink that is told gained a front of a text, and then a front of another
abbrev pub GainsFronts : List ℕ → List ℕ → Option (List ℕ) → Option (List ℕ) → Type 0
GainsFronts first second before after = (held : List ℕ) → after ≡ Some held
    → (j : ℕ) × (k : ℕ) × (appended before (take j first ++ take k second) ≡ Some held)

-- printing what was done failed, and the line of a write fault was tried
pub record IsCutOff (done : Done) (status : ℕ) (before after : Option (List ℕ)) (old new : ℕ) : Type 0 where
  pub number : status ≡ 9
  pub fronts : GainsFronts (done_text done) (line_of WriteFault) before after
  pub rose : Rose old new

-- what stopped a command is printed as far as the sink takes it
pub record IsStopped (stop : Stop) (status : ℕ) (before after : Option (List ℕ)) (old new : ℕ) : Type 0 where
  pub number : status ≡ stop_status stop
  pub line : Gains (line_of stop) before after old new

-- a command that ended so has this status, and its lines are put to the sink
abbrev pub Tells : Result Done Stop → ℕ → Option (List ℕ) → Option (List ℕ) → ℕ → ℕ → Type 0
Tells (Ok done) status before after old new = IsPrinted done status before after old new ⊎ IsCutOff done status before after old new
Tells (Err stop) status before after old new = IsStopped stop status before after old new

-- a command that keeps these routed channels ended so: as is said, where anything is, with the status of that end, and with its lines put to the sink
pub record EndsAs (said : Option (Result Accepted Refusal)) (kept : List Routed) (status : ℕ) (before after : Option (List ℕ)) (old new : ℕ) : Type 0 where
  pub ending : Result Done Stop
  pub is : IfSome said (Ends kept ending)
  pub tells : Tells ending status before after old new
