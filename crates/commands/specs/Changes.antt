-- what the files of a shelf hold after a command, what it keeps, and how often writing has failed, by how it ended
use Rattle.std.specs.Prelude.{◌≡◌, ◌≢◌, ◌⊎◌, ℕ, List, [], Option, Some, None, Result, Ok, Err, IfOk}
use Rattle.command_ends.specs.Status.{ending_status}
use Rattle.command_ends.specs.declared.refusal.Refusal.{Refusal}
use Rattle.command_ends.specs.declared.stop.Stop.{Stop}
use Rattle.command_ends.specs.declared.stop.Stop.TheVariants.{Refused, ReadFault, WriteFault}
use Rattle.command_inputs.specs.Reading.{Files}
use Rattle.command_jobs.specs.Job.{Job}
use Rattle.command_jobs.specs.Text.{job_text}
use Rattle.command_jobs.specs.Written.{IsPortedText}
use Rattle.commands.specs.Accepted.{Accepted, to_lay_out}
use Rattle.commands.specs.Done.{AreFound, Done, helped, judged, laid_out, wrote}
use Rattle.commands.specs.Ends.{Ends}
use Rattle.commands.specs.Outcome.{Holds, HoldsFront}
use Rattle.greedy_router.specs.declared.sweep.Routed.{Routed}
use Rattle.shelf_io.specs.Count.{Rose}
use Rattle.shelf_io.specs.Told.{Refines}
use Rattle.marker_text.specs.Held as marked
use Rattle.finding_markers.specs.Markers.{markers_text}
use Rattle.geom_core.specs.declared.layout.Layout.{Layout}
use Rattle.layout_check.specs.declared.finding.Finding.{Finding}
use Rattle.command_inputs.specs.declared.stages.Inputs.{Inputs}

-- a layout was laid out, or something could not be written
abbrev pub HasLaidOut : Result Done Stop → Type 0
HasLaidOut (Ok (laid_out summary)) = Unit {0}
HasLaidOut (Ok (judged inputs layout findings)) = ⊥
HasLaidOut (Ok wrote) = ⊥
HasLaidOut (Ok (helped topic)) = ⊥
HasLaidOut (Err (Refused refusal)) = ⊥
HasLaidOut (Err ReadFault) = ⊥
HasLaidOut (Err WriteFault) = Unit {0}

-- the file that a command writes, if it writes one, was begun: it was written, or could not be
abbrev pub HasBegun : Result Done Stop → Option (List ℕ) → Type 0
HasBegun (Ok (laid_out summary)) file = Unit {0}
HasBegun (Ok (judged inputs layout findings)) file = file ≢ None
HasBegun (Ok wrote) file = Unit {0}
HasBegun (Ok (helped topic)) file = ⊥
HasBegun (Err (Refused refusal)) file = ⊥
HasBegun (Err ReadFault) file = ⊥
HasBegun (Err WriteFault) file = Unit {0}

-- it ended as is said, and the file that it writes, if it writes one, holds what it is to write, or what it held, or a front of what it is to write
pub record IsAsSaid (said : Result Accepted Refusal) (file : Option (List ℕ)) (ending : Result Done Stop) (kept : List Routed) (old new : Files) : Type 0 where
  pub ends : Ends kept ending said
  pub written : (name : List ℕ) → file ≡ Some name → ending_status ending ≡ 0 → Holds said kept (new.holds name)
  pub front : (name : List ℕ) → file ≡ Some name → ending_status ending ≡ 9 → HoldsFront said kept (old.holds name) (new.holds name)

-- nothing is changed but the file that it writes, if it writes one, and nothing is kept but of a layout that was laid out; without such a file none is begun
pub record Changes (file : Option (List ℕ)) (ending : Result Done Stop) (kept : List Routed) (old new : Files) : Type 0 where
  pub begun : HasBegun ending file → file ≢ None
  pub none : (HasLaidOut ending → ⊥) → kept ≡ []
  pub untouched : (HasBegun ending file → ⊥) → new.holds ≡ old.holds
  pub others : (other : List ℕ) → file ≢ Some other → new.holds other ≡ old.holds other
  pub cause : ending_status ending ≡ 9 → (name : List ℕ) → file ≡ Some name → Rose (old.writes name) (new.writes name)
  pub same_writes : ending_status ending ≢ 9 → new.writes ≡ old.writes
  pub same_reads : ending_status ending ≢ 8 → new.reads ≡ old.reads

-- a layout was laid out
abbrev pub IsLaidOut : Done → Type 0
IsLaidOut (laid_out summary) = Unit {0}
IsLaidOut (judged inputs layout findings) = ⊥
IsLaidOut wrote = ⊥
IsLaidOut (helped topic) = ⊥

-- a layout was judged, and the report database of what was found is what a file that is told holds
abbrev pub IsMarkedIn : Option (List ℕ) → Done → Type 0
IsMarkedIn told (laid_out summary) = ⊥
IsMarkedIn told (judged inputs layout findings) = AreFound inputs layout findings × Refines told (Some (markers_text inputs.designs.drawn.design layout findings))
IsMarkedIn told wrote = ⊥
IsMarkedIn told (helped topic) = ⊥

-- a layout of which this was found was judged; of the file for its report database, if there is one, it was written, or could not be
pub record AreMarked (inputs : Inputs) (layout : Layout) (findings : List Finding) (file : Option (List ℕ)) (ending : Result Done Stop) (old new : Files) : Type 0 where
  pub ends : (ending ≡ Ok (judged inputs layout findings)) ⊎ ((ending ≡ Err WriteFault) × (file ≢ None))
  pub holds : (name : List ℕ) → file ≡ Some name → ending_status ending ≡ 0 → Refines (new.holds name) (Some (markers_text inputs.designs.drawn.design layout findings))
  pub front : (name : List ℕ) → file ≡ Some name → ending_status ending ≡ 9
      → marked.HoldsFront (markers_text inputs.designs.drawn.design layout findings) (old.holds name) (new.holds name)
  pub changes : Changes file ending [] old new

-- a text was written into a file, or could not be
pub record IsTextWritten (text file : List ℕ) (ending : Result Done Stop) (old new : Files) : Type 0 where
  pub ends : (ending ≡ Ok wrote) ⊎ (ending ≡ Err WriteFault)
  pub holds : ending_status ending ≡ 0 → Refines (new.holds file) (Some text)
  pub front : ending_status ending ≡ 9 → marked.HoldsFront text (old.holds file) (new.holds file)
  pub changes : Changes (Some file) ending [] old new

-- a job with these routed channels was written into a file, or could not be; its text is that of a good layout, with its ports at the edges
pub record IsWritten (job : Job) (routed : List Routed) (file : List ℕ) (ending : Result Done Stop) (kept : List Routed) (old new : Files) : Type 0 where
  pub listed : (ending_status ending ≡ 0) ⊎ (ending_status ending ≡ 9)
  pub laid : IfOk ending IsLaidOut
  pub said : IsAsSaid (Ok (to_lay_out job)) (Some file) ending kept old new
  pub changes : Changes (Some file) ending kept old new
  pub routed_so : kept ≡ routed
  pub good : IsPortedText job.rules job.drawn (job_text job routed)
