use Rattle.std.proofs.Common.{◌≡◌, ◌≢◌, ◌⊎◌, ◌↔◌, ◌∙◌, ◌<◌, ◌++◌, option_to_list, ℕ, List, [], ◌∷◌, length, take, Option, Some, None, Result, Ok, Err, IfSome, ap₂, inl, inr, refl, sym, subst, arith}
use Rattle.std.proofs.lemmas.List.{take_all}
use Rattle.std.proofs.lemmas.Option.{same_Some}
use Rattle.shelf_io.specs.Count.{Rose, Still}
use Rattle.layout_check.specs.declared.finding.Finding.{Finding}
use Rattle.greedy_router.specs.declared.sweep.Routed.{Routed}
use Rattle.command_ends.specs.Answers.{Finds}
use Rattle.command_ends.specs.Status.{refusal_status, stop_status}
use Rattle.command_ends.specs.declared.refusal.Refusal.{Refusal}
use Rattle.command_ends.specs.declared.refusal.Refusal.TheVariants as refusals
use Rattle.command_ends.specs.declared.stop.Stop.{Stop}
use Rattle.command_ends.specs.declared.stop.Stop.TheVariants.{Refused, ReadFault, WriteFault}
use Rattle.command_inputs.specs.Failures.{InputsFail, SourceFails}
use Rattle.command_inputs.specs.GivenRules.{GivenFail}
use Rattle.command_inputs.specs.declared.stages.Inputs.{Inputs}
use Rattle.command_jobs.specs.Text.{job_text}
use Rattle.command_words.specs.Command.{Command, Source, check, draw, files_of, from_file, from_seed, help, import, reads_of, route}
use Rattle.geom_core.specs.declared.layout.Layout.{Layout}
use Rattle.commands.specs.Accepted.{Accepted, to_help, to_judge, to_lay_out, to_write}
use Rattle.commands.specs.Causes.{AreStill, IsStill, ReadFails, WriteFails}
use Rattle.commands.specs.Done.{Done, IsJudgement, IsStatusOf, done_status, findings_status, helped, judged, laid_out, wrote}
use Rattle.commands.specs.Ends.{Ends}
use Rattle.commands.specs.Outcome.{Holds, HoldsFront}
use Rattle.finding_markers.specs.Markers.{markers_text}

-- what stopped a command before it wrote is its end
pub stopped : {X : Type 0} (view : X → Accepted) (kept : List Routed) (stop : Stop) (said : Result Accepted Refusal) → Finds view (Err stop) said
    → Ends kept (Err stop) said
stopped view kept (Refused refusals.Memory) said found = tt
stopped view kept (Refused refusal) said found = found
stopped view kept ReadFault said found = tt
stopped view kept WriteFault said found = absurd found

-- where neither reading nor writing failed, what stopped a command has the status of what is said, or memory ran out
pub stop-said : (kept : List Routed) (stop : Stop) (said : Result Accepted Refusal) → Ends kept (Err stop) said → stop_status stop ≢ 8 → stop_status stop ≢ 9
    → IsStatusOf said (stop_status stop) ⊎ (stop_status stop ≡ 10)
stop-said kept (Refused refusals.Memory) said is unread unwritten = inr refl
stop-said kept (Refused refusal) said is unread unwritten = inl (subst (λ (s : Result Accepted Refusal). IsStatusOf s (refusal_status refusal)) (sym is) refl)
stop-said kept ReadFault said is unread unwritten = absurd (unread refl)
stop-said kept WriteFault said is unread unwritten = absurd (unwritten refl)

-- the status of a layout that was judged is 0 exactly where this holds, and else 1
pub judged-number : (findings : List Finding) (good : Type 0) (n : ℕ) → (findings ≡ []) ↔ good → n ≡ findings_status findings → IsJudgement good n
judged-number [] good n is number = inl (number, is.0 refl)
judged-number (f ∷ fs) good n is number = inr (number, λ holds. let none : f ∷ fs ≡ [] = is.1 holds in cc)

-- what was done and told of has the status of what is said
pub done-said : (kept : List Routed) (done : Done) (said : Result Accepted Refusal) (n : ℕ) → Ends kept (Ok done) said → n ≡ done_status done → IsStatusOf said n
done-said kept (laid_out summary) (Ok (to_lay_out job)) n ends number = number
done-said kept (laid_out summary) (Ok (to_judge inputs layout markers)) n ends number = absurd ends
done-said kept (laid_out summary) (Ok (to_write text)) n ends number = absurd ends
done-said kept (laid_out summary) (Ok (to_help topic)) n ends number = absurd ends
done-said kept (judged inputs layout findings) (Ok (to_lay_out job)) n ends number = absurd ends
done-said kept (judged inputs layout findings) (Ok (to_judge asked shown markers)) n ends number =
    subst (λ (said : Result Accepted Refusal). IsStatusOf said n) (ap₂ (λ (i : Inputs) (l : Layout). Ok (to_judge i l markers)) ends.same_inputs ends.same_layout)
    (judged-number findings _ n ends.found.good number)
done-said kept (judged inputs layout findings) (Ok (to_write text)) n ends number = absurd ends
done-said kept (judged inputs layout findings) (Ok (to_help topic)) n ends number = absurd ends
done-said kept wrote (Ok (to_lay_out job)) n ends number = absurd ends
done-said kept wrote (Ok (to_judge asked shown markers)) n ends number = absurd ends
done-said kept wrote (Ok (to_write text)) n ends number = number
done-said kept wrote (Ok (to_help topic)) n ends number = absurd ends
done-said kept (helped topic) (Ok (to_lay_out job)) n ends number = absurd ends
done-said kept (helped topic) (Ok (to_judge inputs layout markers)) n ends number = absurd ends
done-said kept (helped topic) (Ok (to_write text)) n ends number = absurd ends
done-said kept (helped topic) (Ok (to_help asked)) n ends number = number
done-said kept done (Err refusal) n ends number = absurd ends

pub rose-still : (old new : ℕ) → Rose old new → Still old new → ⊥
rose-still old new rose still = let more : old < new = rose still.open_ended in absurd (omega (arith, more, still.same))

-- where no count rose, no reading failed
source-still : (source : Source) (old new : List ℕ → ℕ) → AreStill (files_of source) old new → SourceFails source old new → ⊥
source-still (from_file name) old new still fails = rose-still _ _ fails still.0
source-still (from_seed seed count) old new still fails = fails

inputs-still : (rules : List ℕ) (source : Source) (told : List ℕ → Option (List ℕ)) (old new : List ℕ → ℕ) → Still (old rules) (new rules)
    → AreStill (files_of source) old new → InputsFail rules source told old new → ⊥
inputs-still rules source told old new stated read (inl rose) = rose-still _ _ rose stated
inputs-still rules source told old new stated read (inr failed) = source-still source old new read failed.0

given-still : (rules : Option (List ℕ)) (more : List (List ℕ)) (old new : List ℕ → ℕ) → AreStill (option_to_list rules ++ more) old new → (GivenFail rules old new → ⊥) × AreStill more old new
given-still None more old new still = (λ fails. absurd fails, still)
given-still (Some name) more old new still = (λ rose. rose-still _ _ rose still.0, still.1)

pub command-still : (command : Command) (told : List ℕ → Option (List ℕ)) (old new : List ℕ → ℕ) → AreStill (reads_of command) old new → ReadFails command told old new → ⊥
command-still (route names) told old new still fails = inputs-still names.rules names.design told old new still.0 still.1 fails
command-still (check names) told old new still (inl failed) = inputs-still names.rules (from_file names.design) told old new still.0 (still.1.0, tt) failed
command-still (check names) told old new still (inr rose) = rose-still _ _ rose.0 still.1.1.0
command-still (draw names) told old new still fails =
    let both = given-still names.rules (names.cif ∷ []) old new still in
    elim fails [ inl rules ↦ both.0 rules | inr rose ↦ rose-still _ _ rose.0 both.1.0 ]
command-still (import names) told old new still (inl rose) = rose-still _ _ rose still.0
command-still (import names) told old new still (inr rose) = rose-still _ _ rose.0 still.1.0
command-still (help topic) told old new still fails = absurd fails

-- of the file that is written, if one is: why writing it failed, and that it did not
pub fails-there : (file : Option (List ℕ)) (old new : List ℕ → ℕ) (sink_old sink_new : ℕ) → file ≢ None → ((name : List ℕ) → file ≡ Some name → Rose (old name) (new name))
    → WriteFails file old new sink_old sink_new
fails-there None old new sink_old sink_new some rose = absurd (some refl)
fails-there (Some name) old new sink_old sink_new some rose = inl (rose name refl)

pub sink-fails : (file : Option (List ℕ)) (old new : List ℕ → ℕ) (sink_old sink_new : ℕ) → Rose sink_old sink_new → WriteFails file old new sink_old sink_new
sink-fails None old new sink_old sink_new rose = rose
sink-fails (Some name) old new sink_old sink_new rose = inr rose

pub file-still : (file : Option (List ℕ)) (old new : List ℕ → ℕ) → IsStill file old new → file ≢ None → ((name : List ℕ) → file ≡ Some name → Rose (old name) (new name)) → ⊥
file-still None old new still some rose = some refl
file-still (Some name) old new still some rose = rose-still _ _ (rose name refl) still

-- the whole of a text is a front of it
front-of : (text held : List ℕ) → Some text ≡ Some held → (k : ℕ) × (held ≡ take k text)
front-of text held is = let same : text ≡ held = same_Some text held is in (length text, sym same ∙ sym (take_all (length text) text (omega arith)))

pub whole-front : (said : Result Accepted Refusal) (kept : List Routed) (before told : Option (List ℕ)) → Holds said kept told → HoldsFront said kept before told
whole-front (Ok (to_lay_out job)) kept before told holds = λ held at. inr (front-of (job_text job kept) held (holds held at))
whole-front (Ok (to_judge inputs layout markers)) kept before told holds =
    (holds.0, (holds.1.0, λ held at. inr (front-of (markers_text inputs.designs.drawn.design layout holds.0) held (holds.1.1 held at))))
whole-front (Ok (to_write text)) kept before told holds = λ held at. inr (front-of text held (holds held at))
whole-front (Ok (to_help topic)) kept before told holds = absurd holds
whole-front (Err refusal) kept before told holds = absurd holds

-- what holds of what is said, where anything is
pub if-said : (said : Option (Result Accepted Refusal)) (P : Result Accepted Refusal → Type 0)
    → ((s : Result Accepted Refusal) → said ≡ Some s → P s) → IfSome said P
if-said None P holds = tt
if-said (Some s) P holds = holds s refl
