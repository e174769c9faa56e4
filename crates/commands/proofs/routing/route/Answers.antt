use Rattle.std.proofs.Common.{false, ◌∙◌, Ok, Err, refl, subst, sym, ◌≡◌, ◌<◌, ℕ, List, length, get_or, Option, Some, Bool, true, Result, slice_get, ap, arith}
use Rattle.command_ends.proofs.FindsLaws.{found-refusal, stops, told-stops, told-next}
use Rattle.command_ends.specs.Answers.{Finds}
use Rattle.command_ends.specs.declared.stop.Stop.TheVariants.{Refused}
use Rattle.command_inputs.proofs.ReadingLaws.{read-refused, read-same}
use Rattle.command_inputs.specs.declared.stages.Inputs.{Inputs}
use Rattle.command_jobs.specs.Job.{Job}
use Rattle.command_jobs.specs.PreparedView.{RoutedJob}
use Rattle.command_words.specs.Command.{Command, Names, route, style_of}
use Rattle.command_words.specs.Seen.{seen}
use Rattle.commands.specs.Accepted.{Accepted, to_lay_out}
use Rattle.commands.specs.Verdict.{command_verdict, job_verdict}
use Rattle.commands.proofs.CarriedLaws.{stopped-early}
use Rattle.std.proofs.lemmas.Option.{none-some, same_Some, slice_get-get_or}
use Rattle.choose_core.specs.declared.candidate.Candidate.{Candidate}
use Rattle.choose_core.specs.declared.plan.Plan.{Plan}
use Rattle.greedy_router.specs.Answers.{AreRouted}
use Rattle.greedy_router.specs.declared.sweep.Routed.{Routed}
use Rattle.command_ends.specs.Refusing.{◌>>=◌}
use Rattle.command_ends.specs.declared.refusal.Refusal.{Refusal}
use Rattle.command_ends.specs.declared.stop.Stop.{Stop}
use Rattle.command_inputs.proofs.OriginLaws.{inputs-from, read-told}
use Rattle.command_ends.specs.Status.{ending_status}
use Rattle.command_inputs.specs.Origin.{AreInputsFrom, AreRead, IsSourceText}
use Rattle.command_inputs.specs.Reading.{Files, OnlyRead}
use Rattle.command_inputs.specs.Stated.{inputs_told}
use Rattle.command_jobs.specs.Limits.{within_limits}
use Rattle.command_jobs.specs.Tries.{job_of}
use Rattle.command_jobs.specs.Text.{channels_of, job_text}
use Rattle.command_jobs.specs.Written.{IsPortedText}
use Rattle.command_words.specs.declared.command.Wanted.{Wanted}
use Rattle.commands.specs.Carried.{Carried}
use Rattle.commands.specs.Changes.{IsAsSaid, IsWritten}
use Rattle.commands.specs.Done.{Done}
use Rattle.commands.specs.Outcome.{IsRoutedSo}
use Rattle.commands.specs.Headline.{Headline}
use Rattle.commands.proofs.HeadlineLaws.{headline-of, ported-of}
use Rattle.commands.proofs.routing.route.Goals as goal

-- what is said of a command to route, where the rules and the design are read
job-said : (names : Names) (told : List ℕ → Option (List ℕ)) (inputs : Inputs) (said : Result Accepted Refusal) → AreRead names.rules names.design names.wanted.ports told inputs
    → command_verdict (route names) told ≡ Some said → said ≡ job_verdict names.wanted inputs
unfolding command_verdict
job-said names told inputs said read is =
    sym (same_Some (job_verdict names.wanted inputs) said
    (told-next (inputs_told names.rules names.design names.wanted.ports told) inputs (λ (i : Inputs). Some (job_verdict names.wanted i)) said
    (λ s at. read-told names.rules names.design names.wanted.ports told inputs s read at) is))

-- and where the job passes the limits
job-accepted : (wanted : Wanted) (inputs : Inputs) (job : Job) → within_limits (job_of inputs.rules inputs.designs wanted) ≡ Ok job
    → job_verdict wanted inputs ≡ Ok (to_lay_out job)
unfolding job_verdict
job-accepted wanted inputs job made = ap (λ (l : Result Job Refusal). l >>= (λ (j : Job). Ok (to_lay_out j))) made

-- what was done where its text was written, or could not be
written-for : (names : Names) (inputs : Inputs) (p : RoutedJob) (e : Result Done Stop) (kept : List Routed) {First : (List ℕ → ℕ) → (List ℕ → ℕ) → Type 0} (old mid new : Files)
    → AreRead names.rules names.design names.wanted.ports old.holds inputs → p.job ≡ job_of inputs.rules inputs.designs names.wanted
    → within_limits (job_of inputs.rules inputs.designs names.wanted) ≡ Ok p.job → OnlyRead 0 First old mid → IsWritten p.job p.kept names.out e kept mid new
    → Carried (Some (route names)) e kept old new
written-for names inputs p e kept old mid new read is made first after =
    let written = subst (λ (m : Files). IsWritten p.job p.kept names.out e kept m new) (read-same old mid first) after in
    record {
      said = λ said says.
          subst (λ (s : Result Accepted Refusal). IsAsSaid s (Some names.out) e kept old new)
          (sym (job-said names old.holds inputs said read says ∙ job-accepted names.wanted inputs p.job made)) written.said;
      usage = λ two. absurd (omega (arith, written.listed, two));
      no_command = λ none. absurd cc;
      changes = written.changes;
      unkept = λ command same none. absurd (none-some names.style (sym (ap (λ (k : Command). style_of k) (same_Some (route names) command same) ∙ none)));
      laid = λ other same. written.laid;
      marked = λ other file same some. absurd cc;
      cause = λ command same eight. absurd (omega (arith, written.listed, eight));
      headline = λ other stated bytes held same states source zero told.
          let here : names ≡ other = cc in
          let ported = held-text held zero (ap (λ (m : Names). new.holds m.out) here ∙ told) written in
          subst (λ (m : Names). Headline m.wanted.ports stated bytes held) here
          (headline-of stated bytes held false names.wanted.ports inputs
          (inputs-from names.rules names.design names.wanted.ports old.holds inputs stated bytes read (ap (λ (m : Names). old.holds m.rules) here ∙ states)
          (subst (λ (m : Names). IsSourceText m.design old.holds stated bytes) (sym here) source)) ported.is);
      edges = λ other stated bytes held same ports states source zero told.
          let here : names ≡ other = cc in
          let wished : names.wanted.ports ≡ true = ap (λ (m : Names). m.wanted.ports) here ∙ ports in
          let from = inputs-from names.rules names.design names.wanted.ports old.holds inputs stated bytes read (ap (λ (m : Names). old.holds m.rules) here ∙ states)
          (subst (λ (m : Names). IsSourceText m.design old.holds stated bytes) (sym here) source) in
          ported-of stated bytes held inputs (subst (λ (b : Bool). AreInputsFrom stated bytes b inputs) wished from)
          (held-text held zero (ap (λ (m : Names). new.holds m.out) here ∙ told) written);
      judges = λ other stated bytes text same states design cif. absurd cc;
      drawn = λ other text held same layout zero told. absurd cc;
      imported = λ other netlist cells held same first second zero told. absurd cc;
    }
  where
    -- what the file holds is a good text of the design that is drawn
    held-text : (held : List ℕ) → ending_status e ≡ 0 → new.holds names.out ≡ Some held → IsWritten p.job p.kept names.out e kept old new
        → IsPortedText inputs.rules inputs.designs.drawn held
    held-text held zero told written =
        let text : job_text p.job kept ≡ held = same_Some (job_text p.job kept) held (written.said.written names.out refl zero held told) in
        let routed : kept ≡ p.kept = written.routed_so in
        subst (λ (j : Job). IsPortedText j.rules j.drawn held) is
        (subst (IsPortedText p.job.rules p.job.drawn) (ap (job_text p.job) (sym routed) ∙ text) written.good)

-- routed so by the style that stands at its place
chosen-so : {C : Type 0} (styles : List C) (edge : Bool) (plan : C → Plan) (may : C → List Candidate → ℕ → Type 0) (place : ℕ) (chosen d : C) (said : Result Accepted Refusal) (kept : List Routed)
    → place < length styles → chosen ≡ get_or styles place d → IsRoutedSo edge (plan chosen) (may chosen) said kept → (at_place : ℕ) (style : C) → Some place ≡ Some at_place
    → slice_get styles at_place ≡ Some style → IsRoutedSo edge (plan style) (may style) said kept
chosen-so styles edge plan may place chosen d said kept within is routed at_place style placed at =
    let here : slice_get styles place ≡ Some style = ap (slice_get styles) (same_Some place at_place placed) ∙ at in
    let same : get_or styles place d ≡ style = same_Some (get_or styles place d) style (sym (slice_get-get_or styles place d within) ∙ here) in
    subst (λ s. IsRoutedSo edge (plan s) (may s) said kept) (is ∙ same) routed

-- of a job that is accepted, whose routed channels are kept
routed-so : (edge : Bool) (plan : Plan) (may : List Candidate → ℕ → Type 0) (said : Result Accepted Refusal) (job : Job) (kept items : List Routed) → said ≡ Ok (to_lay_out job) → items ≡ kept
    → AreRouted edge plan may (channels_of job) kept → IsRoutedSo edge plan may said items
routed-so edge plan may said job kept items accepted same routed =
    subst (λ (s : Result Accepted Refusal). IsRoutedSo edge plan may s items) (sym accepted)
    (subst (λ (k : List Routed). AreRouted edge plan may (channels_of job) k) (sym same) routed)

pub returns-in_err-inputs-clause-carried : goal.returns-in_err-inputs-clause-carried
unfolding command_verdict
returns-in_err-inputs-clause-carried g c =
    stopped-early (λ (a : Accepted). a) _ c.in_err-inputs.field-0.0 c.from_residual.result _ _ _ c.from_residual.ensures.1
    (λ said says. told-stops (λ (i : Inputs). i) (λ (a : Accepted). a) c.in_err-inputs.field-0.0 _ _ said c.in_err-inputs.ensures.told says)
    c.in_err-inputs.ensures.read c.requires.none

pub returns-in-Err-clause-carried : goal.returns-in-Err-clause-carried
unfolding job_verdict
returns-in-Err-clause-carried g c =
    let names : Names = seen c.args.names.now in
    stopped-early (λ (p : RoutedJob). to_lay_out p.job) (route names) (Refused c.in-Err.refusal) (Err (Refused c.in-Err.refusal)) _ _ _ refl
    (λ said says.
    subst (Finds {X = RoutedJob} (λ p. to_lay_out p.job) (Err (Refused c.in-Err.refusal)))
    (sym (job-said names _ c.in_ok-inputs.inputs said c.in_ok-inputs.ensures.are says))
    (stops (λ (p : RoutedJob). p.job) (λ (p : RoutedJob). to_lay_out p.job) (Refused c.in-Err.refusal) _ (λ (job : Job). Ok (to_lay_out job))
    (found-refusal (λ (p : RoutedJob). p.job) c.in-Err.refusal _ c.in-Err.ensures.made)))
    (read-refused c.in-Err.refusal c.in-Err.ensures.command c.in_ok-inputs.ensures.read) c.requires.none

pub returns-in-Ok-clause-carried : goal.returns-in-Ok-clause-carried
returns-in-Ok-clause-carried g c =
    let names : Names = seen c.args.names.now in
    written-for names c.in_ok-inputs.inputs c.in-Ok.prepared _ _ _ _ _ c.in_ok-inputs.ensures.are c.in-Ok.ensures.is c.in-Ok.ensures.made c.in_ok-inputs.ensures.read
    c.write_prepared.ensures.written

pub returns-in-Ok-clause-kept : goal.returns-in-Ok-clause-kept
returns-in-Ok-clause-kept g c = λ said says begun.
    let names : Names = seen c.args.names.now in
    record {
      by_style =
          chosen-so c.args.styles.now _ _ _ names.style c.index-styles-names.result _ said _ c.requires.style c.index-styles-names.is
          (routed-so _ _ _ said c.in-Ok.prepared.job c.in-Ok.prepared.kept _
          (job-said names _ c.in_ok-inputs.inputs said c.in_ok-inputs.ensures.are says ∙ job-accepted names.wanted c.in_ok-inputs.inputs _ c.in-Ok.ensures.made)
          c.write_prepared.ensures.written.routed_so c.in-Ok.ensures.kept);
    }

pub returns-in-Ok-clause-goes : goal.returns-in-Ok-clause-goes
returns-in-Ok-clause-goes g c = g.met.W.Watch.goes_then _ _ _ c.in-Ok.ensures.goes c.write_prepared.ensures.goes

pub returns-in_err-inputs-clause-goes : goal.returns-in_err-inputs-clause-goes
returns-in_err-inputs-clause-goes g c = g.met.W.Watch.goes_here _
