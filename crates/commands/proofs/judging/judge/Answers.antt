use Rattle.std.proofs.Common.{Err, [], inl, inr, refl, arith, ◌≡◌, ◌≢◌, ◌↔◌, ◌∙◌, ℕ, List, Bool, true, false, Option, Some, None, Result, Ok, sym, ap, subst}
use Rattle.command_ends.proofs.FindsLaws.{told-stops, of-file, stops, told-goes-on}
use Rattle.command_ends.specs.declared.refusal.Refusal.TheVariants.{Memory}
use Rattle.command_ends.specs.declared.stop.Stop.TheVariants.{Refused, WriteFault}
use Rattle.command_inputs.proofs.OriginLaws.{read-passed, inputs-from, read-told}
use Rattle.command_inputs.proofs.ReadingLaws.{loads-after, read-also, read-refused, read-same}
use Rattle.command_inputs.specs.declared.stages.Inputs.{Inputs}
use Rattle.command_words.specs.Command.{CheckNames, check, from_file}
use Rattle.command_words.specs.Seen.{check_seen}
use Rattle.commands.specs.Accepted.{Accepted, to_judge}
use Rattle.commands.specs.Verdict.{command_verdict, judgement_verdict, labels_on}
use Rattle.commands.proofs.CarriedLaws.{stopped-early}
use Rattle.geom_core.specs.declared.layout.Layout.{Layout}
use Rattle.tech_rules.specs.Rules.{RuleValues}
use Rattle.layout_check.specs.declared.finding.Finding.{Finding}
use Rattle.command_ends.specs.Answers.{Finds}
use Rattle.command_ends.specs.Refusing.{◌>>=◌}
use Rattle.command_ends.specs.declared.refusal.Refusal.{Refusal}
use Rattle.command_ends.specs.declared.stop.Stop.{Stop}
use Rattle.command_inputs.proofs.LayoutLaws.{layout-labels, layout-reads}
use Rattle.command_inputs.specs.LayoutFile.{layout_verdict}
use Rattle.command_inputs.specs.Origin.{AreRead}
use Rattle.command_inputs.specs.Reading.{Files, Loads}
use Rattle.commands.specs.Carried.{Carried}
use Rattle.commands.specs.Changes.{AreMarked}
use Rattle.commands.specs.Done.{AreFound, Done, judged}
use Rattle.commands.specs.Ends.{Ends}
use Rattle.commands.specs.Outcome.{Holds, HoldsFront}
use Rattle.commands.specs.Headline.{HeadlineSo, ReadsSo, layout_so}
use Rattle.commands.proofs.HeadlineLaws.{good-of, headline-of, text-so}
use Rattle.commands.proofs.judging.judge.Goals as goal

-- what is said of a layout, by labels and areas or not, with a file for markers or none
abbrev shown-of : Bool → Inputs → Layout → Layout
shown-of labels inputs layout = layout_so labels inputs.rules inputs.designs.drawn.design layout

abbrev seen-as : CheckNames → Inputs → Layout → Accepted
seen-as names inputs layout = to_judge inputs (shown-of names.labels inputs layout) names.markers

-- a layout is the one as which its text reads
reads-so : (labels : Bool) (rules : RuleValues) (text : List ℕ) (layout : Layout) → layout_verdict (labels_on labels rules) text ≡ Ok layout → ReadsSo labels rules text layout
reads-so false rules text layout is = layout-reads text layout is
reads-so true rules text layout is = layout-labels rules.outline.layer text layout is

-- what is found of a layout for a command to check, where the rules and the design are read
layout-found : (names : CheckNames) (inputs : Inputs) (result : Result Layout Stop) {Fails : (List ℕ → ℕ) → (List ℕ → ℕ) → Type 0} (old new : Files) (said : Result Accepted Refusal)
    → AreRead names.rules (from_file names.design) names.ports old.holds inputs → Loads (λ (l : Layout). l) (layout_verdict (labels_on names.labels inputs.rules)) (λ told. told names.cif) Fails result old new
    → command_verdict (check names) old.holds ≡ Some said → Finds (seen-as names inputs) result said
unfolding command_verdict judgement_verdict
layout-found names inputs result old new said read loads is =
    told-goes-on (seen-as names inputs) result _ inputs _ said (λ s at. read-told names.rules (from_file names.design) names.ports old.holds inputs s read at)
    (of-file (seen-as names inputs) result (judgement_verdict names.labels inputs names.markers) _ (λ bytes told. by result (layout_verdict (labels_on names.labels inputs.rules) bytes) (loads.told bytes told))) is
  where
    by : (result : Result Layout Stop) (found : Result Layout Refusal) → Finds (λ (l : Layout). l) result found
        → Finds (seen-as names inputs) result (found >>= (λ l. Ok (seen-as names inputs l)))
    by (Ok layout) found is = ap (λ (read : Result Layout Refusal). read >>= (λ (l : Layout). Ok (seen-as names inputs l))) is
    by (Err stop) found is = stops (λ (l : Layout). l) (seen-as names inputs) stop found (λ (l : Layout). Ok (seen-as names inputs l)) is

-- what was done where a layout was judged, whose findings are written, if they are to be, or could not be
module _ (names : CheckNames) (inputs : Inputs) (layout : Layout) (findings : List Finding) {Fails : (List ℕ → ℕ) → (List ℕ → ℕ) → Type 0} (old mid new : Files)
    (read : AreRead names.rules (from_file names.design) names.ports old.holds inputs)
    (loads : Loads (λ (l : Layout). l) (layout_verdict (labels_on names.labels inputs.rules)) (λ told. told names.cif) Fails (Ok layout) old mid) (found : AreFound inputs (shown-of names.labels inputs layout) findings) where
  abbrev shown : Layout
  shown = shown-of names.labels inputs layout

  verdict : (said : Result Accepted Refusal) → command_verdict (check names) old.holds ≡ Some said → Ok (to_judge inputs shown names.markers) ≡ said
  verdict said says = sym (layout-found names inputs (Ok layout) old mid said read loads says)

  judged-so : AreMarked inputs shown findings names.markers (Ok (judged inputs shown findings)) old new → Carried (Some (check names)) (Ok (judged inputs shown findings)) [] old new
  judged-so marks = record {
    said = λ said says. record {
      ends = subst (λ (s : Result Accepted Refusal). Ends [] (Ok (judged inputs shown findings)) s) (verdict said says)
          (record { same_inputs = refl; same_layout = refl; found = found });
      written = λ name is zero. subst (λ (s : Result Accepted Refusal). Holds s [] (new.holds name)) (verdict said says) (findings, (found, marks.holds name is refl));
      front = λ name is nine. absurd (omega (arith, nine));
    };
    usage = λ two. absurd (omega (arith, two));
    no_command = λ none. absurd cc;
    changes = marks.changes;
    unkept = λ command same none. refl;
    laid = λ other same. absurd cc;
    marked = λ other file same some. let here : names ≡ other = cc in (found, marks.holds file (ap (λ (m : CheckNames). m.markers) here ∙ some) refl);
    cause = λ command same eight. absurd (omega (arith, eight));
    headline = λ other stated bytes held same states source zero told. absurd cc;
    edges = λ other stated bytes held same ports states source zero told. absurd cc;
    judges = λ other stated bytes text same states design cif.
        let here : names ≡ other = cc in
        let from = inputs-from names.rules (from_file names.design) names.ports old.holds inputs stated bytes read (ap (λ (m : CheckNames). old.holds m.rules) here ∙ states)
        (ap (λ (m : CheckNames). old.holds m.design) here ∙ design) in
        let reads = reads-so names.labels inputs.rules text layout (loads.told text (ap (λ (m : CheckNames). old.holds m.cif) here ∙ cif)) in
        subst (λ (m : CheckNames). (findings ≡ []) ↔ HeadlineSo m.labels m.ports stated bytes text) here (
          λ none. headline-of stated bytes text names.labels names.ports inputs from
              (text-so names.labels inputs.rules inputs.designs.drawn.design text layout reads (found.good.0 none)),
          λ headline. found.good.1 (good-of stated bytes text names.labels names.ports inputs from layout reads headline),
        );
    drawn = λ other text held same layout zero told. absurd cc;
    imported = λ other netlist cells held same first second zero told. absurd cc;
  }

  unmarked-so : names.markers ≢ None → AreMarked inputs shown findings names.markers (Err WriteFault) old new → Carried (Some (check names)) (Err WriteFault) [] old new
  unmarked-so some marks = record {
    said = λ said says. record {
      ends = subst (λ (s : Result Accepted Refusal). Ends [] (Err WriteFault) s) (verdict said says) some;
      written = λ name is zero. absurd (omega (arith, zero));
      front = λ name is nine.
          subst (λ (s : Result Accepted Refusal). HoldsFront s [] (old.holds name) (new.holds name)) (verdict said says) (findings, (found, marks.front name is refl));
    };
    usage = λ two. absurd (omega (arith, two));
    no_command = λ none. absurd cc;
    changes = marks.changes;
    unkept = λ command same none. refl;
    laid = λ other same. tt;
    marked = λ other file same some. tt;
    cause = λ command same eight. absurd (omega (arith, eight));
    headline = λ other stated bytes held same states source zero told. absurd (omega (arith, zero));
    edges = λ other stated bytes held same ports states source zero told. absurd (omega (arith, zero));
    judges = λ other stated bytes text same states design cif. tt;
    drawn = λ other text held same layout zero told. absurd cc;
    imported = λ other netlist cells held same first second zero told. absurd cc;
  }

  judged-for : (e : Result Done Stop) → AreMarked inputs shown findings names.markers e mid new → Carried (Some (check names)) e [] old new
  judged-for e after = elim marks.ends [
    | inl is ↦ subst (λ (o : Result Done Stop). Carried (Some (check names)) o [] old new) (sym is)
        (judged-so (subst (λ (o : Result Done Stop). AreMarked inputs shown findings names.markers o old new) is marks))
    | inr is ↦ subst (λ (o : Result Done Stop). Carried (Some (check names)) o [] old new) (sym is.0)
        (unmarked-so is.1 (subst (λ (o : Result Done Stop). AreMarked inputs shown findings names.markers o old new) is.0 marks))
  ]
    where
      marks : AreMarked inputs shown findings names.markers e old new
      marks = subst (λ (m : Files). AreMarked inputs shown findings names.markers e m new) (read-same old mid loads.read) after

pub returns-in_err-inputs : goal.returns-in_err-inputs
unfolding command_verdict
returns-in_err-inputs g c =
    stopped-early (λ (a : Accepted). a) _ c.in_err-inputs.field-0.0 c.from_residual.result [] _ _ c.from_residual.ensures.1
    (λ said says. told-stops (λ (i : Inputs). i) (λ (a : Accepted). a) c.in_err-inputs.field-0.0 _ _ said c.in_err-inputs.ensures.told says)
    (read-also (λ eight fails. inl fails) c.in_err-inputs.ensures.read) refl

pub returns-in_err-layout : goal.returns-in_err-layout
returns-in_err-layout g c =
    let names : CheckNames = check_seen c.args.names.now in
    let inputs : Inputs = c.in_ok-inputs.inputs in
    let stop = c.in_err-layout.field-0.0 in
    let loads = loads-after c.in_ok-inputs.ensures.read (rw c.labels_on-outline.ensures at c.in_err-layout.ensures.loads) in
    stopped-early (seen-as names inputs) (check names) stop c.from_residual-in_err-layout.result [] _ _ c.from_residual-in_err-layout.ensures.1
    (λ said says. layout-found names inputs (Err stop) _ _ said c.in_ok-inputs.ensures.are loads says)
    (read-also (λ eight rose. inr (rose, (inputs.rules, read-passed names.rules (from_file names.design) names.ports _ inputs c.in_ok-inputs.ensures.are))) loads.read) refl

pub returns-in-Ok : goal.returns-in-Ok
returns-in-Ok g c =
    let names : CheckNames = check_seen c.args.names.now in
    judged-for names c.in_ok-inputs.inputs c.in_ok-layout.layout c.in-Ok.judged.findings.items _ _ _ c.in_ok-inputs.ensures.are
    (loads-after c.in_ok-inputs.ensures.read (rw c.labels_on-outline.ensures at c.in_ok-layout.ensures.loads))
    (rw (c.in-Ok.ensures.inputs, c.in-Ok.ensures.layout) at c.in-Ok.ensures.found) _
    (rw (c.in-Ok.ensures.inputs, c.in-Ok.ensures.layout) at c.mark.ensures)

pub returns-in-Err : goal.returns-in-Err
returns-in-Err g c =
    let names : CheckNames = check_seen c.args.names.now in
    stopped-early (λ (a : Accepted). a) (check names) (Refused Memory) (Err (Refused Memory)) [] _ _ refl (λ said says. tt)
    (read-refused Memory (λ two. absurd (omega (arith, two)))
    (loads-after c.in_ok-inputs.ensures.read (rw c.labels_on-outline.ensures at c.in_ok-layout.ensures.loads)).read) refl
