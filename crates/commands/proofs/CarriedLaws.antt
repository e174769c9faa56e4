use Rattle.std.proofs.Common.{◌≡◌, ◌≢◌, ◌⊎◌, ◌∙◌, ℕ, List, [], Option, Some, None, option_and_then, Result, Ok, Err, IfOk, IsErrAnd, refl, sym, ap, subst, arith}
use Rattle.std.proofs.lemmas.Option.{same_Some}
use Rattle.greedy_router.specs.declared.sweep.Routed.{Routed}
use Rattle.shelf_io.specs.Count.{Rose}
use Rattle.command_ends.proofs.StopLaws.{stop-above}
use Rattle.command_ends.specs.Answers.{Finds}
use Rattle.command_ends.specs.Status.{ending_status, stop_status}
use Rattle.command_ends.specs.declared.refusal.Refusal.{Refusal}
use Rattle.command_ends.specs.declared.stop.Stop.{Stop}
use Rattle.command_inputs.specs.Reading.{Files, OnlyRead}
use Rattle.command_words.specs.declared.topic.Topic.{Topic}
use Rattle.command_words.specs.Command.{Command, Names, check, command_of, draw, help, import, route, writes_of}
use Rattle.commands.specs.Accepted.{Accepted, to_help}
use Rattle.commands.specs.Carried.{Carried}
use Rattle.commands.specs.Causes.{ReadFails}
use Rattle.commands.specs.Changes.{Changes, HasBegun, HasLaidOut, IsAsSaid, IsLaidOut}
use Rattle.commands.specs.Done.{Done, end_seen, helped}
use Rattle.commands.specs.Ends.{Ends}
use Rattle.commands.specs.Outcome.{AreKept}
use Rattle.choose_core.specs.declared.candidate.Candidate.{Candidate}
use Rattle.choose_core.specs.declared.plan.Plan.{Plan}
use Rattle.commands.specs.Verdict.{Comes, asked_verdict, command_verdict}
use Rattle.commands.specs.declared.done.Done as seen
use Rattle.commands.proofs.Endings.{stopped}
use Rattle.commands.proofs.Tellings.{IsTold, stop-begun, told-laid}

-- where no file was begun, nothing is changed
pub unchanged : (file : Option (List ℕ)) (ending : Result Done Stop) (kept : List Routed) (old new : Files) → (HasBegun ending file → ⊥)
    → ending_status ending ≢ 9 → kept ≡ [] → new.holds ≡ old.holds → new.writes ≡ old.writes
    → (ending_status ending ≢ 8 → new.reads ≡ old.reads) → Changes file ending kept old new
unchanged file ending kept old new not_begun unwritten empty holds writes quiet = record {
  begun = λ begun. absurd (not_begun begun);
  none = λ none. empty;
  untouched = λ none. holds;
  others = λ other apart. ap (λ (told : List ℕ → Option (List ℕ)). told other) holds;
  cause = λ nine. absurd (unwritten nine);
  same_writes = λ other. writes;
  same_reads = quiet;
}

-- where one was begun, no other is changed
pub begun-changes : (file : List ℕ) (ending : Result Done Stop) (kept : List Routed) (old new : Files) → HasBegun ending (Some file)
    → ((HasLaidOut ending → ⊥) → kept ≡ []) → ((other : List ℕ) → other ≢ file → new.holds other ≡ old.holds other)
    → (ending_status ending ≡ 9 → Rose (old.writes file) (new.writes file)) → (ending_status ending ≢ 9 → new.writes ≡ old.writes) → new.reads ≡ old.reads
    → Changes (Some file) ending kept old new
begun-changes file ending kept old new begun empty others cause writes reads = record {
  begun = λ here none. cc;
  none = empty;
  untouched = λ not_begun. absurd (not_begun begun);
  others = λ other apart. others other (λ same. apart (ap (λ (l : List ℕ). Some l) (sym same)));
  cause = λ nine name is. subst (λ (l : List ℕ). Rose (old.writes l) (new.writes l)) (same_Some file name is) (cause nine);
  same_writes = writes;
  same_reads = λ other. reads;
}

-- what was done where it was stopped before it wrote
pub stopped-so : (asked : Option Command) (stop : Stop) (kept : List Routed) (old new : Files)
    → ((said : Result Accepted Refusal) → asked_verdict asked old.holds ≡ Some said → Ends kept (Err stop) said) → (stop_status stop ≡ 2 → asked ≡ None)
    → (asked ≡ None → (stop_status stop ≡ 2) ⊎ (stop_status stop ≡ 10)) → stop_status stop ≢ 9 → kept ≡ [] → new.holds ≡ old.holds → new.writes ≡ old.writes
    → (stop_status stop ≢ 8 → new.reads ≡ old.reads)
    → ((command : Command) → asked ≡ Some command → stop_status stop ≡ 8 → ReadFails command old.holds old.reads new.reads)
    → Carried asked (Err stop) kept old new
stopped-so asked stop kept old new ends usage none unwritten empty holds writes quiet cause = record {
  said = λ said says. record {
    ends = ends said says;
    written = λ name is zero. absurd (omega (arith, stop-above stop, zero));
    front = λ name is nine. absurd (unwritten nine);
  };
  usage = usage;
  no_command = none;
  changes = unchanged _ (Err stop) kept old new (λ begun. unwritten (stop-begun stop _ begun)) unwritten empty holds writes quiet;
  unkept = λ command is none. empty;
  laid = λ names is. tt;
  marked = λ names file is some. tt;
  cause = cause;
  headline = λ names stated bytes held is states source zero told. absurd (omega (arith, stop-above stop, zero));
  edges = λ names stated bytes held is ports states source zero told. absurd (omega (arith, stop-above stop, zero));
  judges = λ names stated bytes text is states design cif. tt;
  drawn = λ names text held is layout zero told. absurd (omega (arith, stop-above stop, zero));
  imported = λ names netlist cells held is first second zero told. absurd (omega (arith, stop-above stop, zero));
}

-- so where reading for a command was stopped, and that was handed on
handed-end : (result : Result seen.Done Stop) (stop : Stop) → IsErrAnd result (λ other. other ≡ stop) → end_seen result ≡ Err stop
handed-end (Ok done) stop is = absurd is
handed-end (Err other) stop is = ap (λ (s : Stop). Err s) is

pub stopped-early : {X : Type 0} (view : X → Accepted) (command : Command) (stop : Stop) (result : Result seen.Done Stop) (kept : List Routed) (old new : Files)
    → IsErrAnd result (λ other. other ≡ stop) → ((said : Result Accepted Refusal) → command_verdict command old.holds ≡ Some said → Finds view (Err stop) said)
    → OnlyRead (stop_status stop) (ReadFails command old.holds) old new → kept ≡ [] → Carried (Some command) (end_seen result) kept old new
stopped-early view command stop result kept old new is found read empty =
    subst (λ (e : Result Done Stop). Carried (Some command) e kept old new) (sym (handed-end result stop is))
    (stopped-so (Some command) stop kept old new (λ said says. stopped view kept stop said (found said says)) (λ two. absurd (read.command two)) (λ none. cc)
    read.unwritten empty read.files read.writes read.quiet
    (λ other same eight. subst (λ (k : Command). ReadFails k old.holds old.reads new.reads) (same_Some command other same) (read.cause eight)))

-- what was done where a text of help is asked for
pub helped-for : (topic : Topic) (kept : List Routed) (files : Files) → kept ≡ [] → Carried (Some (help topic)) (Ok (helped topic)) kept files files
unfolding command_verdict
helped-for topic kept files empty = record {
  said = λ said says. record {
    ends = subst (λ (s : Result Accepted Refusal). Ends kept (Ok (helped topic)) s) (same_Some (Ok (to_help topic)) said says) refl;
    written = λ name is zero. absurd cc;
    front = λ name is nine. absurd cc;
  };
  usage = λ two. absurd (omega (arith, two));
  no_command = λ none. absurd cc;
  changes = unchanged None (Ok (helped topic)) kept files files (λ begun. begun) (λ nine. absurd (omega (arith, nine))) empty refl refl (λ other. refl);
  unkept = λ command same none. empty;
  laid = λ names same. absurd cc;
  marked = λ names file same some. absurd cc;
  cause = λ command same eight. absurd (omega (arith, eight));
  headline = λ names stated bytes held same states source zero told. absurd cc;
  edges = λ names stated bytes held same ports states source zero told. absurd cc;
  judges = λ names stated bytes text same states design cif. absurd cc;
  drawn = λ names text held same layout zero told. absurd cc;
  imported = λ names netlist cells held same first second zero told. absurd cc;
}

-- what was done for the command that words give
pub said-of : {styles words : List (List ℕ)} {e : Result Done Stop} {kept : List Routed} {old new : Files} {command : Command} {said : Result Accepted Refusal}
    → Carried (command_of styles words) e kept old new → Comes styles words old.holds command said → IsAsSaid said (writes_of command) e kept old new
said-of {e = e} {kept = kept} {old = old} {new = new} {said = said} carried comes =
    subst (λ (file : Option (List ℕ)). IsAsSaid said file e kept old new) (ap (option_and_then writes_of) comes.asked)
    (carried.said said (ap (λ (asked : Option Command). asked_verdict asked old.holds) comes.asked ∙ comes.says))

pub changes-of : {asked : Option Command} {e : Result Done Stop} {kept : List Routed} {old new : Files} {command : Command}
    → Carried asked e kept old new → asked ≡ Some command → Changes (writes_of command) e kept old new
changes-of {e = e} {kept = kept} {old = old} {new = new} carried is =
    subst (λ (file : Option (List ℕ)). Changes file e kept old new) (ap (option_and_then writes_of) is) carried.changes

-- a command to route that ended well, or could not write, keeps what it laid out; any other has no style
pub kept-there : {C : Type 0} (styles : List C) (plan : C → Plan) (may : C → List Candidate → ℕ → Type 0) (command : Command) (said : Result Accepted Refusal) (kept : List Routed)
    (e : Result Done Stop) (n : ℕ) {asked : Option Command} → ((names : Names) → asked ≡ Some (route names) → IfOk e IsLaidOut) → asked ≡ Some command → IsTold n (ending_status e)
    → (n ≡ 0) ⊎ (n ≡ 9) → (HasLaidOut e → AreKept styles plan may command said kept) → AreKept styles plan may command said kept
kept-there styles plan may (route names) said kept e n laid is told few keeps = keeps (told-laid e n told (laid names is) few)
kept-there styles plan may (check names) said kept e n laid is told few keeps = record { by_style = λ place style at. absurd cc }
kept-there styles plan may (draw names) said kept e n laid is told few keeps = record { by_style = λ place style at. absurd cc }
kept-there styles plan may (import names) said kept e n laid is told few keeps = record { by_style = λ place style at. absurd cc }
kept-there styles plan may (help topic) said kept e n laid is told few keeps = record { by_style = λ place style at. absurd cc }
