use Rattle.std.proofs.Common.{◌≡◌, ◌∙◌, ◌≢◌, ℕ, List, Option, Some, Result, Ok, Err, IsErrAnd, refl, sym, ap, subst, arith}
use Rattle.std.proofs.lemmas.Option.{same_Some}
use Rattle.command_ends.proofs.FindsLaws.{found-refusal, found-within, handed-on, stops}
use Rattle.command_ends.proofs.StopLaws.{handed-status, refusal-unread, refusal-unwritten}
use Rattle.command_ends.specs.Answers.{Finds}
use Rattle.command_ends.specs.Refusing.{◌>>=◌}
use Rattle.command_ends.specs.Status.{ending_status, refusal_status, stop_status}
use Rattle.command_ends.specs.declared.refusal.Refusal.{Refusal}
use Rattle.command_ends.specs.declared.stop.Stop.{Stop}
use Rattle.command_ends.specs.declared.stop.Stop.TheVariants.{Refused}
use Rattle.command_inputs.specs.Reading.{Files, Loads, OnlyRead, Says, files, stopped_by}

-- where a reading ended well, what files tell is as before
pub read-same : {Fails : (List ℕ → ℕ) → (List ℕ → ℕ) → Type 0} (old new : Files) → OnlyRead 0 Fails old new → new ≡ old
read-same old new read =
    let quiet : new.reads ≡ old.reads = read.quiet (λ same. absurd (omega (arith, same))) in
    ap (λ holds. files holds new.reads new.writes) read.files ∙ ap (λ reads. files old.holds reads new.writes) quiet
    ∙ ap (λ writes. files old.holds old.reads writes) read.writes

-- reading failed so in the whole
pub read-also : {n : ℕ} {Fails Also : (List ℕ → ℕ) → (List ℕ → ℕ) → Type 0} {old new : Files} → (n ≡ 8 → Fails old.reads new.reads → Also old.reads new.reads)
    → OnlyRead n Fails old new → OnlyRead n Also old new
read-also also read = record {
  cause = λ eight. also eight (read.cause eight);
  quiet = read.quiet;
  unwritten = read.unwritten;
  command = read.command;
  files = read.files;
  writes = read.writes;
}

-- what stopped a reading is handed on
pub read-handed : {X : Type 0} {Fails : (List ℕ → ℕ) → (List ℕ → ℕ) → Type 0} {old new : Files} (result : Result X Stop) (stop : Stop)
    → IsErrAnd result (λ other. other ≡ stop) → OnlyRead (stop_status stop) Fails old new → OnlyRead (ending_status result) Fails old new
read-handed {Fails = Fails} {old = old} {new = new} result stop is read = subst (λ n. OnlyRead n Fails old new) (sym (handed-status result stop is)) read

-- nothing failed where no count changed
pub read-still : {Fails : (List ℕ → ℕ) → (List ℕ → ℕ) → Type 0} {old new : Files} (n : ℕ) → n ≢ 8 → n ≢ 9 → n ≢ 2 → new.reads ≡ old.reads → new.holds ≡ old.holds
    → new.writes ≡ old.writes → OnlyRead n Fails old new
read-still n unread unwritten command reads holds writes = record {
  cause = λ eight. absurd (unread eight);
  quiet = λ other. reads;
  unwritten = unwritten;
  command = command;
  files = holds;
  writes = writes;
}

-- so after a reading that ended well
pub read-refused : {Fails Also : (List ℕ → ℕ) → (List ℕ → ℕ) → Type 0} {old new : Files} (refusal : Refusal) → refusal_status refusal ≢ 2
    → OnlyRead 0 Fails old new → OnlyRead (refusal_status refusal) Also old new
read-refused refusal command read =
    read-still (refusal_status refusal) (refusal-unread refusal) (refusal-unwritten refusal) command (read.quiet (λ same. absurd (omega (arith, same)))) read.files read.writes

-- and what is read then is as if read at first
pub loads-after : {X Y : Type 0} {view : X → Y} {verdict : List ℕ → Result Y Refusal} {text : (List ℕ → Option (List ℕ)) → Option (List ℕ)}
    {First Fails : (List ℕ → ℕ) → (List ℕ → ℕ) → Type 0} {result : Result X Stop} {old mid new : Files} → OnlyRead 0 First old mid
    → Loads view verdict text Fails result mid new → Loads view verdict text Fails result old new
loads-after {view = view} {verdict = verdict} {text = text} {Fails = Fails} {result = result} {old = old} {mid = mid} {new = new} first loads =
    subst (λ (m : Files). Loads view verdict text Fails result m new) (read-same old mid first) loads

-- an answer of a text that is known, for which nothing is read
pub loads-made : {X Y : Type 0} (view : X → Y) (verdict : List ℕ → Result Y Refusal) {text : (List ℕ → Option (List ℕ)) → Option (List ℕ)}
    {Fails : (List ℕ → ℕ) → (List ℕ → ℕ) → Type 0} {old : Files} (bytes : List ℕ) (answer : Result X Refusal) → text old.holds ≡ Some bytes
    → Says view answer (verdict bytes) → Loads view verdict text Fails (stopped_by answer) old old
loads-made view verdict bytes (Ok x) is says = record {
  told = λ other told. ap verdict (same_Some other bytes (sym told ∙ is)) ∙ says.made;
  read = read-still 0 (λ same. absurd (omega (arith, same))) (λ same. absurd (omega (arith, same))) (λ same. absurd (omega (arith, same))) refl refl refl;
}
loads-made view verdict bytes (Err refusal) is says = record {
  told = λ other told.
      subst (λ (l : List ℕ). Finds view (Err (Refused refusal)) (verdict l)) (same_Some bytes other (sym is ∙ told)) (found-refusal view refusal _ says.made);
  read = read-still _ (refusal-unread refusal) (refusal-unwritten refusal) says.command refl refl refl;
}

-- of a text that is read, and then answered by what comes next
module _ {X Z A B : Type 0} (view : X → A) (seen : Z → B) (next : A → Result B Refusal) {verdict : List ℕ → Result A Refusal}
    {text : (List ℕ → Option (List ℕ)) → Option (List ℕ)} {Fails : (List ℕ → ℕ) → (List ℕ → ℕ) → Type 0} {old new : Files} where
  -- what stopped the reading stops the whole
  pub loads-stop : (stop : Stop) (result : Result Z Stop) → IsErrAnd result (λ other. other ≡ stop) → Loads view verdict text Fails (Err stop) old new
      → Loads seen (λ bytes. verdict bytes >>= next) text Fails result old new
  loads-stop stop result is loads = record {
    told = λ bytes told. handed-on seen result stop _ is (stops view seen stop _ next (loads.told bytes told));
    read = read-handed result stop is loads.read;
  }

  -- and the answer is that of the whole
  pub loads-on : (x : X) (lent : A) (answer : Result Z Refusal) → lent ≡ view x → Loads view verdict text Fails (Ok x) old new → Says seen answer (next lent)
      → Loads seen (λ bytes. verdict bytes >>= next) text Fails (stopped_by answer) old new
  loads-on x lent (Ok z) same loads says = record {
    told = λ bytes told. ap (λ whole. whole >>= next) (loads.told bytes told) ∙ ap next (sym same) ∙ says.made;
    read = loads.read;
  }
  loads-on x lent (Err refusal) same loads says = record {
    told = λ bytes told. found-within seen refusal (view x) lent (verdict bytes) next (loads.told bytes told) same says.made;
    read = read-refused refusal says.command loads.read;
  }
