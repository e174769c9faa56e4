use Rattle.std.proofs.Common.{◌≡◌, ◌≢◌, ◌⊎◌, ◌∙◌, ◌≤◌, ◌<◌, ◌++◌, ℕ, List, [], ◌∷◌, Option, Some, None, Result, Ok, Err, IfOk, true, take, append_assoc, inl, inr, refl, sym, ap, subst, arith}
use Rattle.std.proofs.lemmas.Option.{none-some, same_Some}
use Rattle.shelf_io.specs.Count.{Rose, Still}
use Rattle.shelf_io.specs.Told.{EndsWithin}
use Rattle.greedy_router.specs.declared.sweep.Routed.{Routed}
use Rattle.command_ends.proofs.StopLaws.{refusal-unwritten, stop-above, stop-listed}
use Rattle.command_ends.specs.Gains.{Gains}
use Rattle.command_ends.specs.Line.{line_of}
use Rattle.command_ends.specs.Status.{ending_status, is_status, stop_status}
use Rattle.command_ends.specs.declared.refusal.Refusal.{Refusal}
use Rattle.command_ends.specs.declared.stop.Stop.{Stop}
use Rattle.command_ends.specs.declared.stop.Stop.TheVariants.{Refused, ReadFault, WriteFault}
use Rattle.commands.specs.Accepted.{Accepted}
use Rattle.commands.specs.Carried.{IsJudgedBy}
use Rattle.commands.specs.Changes.{HasBegun, HasLaidOut, IsLaidOut, IsMarkedIn}
use Rattle.commands.specs.Done.{Done, IsStatusOf, done_status, helped, judged, laid_out, wrote}
use Rattle.commands.specs.Ends.{Ends}
use Rattle.commands.specs.Outcome.{GainsFronts, IsMarked, Tells}
use Rattle.commands.proofs.Endings.{done-said, judged-number, rose-still, stop-said}

-- a count that rose has risen still
pub rose-on : (old mid new : ℕ) → Rose old mid → mid ≤ new → Rose old new
rose-on old mid new rose later = λ apart. let more : old < mid = rose apart in omega (arith, more, later)

-- a front of a text, and then a front of another
pub fronts-both : (before mid after : Option (List ℕ)) (first second : List ℕ) → EndsWithin before first mid → EndsWithin mid second after
    → GainsFronts first second before after
fronts-both before None after first second one two = λ held at. let found = two held at in absurd (none-some held found.1)
fronts-both None (Some m) after first second one two = λ held at. absurd (none-some m (one m refl).1)
fronts-both (Some b) (Some m) after first second one two = λ held at.
    let k = two held at in
    let j = one m refl in
    let start : b ++ take j.0 first ≡ m = same_Some (b ++ take j.0 first) m j.1 in
    let whole : m ++ take k.0 second ≡ held = same_Some (m ++ take k.0 second) held k.1 in (
      j.0,
      k.0,
      ap (λ (l : List ℕ). Some l) (sym (append_assoc b (take j.0 first) (take k.0 second)) ∙ ap (λ (l : List ℕ). l ++ take k.0 second) start ∙ whole),
    )

-- the status of what was done is 0 or 1
done-few : (done : Done) → done_status done ≤ 1
done-few (laid_out summary) = omega arith
done-few (judged inputs layout []) = omega arith
done-few (judged inputs layout (f ∷ fs)) = omega arith
done-few wrote = omega arith
done-few (helped topic) = omega arith

done-listed : (done : Done) → is_status (done_status done) ≡ true
done-listed (laid_out summary) = refl
done-listed (judged inputs layout []) = refl
done-listed (judged inputs layout (f ∷ fs)) = refl
done-listed wrote = refl
done-listed (helped topic) = refl

-- of what stops a command, a write fault alone has status 9 and has begun a file
stop-laid : (stop : Stop) → HasLaidOut (Err stop) → stop_status stop ≡ 9
stop-laid (Refused refusal) laid = absurd laid
stop-laid ReadFault laid = absurd laid
stop-laid WriteFault laid = refl

pub stop-begun : (stop : Stop) (file : Option (List ℕ)) → HasBegun (Err stop) file → stop_status stop ≡ 9
stop-begun (Refused refusal) file begun = absurd begun
stop-begun ReadFault file begun = absurd begun
stop-begun WriteFault file begun = refl

nine-laid : (e : Result Done Stop) → ending_status e ≡ 9 → HasLaidOut e
nine-laid (Ok done) nine = absurd (omega (arith, nine))
nine-laid (Err (Refused refusal)) nine = absurd (refusal-unwritten refusal nine)
nine-laid (Err ReadFault) nine = absurd (omega (arith, nine))
nine-laid (Err WriteFault) nine = tt

pub nine-begun : (e : Result Done Stop) (file : Option (List ℕ)) → ending_status e ≡ 9 → HasBegun e file
nine-begun (Ok done) file nine = absurd (omega (arith, nine))
nine-begun (Err (Refused refusal)) file nine = absurd (refusal-unwritten refusal nine)
nine-begun (Err ReadFault) file nine = absurd (omega (arith, nine))
nine-begun (Err WriteFault) file nine = tt

-- a status is that of the end, but 9 where printing what was done failed, and 1 where a layout is not good
abbrev pub IsTold : ℕ → ℕ → Type 0
IsTold n status = ((2 ≤ status) × (n ≡ status)) ⊎ ((status ≡ 0) × ((n ≤ 1) ⊎ (n ≡ 9)))

-- where to route is to lay out, one that ended well, or could not write, has laid out
done-laid : (done : Done) → IsLaidOut done → HasLaidOut (Ok done)
done-laid (laid_out summary) laid = tt
done-laid (judged inputs layout findings) laid = absurd laid
done-laid wrote laid = absurd laid
done-laid (helped topic) laid = absurd laid

pub told-laid : (e : Result Done Stop) (n : ℕ) → IsTold n (ending_status e) → IfOk e IsLaidOut → (n ≡ 0) ⊎ (n ≡ 9) → HasLaidOut e
told-laid (Ok done) n told laid few = done-laid done laid
told-laid (Err stop) n told laid few = nine-laid (Err stop) (omega (arith, stop-above stop, told, few))

-- what the status and the lines of a command tell of its end
module _ (n : ℕ) (before after : Option (List ℕ)) (old new : ℕ) where
  pub tells-number : (e : Result Done Stop) → Tells e n before after old new → IsTold n (ending_status e)
  tells-number (Ok done) tells = inr (refl, elim tells [ inl printed ↦ inl (omega (arith, done-few done, printed.number)) | inr cut ↦ inr cut.number ])
  tells-number (Err stop) tells = inl (stop-above stop, tells.number)

  pub tells-listed : (e : Result Done Stop) → Tells e n before after old new → is_status n ≡ true
  tells-listed (Ok done) tells = elim tells [ inl printed ↦ ap is_status printed.number ∙ done-listed done | inr cut ↦ ap is_status cut.number ]
  tells-listed (Err stop) tells = ap is_status tells.number ∙ stop-listed stop

  pub tells-rose : (e : Result Done Stop) → Tells e n before after old new → n ≡ 9 → ending_status e ≡ 0 → Rose old new
  tells-rose (Ok done) tells nine zero = elim tells [
    | inl printed ↦ absurd (omega (arith, done-few done, printed.number, nine))
    | inr cut ↦ cut.rose
  ]
  tells-rose (Err stop) tells nine zero = absurd (omega (arith, stop-above stop, zero))

  pub tells-calm : (e : Result Done Stop) → Tells e n before after old new → n ≤ 1 → new ≡ old
  tells-calm (Ok done) tells few = elim tells [ inl printed ↦ printed.calm | inr cut ↦ absurd (omega (arith, cut.number, few)) ]
  tells-calm (Err stop) tells few = absurd (omega (arith, stop-above stop, tells.number, few))

  pub tells-laid : (e : Result Done Stop) → Tells e n before after old new → HasLaidOut e → (n ≡ 0) ⊎ (n ≡ 9)
  tells-laid (Ok (laid_out summary)) tells laid = elim tells [ inl printed ↦ inl printed.number | inr cut ↦ inr cut.number ]
  tells-laid (Ok (judged inputs layout findings)) tells laid = absurd laid
  tells-laid (Ok wrote) tells laid = absurd laid
  tells-laid (Ok (helped topic)) tells laid = absurd laid
  tells-laid (Err stop) tells laid = inr (tells.number ∙ stop-laid stop laid)

  -- to route never ends as a layout does that is not good
  pub tells-unjudged : (e : Result Done Stop) → Tells e n before after old new → IfOk e IsLaidOut → n ≢ 1
  tells-unjudged (Ok (laid_out summary)) tells laid = λ one. elim tells [ inl printed ↦ absurd (omega (arith, printed.number, one)) | inr cut ↦ absurd (omega (arith, cut.number, one)) ]
  tells-unjudged (Ok (judged inputs layout findings)) tells laid = absurd laid
  tells-unjudged (Ok wrote) tells laid = absurd laid
  tells-unjudged (Ok (helped topic)) tells laid = absurd laid
  tells-unjudged (Err stop) tells laid = λ one. absurd (omega (arith, stop-above stop, tells.number, one))

  pub tells-begun : (e : Result Done Stop) (file : Option (List ℕ)) → Tells e n before after old new → HasBegun e file → (n ≤ 1) ⊎ (n ≡ 9)
  tells-begun (Ok done) file tells begun = elim tells [ inl printed ↦ inl (omega (arith, done-few done, printed.number)) | inr cut ↦ inr cut.number ]
  tells-begun (Err stop) file tells begun = inr (tells.number ∙ stop-begun stop file begun)

  -- of a layout whose report database a file holds just that is printed
  pub tells-marked : (e : Result Done Stop) (told : Option (List ℕ)) → Tells e n before after old new → n ≤ 1 → IfOk e (IsMarkedIn told) → IsMarked told before after
  tells-marked (Ok (laid_out summary)) told tells few marked = absurd marked
  tells-marked (Ok (judged inputs layout findings)) told tells few marked = elim tells [
    | inl printed ↦ record { inputs = inputs; layout = layout; findings = findings; found = marked.0; holds = marked.1; printed = printed.whole }
    | inr cut ↦ absurd (omega (arith, cut.number, few))
  ]
  tells-marked (Ok wrote) told tells few marked = absurd marked
  tells-marked (Ok (helped topic)) told tells few marked = absurd marked
  tells-marked (Err stop) told tells few marked = absurd (omega (arith, stop-above stop, tells.number, few))

  -- a layout that was judged has status 0 only where this holds, and status 1 only where it does not
  pub tells-judged : (e : Result Done Stop) (good : Type 0) → Tells e n before after old new → IfOk e (IsJudgedBy good) → (n ≡ 0 → good) × (n ≡ 1 → good → ⊥)
  tells-judged (Ok (laid_out summary)) good tells is = absurd is
  tells-judged (Ok wrote) good tells is = absurd is
  tells-judged (Ok (helped topic)) good tells is = absurd is
  tells-judged (Ok (judged inputs layout findings)) good tells is = elim tells [
    | inl printed ↦ elim (judged-number findings good n is printed.number) [
      | inl none ↦ (λ zero. none.1, λ one. absurd (omega (arith, one, none.0)))
      | inr some ↦ (λ zero. absurd (omega (arith, zero, some.0)), λ one. some.1)
    ]
    | inr cut ↦ (λ zero. absurd (omega (arith, cut.number, zero)), λ one. absurd (omega (arith, cut.number, one)))
  ]
  tells-judged (Err stop) good tells is =
      (λ zero. absurd (omega (arith, stop-above stop, tells.number, zero)), λ one. absurd (omega (arith, stop-above stop, tells.number, one)))

  -- where nothing failed the status is that of what is said, or memory ran out
  pub tells-said : (e : Result Done Stop) (kept : List Routed) (said : Result Accepted Refusal) → Tells e n before after old new → Ends kept e said → Still old new
      → ending_status e ≢ 8 → ending_status e ≢ 9 → IsStatusOf said n ⊎ (n ≡ 10)
  tells-said (Ok done) kept said tells ends still unread unwritten = inl (elim tells [
    | inl printed ↦ done-said kept done said n ends printed.number
    | inr cut ↦ absurd (rose-still _ _ cut.rose still)
  ])
  tells-said (Err stop) kept said tells ends still unread unwritten =
      subst (λ (m : ℕ). IsStatusOf said m ⊎ (m ≡ 10)) (sym tells.number) (stop-said kept stop said ends unread unwritten)

  -- where the count of a file rose that rises only with status 9, the line is that of a write fault
  pub tells-fault : (e : Result Done Stop) (was is : ℕ) → Tells e n before after old new → (ending_status e ≢ 9 → is ≡ was) → was < is
      → Gains (line_of WriteFault) before after old new
  tells-fault (Err WriteFault) was is tells still rose = tells.line
  tells-fault (Err ReadFault) was is tells still rose = let same : is ≡ was = still (λ (e : 8 ≡ 9). absurd (omega (arith, e))) in absurd (omega (arith, same, rose))
  tells-fault (Err (Refused refusal)) was is tells still rose = let same : is ≡ was = still (refusal-unwritten refusal) in absurd (omega (arith, same, rose))
  tells-fault (Ok done) was is tells still rose = let same : is ≡ was = still (λ (e : 0 ≡ 9). absurd (omega (arith, e))) in absurd (omega (arith, same, rose))
