use Rattle.std.proofs.Common.{◌≡◌, ◌∙◌, ℕ, List, Option, Some, None, option_map, Result, Ok, Err, IsErrAnd, refl, sym, ap, subst}
use Rattle.std.proofs.lemmas.Option.{none-some, same_Some}
use Rattle.command_ends.specs.Answers.{Answers, Finds}
use Rattle.command_ends.specs.Refusing.{◌>>=◌, told_then}
use Rattle.command_ends.specs.declared.refusal.Refusal.{Refusal}
use Rattle.command_ends.specs.declared.refusal.Refusal.TheVariants as refusals
use Rattle.command_ends.specs.declared.stop.Stop.{Stop}
use Rattle.command_ends.specs.declared.stop.Stop.TheVariants.{Refused, ReadFault, WriteFault}

-- what stopped a part stops the whole that refuses what the part does
pub stops-so : {X Z A B : Type 0} (view : X → A) (seen : Z → B) (stop : Stop) (part : Result A Refusal) (whole : Result B Refusal)
    → ((refusal : Refusal) → part ≡ Err refusal → whole ≡ Err refusal) → Finds view (Err stop) part → Finds seen (Err stop) whole
stops-so view seen (Refused refusals.Memory) part whole refuses found = tt
stops-so view seen (Refused refusal) part whole refuses found = refuses refusal found
stops-so view seen ReadFault part whole refuses found = tt
stops-so view seen WriteFault part whole refuses found = found

-- what stopped the first part stops the whole
pub stops : {X Z A B : Type 0} (view : X → A) (seen : Z → B) (stop : Stop) (first : Result A Refusal) (next : A → Result B Refusal)
    → Finds view (Err stop) first → Finds seen (Err stop) (first >>= next)
stops view seen stop first next found = stops-so view seen stop first (first >>= next) (λ refusal is. ap (λ said. said >>= next) is) found

-- a refusal that is answered is found
pub found-refusal : {X A : Type 0} (view : X → A) (refusal : Refusal) (said : Result A Refusal)
    → Answers view (Err refusal) said → Finds view (Err (Refused refusal)) said
found-refusal view refusals.Memory said answer = tt
found-refusal view refusal said answer = answer

-- the same of an error that is handed on
pub handed-on : {X A : Type 0} (view : X → A) (result : Result X Stop) (stop : Stop) (said : Result A Refusal)
    → IsErrAnd result (λ other. other ≡ stop) → Finds view (Err stop) said → Finds view result said
handed-on view (Ok x) stop said is found = absurd is
handed-on view (Err other) stop said is found = subst (λ s. Finds view (Err s) said) (sym is) found

-- what is found of a file that is told
pub of-file : {X A : Type 0} (view : X → A) (result : Result X Stop) (point : List ℕ → Result A Refusal) (told : Option (List ℕ))
    → ((bytes : List ℕ) → told ≡ Some bytes → Finds view result (point bytes)) → (said : Result A Refusal) → option_map point told ≡ Some said
    → Finds view result said
of-file view result point None found said is = absurd (none-some said is)
of-file view result point (Some bytes) found said is = subst (Finds view result) (same_Some (point bytes) said is) (found bytes refl)

-- what is said of a file that is told
pub told-value : {A : Type 0} (point : List ℕ → Result A Refusal) (told : Option (List ℕ)) (value : Result A Refusal)
    → ((bytes : List ℕ) → told ≡ Some bytes → point bytes ≡ value) → (said : Result A Refusal) → option_map point told ≡ Some said → said ≡ value
told-value point None value gives said is = absurd (none-some said is)
told-value point (Some bytes) value gives said is = sym (same_Some (point bytes) said is) ∙ gives bytes refl

-- what stopped the first part of what is said of files stops the whole
pub told-stops : {X Z A B : Type 0} (view : X → A) (seen : Z → B) (stop : Stop) (first : Option (Result A Refusal)) (next : A → Option (Result B Refusal))
    (said : Result B Refusal) → ((s : Result A Refusal) → first ≡ Some s → Finds view (Err stop) s) → told_then first next ≡ Some said
    → Finds seen (Err stop) said
told-stops view seen stop None next said found is = absurd (none-some said is)
told-stops view seen stop (Some first) next said found is =
    stops-so view seen stop first said
    (λ refusal at. sym (same_Some (Err refusal) said (ap (λ f. told_then (Some f) next) (sym at) ∙ is))) (found first refl)

-- where the first part gives a value, the whole is what comes next
pub told-goes-on : {Z A B : Type 0} (seen : Z → B) (result : Result Z Stop) (first : Option (Result A Refusal)) (a : A) (next : A → Option (Result B Refusal))
    (said : Result B Refusal) → ((s : Result A Refusal) → first ≡ Some s → s ≡ Ok a) → ((s : Result B Refusal) → next a ≡ Some s → Finds seen result s)
    → told_then first next ≡ Some said → Finds seen result said
told-goes-on seen result None a next said gives found is = absurd (none-some said is)
told-goes-on seen result (Some first) a next said gives found is =
    found said (ap (λ f. told_then (Some f) next) (sym (gives first refl)) ∙ is)

-- so it is the value of the whole
pub told-next : {A B : Type 0} (first : Option (Result A Refusal)) (a : A) (next : A → Option (Result B Refusal)) (said : Result B Refusal)
    → ((s : Result A Refusal) → first ≡ Some s → s ≡ Ok a) → told_then first next ≡ Some said → next a ≡ Some said
told-next None a next said gives is = absurd (none-some said is)
told-next (Some first) a next said gives is = ap (λ f. told_then (Some f) next) (sym (gives first refl)) ∙ is

-- what is refused of contents that were read is refused of what is told
pub found-within : {X A B : Type 0} (view : X → A) (refusal : Refusal) (items lent : B) (first : Result B Refusal)
    (next : B → Result A Refusal) → first ≡ Ok items → lent ≡ items → Answers view (Err refusal) (next lent)
    → Finds view (Err (Refused refusal)) (first >>= next)
found-within view refusal items lent first next is same answer =
    subst (Finds view (Err (Refused refusal))) (ap next same ∙ ap (λ whole. whole >>= next) (sym is))
    (found-refusal view refusal (next lent) answer)
