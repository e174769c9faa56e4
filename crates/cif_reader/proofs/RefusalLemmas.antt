use Rattle.std.proofs.Common.{◌≡◌, refl, ap, ◌∙◌, Result, Ok, Err}
use Rattle.std.specs.Prelude.{IfOk, OnOk}
use Rattle.read_base.specs.Steps.{◌>>=◌}
use Rattle.cif_reader.specs.declared.fault.ExpandKind.{ExpandKind}
use Rattle.cif_reader.specs.declared.refusal.ExpandStop.{ExpandStop}
use Rattle.cif_reader.specs.Refusals.{Takes, kind_of}
use Rattle.read_base.specs.Answers.{Fails}
use Rattle.std.proofs.lemmas.Option.{IfSome_then}

-- a refusal of the first step refuses all
pub err-next : {Y Z : Type 0} (r : ExpandStop) (given : Result Y ExpandKind) (f : Y → Result Z ExpandKind) (other : Result Z ExpandKind)
    → other ≡ (given >>= f) → Fails kind_of r given → Fails kind_of r other
err-next r given f other same h = IfSome_then (kind_of r) h (λ kind is. same ∙ ap (λ g. g >>= f) is)

-- what holds of an answer, where more is known of it
pub ok-more : {X E : Type 0} (r : Result X E) (P Q : X → Type 0) → ((x : X) → P x → Q x) → IfOk r P → IfOk r Q
ok-more (Ok x) P Q more h = more x h
ok-more (Err e) P Q more h = tt

pub on-ok-more : {X E : Type 0} (r : Result X E) (P Q : Type 0) → (P → Q) → OnOk r P → OnOk r Q
on-ok-more (Ok x) P Q more h = more h
on-ok-more (Err e) P Q more h = tt

-- what is taken gives more
pub takes-next : {X Y Z : Type 0} (result : Result X ExpandStop) (given : Result Y ExpandKind) (f : Y → Z) (P : Y → Type 0) (Q : Z → Type 0)
    → ((y : Y) → given ≡ Ok y → P y → Q (f y)) → Takes result given P → Takes result (given >>= λ y. Ok (f y)) Q
takes-next (Ok x) (Ok y) f P Q more h = more y refl h
takes-next (Ok x) (Err kind) f P Q more h = absurd h
takes-next (Err refusal) given f P Q more h = err-next refusal given (λ y. Ok (f y)) _ refl h
