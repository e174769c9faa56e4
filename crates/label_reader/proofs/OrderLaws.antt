use Rattle.std.proofs.Common.{◌≡◌, ap, sym, ◌∙◌, ℕ, suc, ◌-◌, ◌+◌, ◌<◌, List, [], Ok, arith}
use Rattle.std.proofs.lemmas.Option.{IfSome_then}
use Rattle.read_base.specs.Answers.{Fails}
use Rattle.read_base.specs.Steps.{◌>>=◌}
use Rattle.cif_text.specs.declared.command.CifCommand.{CifCommand}
use Rattle.cif_reader.specs.declared.fault.ExpandFault.{ExpandFault}
use Rattle.cif_reader.specs.Expanding.{told_of}
use Rattle.cif_reader.specs.Expansion.{Progress}
use Rattle.label_reader.specs.declared.definitions.DefinitionPlace.{DefinitionPlace}
use Rattle.label_reader.specs.Defining.{Reading, in_order, passed, passes}
use Rattle.label_reader.specs.Definitions.{definitions}

-- a pass more
next-pass : (k : ℕ) (cs : List CifCommand) (p : Progress) (ds : List DefinitionPlace) → k < 64
    → passes (64 - k) cs p ds ≡ (passed cs p [] ds >>= λ r. passes (64 - (k + 1)) cs r.0 r.1)
next-pass k cs p ds below = let one : 64 - k ≡ suc (64 - (k + 1)) = omega arith in ap (λ (n : ℕ). passes n cs p ds) one

pub pass-done : (k : ℕ) (cs : List CifCommand) (p q : Progress) (ds left : List DefinitionPlace) (said : Reading) → k < 64 → passes (64 - k) cs p ds ≡ said
    → passed cs p [] ds ≡ Ok (q, left) → passes (64 - (k + 1)) cs q left ≡ said
pass-done k cs p q ds left said below so is = sym (ap (λ g. g >>= λ r. passes (64 - (k + 1)) cs r.0 r.1) is) ∙ sym (next-pass k cs p ds below) ∙ so

pub pass-refused : (k : ℕ) (cs : List CifCommand) (p : Progress) (ds : List DefinitionPlace) (said : Reading) (fault : ExpandFault) → k < 64 → passes (64 - k) cs p ds ≡ said
    → Fails told_of fault (passed cs p [] ds) → Fails told_of fault said
pass-refused k cs p ds said fault below so fails =
    IfSome_then (told_of fault) fails (λ f is. sym so ∙ next-pass k cs p ds below ∙ ap (λ g. g >>= λ r. passes (64 - (k + 1)) cs r.0 r.1) is)

-- the first pass
pub pass-start : (cs : List CifCommand) (p : Progress) (ds : List DefinitionPlace) → ds ≡ definitions cs → passes 64 cs p ds ≡ in_order cs p
unfolding in_order
pass-start cs p ds is = ap (passes 64 cs p) is
