use Rattle.cif_text.specs.declared.command.CifCommand.TheVariants as commands
use Rattle.std.proofs.Common.{◌≡◌, refl, ◌∙◌, subst, ℕ, zero, suc, List, [], ◌∷◌, ◌++◌, Bool, true, false, Option, Some, None, Ok}
use Rattle.std.specs.Prelude.{◌+◌, if◌then◌else◌, is_some, slice_get}
use Rattle.read_base.specs.Steps.{◌>>=◌}
use Rattle.cif_text.specs.declared.command.CifCommand.{CifCommand}
use Rattle.cif_text.specs.Symbols.{Symbol, Definition, State, symbol_of}
use Rattle.cif_text.specs.Meaning.{definition_behind, finished, opened, started, step, step_in, with_inside}
use Rattle.cif_text.proofs.BodyLaws.{given}
use Rattle.cif_reader.specs.Expansion.{Progress, advance, refused_at}
use Rattle.cif_reader.proofs.WithinLaws.{advance-step, refused-ok}
use Rattle.label_reader.specs.declared.definitions.DefinitionPlace.{DefinitionPlace}
use Rattle.label_reader.specs.Definitions.{body}
use Rattle.label_reader.specs.Defining.{stays, taken, all_taken, defined, defined_by, all_defined, is_ready, passed, passes}

-- a state that has the shapes and the cells of the main level of another
pub record Keeps (s t : State) : Type 0 where
  pub shapes : t.main.level.shapes ≡ s.main.level.shapes
  pub cells : t.main.cells ≡ s.main.cells

pub keeps-self : (s : State) → Keeps s s
keeps-self s = record { shapes = refl; cells = refl }

pub keeps-then : (s t u : State) → Keeps s t → Keeps t u → Keeps s u
keeps-then s t u first second = record { shapes = second.shapes ∙ first.shapes; cells = second.cells ∙ first.cells }

-- a definition is open, and the main level as it was
pub record KeepsOpen (s t : State) : Type 0 where
  pub keeps : Keeps s t
  pub inside : is_some t.inside ≡ true

-- a command inside a definition leaves the main level as it is
in-keeps : (s t : State) (d : Definition) (c : CifCommand) → step_in s (Some d) c ≡ Ok t → Keeps s t
in-keeps s t d commands.Finish is = let whole : finished s d ≡ t = cc is in subst (Keeps s) whole (record { shapes = refl; cells = refl })
in-keeps s t d c is =
    let further = given (definition_behind s.symbols d c) (λ e. Ok (with_inside s e)) t is in
    let whole : with_inside s further.0 ≡ t = cc further.2 in
    subst (Keeps s) whole (record { shapes = refl; cells = refl })

-- one that stays leaves it inside
in-stays : (s t : State) (d : Definition) (c : CifCommand) → stays c ≡ true → step_in s (Some d) c ≡ Ok t → is_some t.inside ≡ true
in-stays s t d commands.Finish stay is = cc
in-stays s t d c stay is =
    let further = given (definition_behind s.symbols d c) (λ e. Ok (with_inside s e)) t is in
    let whole : with_inside s further.0 ≡ t = cc further.2 in
    subst (λ (u : State). is_some u.inside ≡ true) whole refl

-- a start opens one, and leaves the shapes and the cells of the main level
starts : (s t : State) (n a b : ℕ) (there : Option Symbol) → started s n a b there ≡ Ok t → KeepsOpen s t
starts s t n a b (Some symbol) is = cc
starts s t n a b None is =
    let whole : record s { main = record s.main { waiting = None }; inside = Some (opened n a b) } ≡ t = cc is in
    subst (KeepsOpen s) whole (record { keeps = record { shapes = refl; cells = refl }; inside = refl })

start-opens : (s t : State) (n a b : ℕ) (o : Option Definition) → step_in s o (commands.Start n a b) ≡ Ok t → KeepsOpen s t
start-opens s t n a b None is = starts s t n a b (symbol_of n s.symbols) is
start-opens s t n a b (Some d) is =
    record {
      keeps = in-keeps s t d (commands.Start n a b) is;
      inside = let further = given (definition_behind s.symbols d (commands.Start n a b)) (λ e. Ok (with_inside s e)) t is in
          let whole : with_inside s further.0 ≡ t = cc further.2 in subst (λ (u : State). is_some u.inside ≡ true) whole refl;
    }

inside-start : (p q : Progress) (n a b : ℕ) → advance p (commands.Start n a b) ≡ Ok q → KeepsOpen p.state q.state
unfolding step
inside-start p q n a b is = start-opens p.state q.state n a b p.state.inside (advance-step p q (commands.Start n a b) is)

-- a command where one is inside
inside-keeps : (p q : Progress) (c : CifCommand) → is_some p.state.inside ≡ true → advance p c ≡ Ok q → Keeps p.state q.state
unfolding step
inside-keeps p q c inside is = by p.state.inside inside (advance-step p q c is)
  where
    by : (o : Option Definition) → is_some o ≡ true → step_in p.state o c ≡ Ok q.state → Keeps p.state q.state
    by None inside stepped = cc
    by (Some d) inside stepped = in-keeps p.state q.state d c stepped

inside-stays : (p q : Progress) (c : CifCommand) → is_some p.state.inside ≡ true → stays c ≡ true → advance p c ≡ Ok q → is_some q.state.inside ≡ true
unfolding step
inside-stays p q c inside stay is = by p.state.inside inside (advance-step p q c is)
  where
    by : (o : Option Definition) → is_some o ≡ true → step_in p.state o c ≡ Ok q.state → is_some q.state.inside ≡ true
    by None inside stepped = cc
    by (Some d) inside stepped = in-stays p.state q.state d c stay stepped

both-inside : (p q : Progress) (c : CifCommand) → is_some p.state.inside ≡ true → stays c ≡ true → advance p c ≡ Ok q → KeepsOpen p.state q.state
both-inside p q c inside stay is = record { keeps = inside-keeps p q c inside is; inside = inside-stays p q c inside stay is }

taken-inside : (i : ℕ) (p q : Progress) (c : CifCommand) → is_some p.state.inside ≡ true → taken i p c ≡ Ok q → KeepsOpen p.state q.state
taken-inside i p q c inside is = by (stays c) refl is
  where
    by : (b : Bool) → stays c ≡ b → (if b then refused_at i (advance p c) else Ok p) ≡ Ok q → KeepsOpen p.state q.state
    by true stay is = both-inside p q c inside stay (refused-ok i (advance p c) q is)
    by false stay is = let same : p ≡ q = cc is in subst (λ (r : Progress). KeepsOpen p.state r.state) same (record { keeps = keeps-self p.state; inside = inside })

inside-then : (s t u : State) → KeepsOpen s t → KeepsOpen t u → KeepsOpen s u
inside-then s t u first second = record { keeps = keeps-then s t u first.keeps second.keeps; inside = second.inside }

all-inside : (cs : List CifCommand) (i : ℕ) (p q : Progress) → is_some p.state.inside ≡ true → all_taken i p cs ≡ Ok q → KeepsOpen p.state q.state
all-inside [] i p q inside is = let same : p ≡ q = cc is in subst (λ (r : Progress). KeepsOpen p.state r.state) same (record { keeps = keeps-self p.state; inside = inside })
all-inside (c ∷ cs) i p q inside is =
    let first = given (taken i p c) (λ r. all_taken (i + 1) r cs) q is in
    let one = taken-inside i p first.0 c inside first.1 in
    inside-then p.state first.0.state q.state one (all-inside cs (i + 1) first.0 q one.inside first.2)

-- a definition leaves the shapes and the cells of the main level
defined-by-keeps : (cs : List CifCommand) (p q : Progress) (d : DefinitionPlace) (o : Option CifCommand) → defined_by cs p d o ≡ Ok q → Keeps p.state q.state
defined-by-keeps cs p q d (Some (commands.Start n a b)) is =
    let start = given (refused_at d.start (advance p (commands.Start n a b))) _ q is in
    let inner = given (all_taken (d.start + 1) start.0 (body cs d)) _ q start.2 in
    let first = inside-start p start.0 n a b (refused-ok d.start _ start.0 start.1) in
    let second = all-inside (body cs d) (d.start + 1) start.0 inner.0 first.inside inner.1 in
    keeps-then p.state start.0.state q.state first.keeps
    (keeps-then start.0.state inner.0.state q.state second.keeps (inside-keeps inner.0 q commands.Finish second.inside (refused-ok d.finish _ q inner.2)))
defined-by-keeps cs p q d o is = let same : p ≡ q = cc is in subst (λ (r : Progress). Keeps p.state r.state) same (keeps-self p.state)

defined-keeps : (cs : List CifCommand) (p q : Progress) (d : DefinitionPlace) → defined cs p d ≡ Ok q → Keeps p.state q.state
unfolding defined
defined-keeps cs p q d is = defined-by-keeps cs p q d (slice_get cs d.start) is

all-defined-keeps : (cs : List CifCommand) (ds : List DefinitionPlace) (p q : Progress) → all_defined cs p ds ≡ Ok q → Keeps p.state q.state
all-defined-keeps cs [] p q is = let same : p ≡ q = cc is in subst (λ (r : Progress). Keeps p.state r.state) same (keeps-self p.state)
all-defined-keeps cs (d ∷ ds) p q is =
    let first = given (defined cs p d) (λ r. all_defined cs r ds) q is in
    keeps-then p.state first.0.state q.state (defined-keeps cs p first.0 d first.1) (all-defined-keeps cs ds first.0 q first.2)

-- a definition of a pass, where the others keep the main level
pass-by : (cs : List CifCommand) (d : DefinitionPlace) (ds left : List DefinitionPlace) (p : Progress) (r : Progress × List DefinitionPlace) (ready : Bool)
    → ((left : List DefinitionPlace) (p : Progress) → passed cs p left ds ≡ Ok r → Keeps p.state r.0.state)
    → (if ready then (defined cs p d >>= λ q. passed cs q left ds) else passed cs p (left ++ (d ∷ [])) ds) ≡ Ok r → Keeps p.state r.0.state
pass-by cs d ds left p r true others is =
    let first = given (defined cs p d) (λ q. passed cs q left ds) r is in
    keeps-then p.state first.0.state r.0.state (defined-keeps cs p first.0 d first.1) (others left first.0 first.2)
pass-by cs d ds left p r false others is = others (left ++ (d ∷ [])) p is

passed-keeps : (cs : List CifCommand) (ds left : List DefinitionPlace) (p : Progress) (r : Progress × List DefinitionPlace) → passed cs p left ds ≡ Ok r → Keeps p.state r.0.state
passed-keeps cs [] left p r is = let same : (p, left) ≡ r = cc is in subst (λ (r : Progress × List DefinitionPlace). Keeps p.state r.0.state) same (keeps-self p.state)
passed-keeps cs (d ∷ ds) left p r is = pass-by cs d ds left p r (is_ready cs p d) (λ left p. passed-keeps cs ds left p r) is

pub passes-keep : (n : ℕ) (cs : List CifCommand) (ds : List DefinitionPlace) (p q : Progress) → passes n cs p ds ≡ Ok q → Keeps p.state q.state
passes-keep zero cs ds p q is = all-defined-keeps cs ds p q is
passes-keep (suc n) cs ds p q is =
    let first = given (passed cs p [] ds) (λ r. passes n cs r.0 r.1) q is in
    keeps-then p.state first.0.0.state q.state (passed-keeps cs ds [] p first.0 first.1) (passes-keep n cs first.0.1 first.0.0 q first.2)
