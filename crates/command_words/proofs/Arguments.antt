use Rattle.std.proofs.Common.{◌≡◌, ◌≢◌, ◌∙◌, List, [], ◌∷◌, map, true, inl, inr, Option, None, Err, refl, sym, ap, ap₂, subst}
use Rattle.std.proofs.lemmas.List.{map-id}
use Rattle.clap.proofs.OnLiterals.{clap_on_literals}
use Rattle.clap.specs.Kinds.{HasKind, Kinds}
use Rattle.clap.specs.Values.{kind_of}
use Rattle.clap.specs.Words.{App, Row, Text, fault_of, is_simple, is_simple_and_free, matches_of}
use Rattle.clap.specs.declared.error.Error.{Error}
use Rattle.clap.specs.declared.error.kind.ErrorKind.TheVariants.{OutOfMemory}
use Rattle.command_words.specs.Arguments.{given_by, unless_refused}
use Rattle.command_words.specs.Command.{check_app, make_app, route_app}
use Rattle.command_words.specs.Drawing.{draw_app}
use Rattle.command_words.specs.Importing.{import_app}
use Rattle.command_words.specs.Seen.{Reads}
use Rattle.command_words.specs.Taken.{IsTaken}
use Rattle.command_words.specs.declared.command.WordsFault.{WordsFault}
use Rattle.command_words.specs.declared.command.WordsFault.TheVariants as faults

-- the commands are simple, and none of their arguments has a rule on another
pub route-is-free : (a : App) → a ≡ route_app → is_simple_and_free a ≡ true
unfolding clap_on_literals
route-is-free a is = let free : is_simple_and_free route_app ≡ true = refl in ap is_simple_and_free is ∙ free

pub route-is-simple : (a : App) → a ≡ route_app → is_simple a ≡ true
route-is-simple a is = let simple : is_simple route_app ≡ true = refl in ap is_simple is ∙ simple

pub check-is-free : (a : App) → a ≡ check_app → is_simple_and_free a ≡ true
unfolding clap_on_literals
check-is-free a is = let free : is_simple_and_free check_app ≡ true = refl in ap is_simple_and_free is ∙ free

pub check-is-simple : (a : App) → a ≡ check_app → is_simple a ≡ true
check-is-simple a is = let simple : is_simple check_app ≡ true = refl in ap is_simple is ∙ simple

pub make-is-free : (a : App) → a ≡ make_app → is_simple_and_free a ≡ true
unfolding clap_on_literals
make-is-free a is = let free : is_simple_and_free make_app ≡ true = refl in ap is_simple_and_free is ∙ free

pub make-is-simple : (a : App) → a ≡ make_app → is_simple a ≡ true
make-is-simple a is = let simple : is_simple make_app ≡ true = refl in ap is_simple is ∙ simple

pub draw-is-free : (a : App) → a ≡ draw_app → is_simple_and_free a ≡ true
unfolding clap_on_literals
draw-is-free a is = let free : is_simple_and_free draw_app ≡ true = refl in ap is_simple_and_free is ∙ free

pub draw-is-simple : (a : App) → a ≡ draw_app → is_simple a ≡ true
draw-is-simple a is = let simple : is_simple draw_app ≡ true = refl in ap is_simple is ∙ simple

pub import-is-free : (a : App) → a ≡ import_app → is_simple_and_free a ≡ true
unfolding clap_on_literals
import-is-free a is = let free : is_simple_and_free import_app ≡ true = refl in ap is_simple_and_free is ∙ free

pub import-is-simple : (a : App) → a ≡ import_app → is_simple a ≡ true
import-is-simple a is = let simple : is_simple import_app ≡ true = refl in ap is_simple is ∙ simple

-- what `clap` says of words that are seen as they are
pub taken-words : {X : Type 0} (a : App) (words : List Text) (rows : List Row) → is_simple a ≡ true → is_simple_and_free a ≡ true
    → (is_simple_and_free a ≡ true → fault_of a (map (λ w. w) words) ≡ [])
    → (is_simple a ≡ true → (rows ≡ matches_of a (map (λ w. w) words)) × X) → (fault_of a words ≡ []) × (rows ≡ matches_of a words)
taken-words a words rows simple free taken found =
    let same : map (λ w. w) words ≡ words = map-id words in
    (subst (λ ws. fault_of a ws ≡ []) same (taken free), (found simple).0 ∙ ap (matches_of a) same)

some-kind : (kinds : Kinds) (e : Error) → HasKind kinds e → kind_of e ≢ OutOfMemory → kinds ≢ []
some-kind [] e (inl memory) other = absurd (other memory)
some-kind [] e (inr none) other = absurd none
some-kind (k ∷ ks) e has other = λ none. cc

-- words that are refused for another cause than memory
pub refused-words : (a : App) (words : List Text) (e : Error) → is_simple_and_free a ≡ true
    → (is_simple_and_free a ≡ true → HasKind (fault_of a (map (λ w. w) words)) e) → kind_of e ≢ OutOfMemory → fault_of a words ≢ []
refused-words a words e free fails other =
    some-kind (fault_of a words) e (subst (λ ws. HasKind (fault_of a ws) e) (map-id words) (fails free)) other

-- words that are taken give what the values say
pub taken-gives : {A : Type 0} (a app : App) (given : List Row → Option A) (words : List Text) (rows : List Row) → a ≡ app
    → (fault_of a words ≡ []) × (rows ≡ matches_of a words) → given_by app given words ≡ given rows
unfolding given_by
taken-gives a app given words rows is taken =
    let none : fault_of app words ≡ [] = ap (λ b. fault_of b words) (sym is) ∙ taken.0 in
    let among : matches_of app words ≡ rows = ap (λ b. matches_of b words) (sym is) ∙ sym taken.1 in
    ap₂ unless_refused none (ap given among)

refused : {A : Type 0} (kinds : Kinds) (given : Option A) → kinds ≢ [] → unless_refused kinds given ≡ None
refused [] given some = absurd (some refl)
refused (kind ∷ kinds) given some = refl

-- words that are refused give nothing
pub refused-gives : {A : Type 0} (a app : App) (given : List Row → Option A) (words : List Text) → a ≡ app → fault_of a words ≢ []
    → given_by app given words ≡ None
unfolding given_by
refused-gives a app given words is some =
    refused (fault_of app words) (given (matches_of app words)) (subst (λ b. fault_of b words ≢ []) is some)

-- the same as it is read
pub refused-reads : {M X A : Type 0} (values : M → List Row) (view : X → A) (a app : App) (given : List Row → Option A) (words : List Text) (fault : WordsFault)
    → a ≡ app → IsTaken values a words (Err fault) → Reads view (Err fault) (given_by app given words)
refused-reads values view a app given words faults.Usage is some = refused-gives a app given words is some
refused-reads values view a app given words faults.Memory is some = tt
