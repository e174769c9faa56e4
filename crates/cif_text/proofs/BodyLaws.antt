use Rattle.cif_text.specs.declared.command.CifCommand.TheVariants as commands
use Rattle.std.proofs.Common.{◌≡◌, refl, ap, ◌∙◌, append_assoc, ℕ, List, [], ◌∷◌, ◌++◌, Bool, true, false, Option, Some, None, Result, Ok, Err}
use Rattle.std.specs.List.{list_all}
use Rattle.std.specs.Prelude.{◌==◌, ◌&&◌, if◌then◌else◌}
use Rattle.cif_text.specs.declared.command.CifCommand.{CifCommand}
use Rattle.cif_text.specs.InOrder.{in_order}
use Rattle.read_base.specs.Steps.{◌>>=◌}
use Rattle.cif_text.specs.Symbols.{Symbol, Main, symbol_of}
use Rattle.cif_text.specs.CifReads.{is_open_behind}
use Rattle.cif_text.specs.Meaning.{Unmeant, undefined, found, drawn_by, main_behind}
use Rattle.cif_text.specs.Bodies.{outside, finishes_none, IsDefined}

-- a step that gives something gives it from what the step before gave
pub given : {A B x : Type 0} (r : Result A x) (f : A → Result B x) (y : B) → (r >>= f) ≡ Ok y → (a : A) × (r ≡ Ok a) × (f a ≡ Ok y)
given (Ok a) f y h = (a, refl, h)
given (Err e) f y h = cc

-- one step more
pub order-push : {S C E : Type 0} (step : S → C → Result S E) (s t u : S) (xs : List C) (c : C) → in_order step s xs ≡ Ok t → step t c ≡ Ok u
    → in_order step s (xs ++ (c ∷ [])) ≡ Ok u
order-push step s t u [] c all last =
    let same : s ≡ t = cc in
    ap (λ x. step x c >>= λ y. Ok y) same ∙ rw last refl
order-push step s t u (x ∷ xs) c all last =
    let next = given (step s x) (λ y. in_order step y xs) t all in
    rw next.1 (order-push step next.0 t u xs c next.2 last)

-- steps that give as much
pub order-more : {S C E : Type 0} (step more : S → C → Result S E) → ((s t : S) (c : C) → step s c ≡ Ok t → more s c ≡ Ok t)
    → (s t : S) (xs : List C) → in_order step s xs ≡ Ok t → in_order more s xs ≡ Ok t
order-more step more each s t [] all = all
order-more step more each s t (x ∷ xs) all =
    let next = given (step s x) (λ y. in_order step y xs) t all in
    rw (each s next.0 x next.1) (order-more step more each next.0 t xs next.2)

pub closed-push : (xs : List CifCommand) (c : CifCommand) → list_all finishes_none xs ≡ true → finishes_none c ≡ true → list_all finishes_none (xs ++ (c ∷ [])) ≡ true
closed-push [] c all last = rw last refl
closed-push (x ∷ xs) c all last = by (finishes_none x) all (λ others. closed-push xs c others last)
  where
    by : (b : Bool) → (b && list_all finishes_none xs) ≡ true → (list_all finishes_none xs ≡ true → list_all finishes_none (xs ++ (c ∷ [])) ≡ true)
        → (b && list_all finishes_none (xs ++ (c ∷ []))) ≡ true
    by true h more = more h
    by false h more = cc

-- where more symbols have ended
symbol-more : (n : ℕ) (symbols later : List Symbol) (y : Symbol) → symbol_of n symbols ≡ Some y → symbol_of n (symbols ++ later) ≡ Some y
symbol-more n [] later y h = cc
symbol-more n (s ∷ ss) later y h = by (s.number == n) h (symbol-more n ss later y)
  where
    by : (b : Bool) → (if b then Some s else symbol_of n ss) ≡ Some y → (symbol_of n ss ≡ Some y → symbol_of n (ss ++ later) ≡ Some y)
        → (if b then Some s else symbol_of n (ss ++ later)) ≡ Some y
    by true here more = here
    by false here more = more here

found-some : {A : Type 0} (fault : Unmeant) (o : Option A) (y : A) → found fault o ≡ Ok y → o ≡ Some y
found-some fault (Some y) z h = cc
found-some fault None z h = cc

pub main-more : (symbols later : List Symbol) (m n : Main) (c : CifCommand) → main_behind symbols m c ≡ Ok n → main_behind (symbols ++ later) m c ≡ Ok n
main-more symbols later m n (commands.Call k flip quarters dx dy) h =
    let shapes = given (drawn_by symbols m.level (commands.Call k flip quarters dx dy)) _ n h in
    let symbol = given (found (undefined k) (symbol_of k symbols)) _ shapes.0 shapes.1 in
    let is : symbol_of k symbols ≡ Some symbol.0 = found-some (undefined k) (symbol_of k symbols) symbol.0 symbol.1 in
    let there : symbol_of k (symbols ++ later) ≡ Some symbol.0 = symbol-more k symbols later symbol.0 is in
    rw there (rw is at h)
main-more symbols later m n c h = h

-- whether a definition is open behind commands
abbrev pub is_open : Bool → List CifCommand → Bool
is_open b [] = b
is_open b (c ∷ cs) = is_open (is_open_behind b c) cs

pub open-push : (b : Bool) (xs : List CifCommand) (c : CifCommand) → is_open b (xs ++ (c ∷ [])) ≡ is_open_behind (is_open b xs) c
open-push b [] c = refl
open-push b (x ∷ xs) c = open-push (is_open_behind b x) xs c

pub outside-push : (b : Bool) (xs : List CifCommand) (c : CifCommand) → outside b (xs ++ (c ∷ [])) ≡ outside b xs ++ outside (is_open b xs) (c ∷ [])
outside-push true [] c = refl
outside-push false [] c = refl
outside-push true (commands.Finish ∷ xs) c = outside-push false xs c
outside-push true (x ∷ xs) c = outside-push true xs c
outside-push false (commands.Start n x y ∷ xs) c = ap (λ (cs : List CifCommand). commands.Start n x y ∷ cs) (outside-push true xs c)
outside-push false (x ∷ xs) c = ap (λ (cs : List CifCommand). x ∷ cs) (outside-push false xs c)

-- what a command leaves of the main level, inside a definition and outside
pub none-outside : (c : CifCommand) → outside true (c ∷ []) ≡ []
none-outside commands.Finish = refl
none-outside c = refl

pub one-outside : (c : CifCommand) → outside false (c ∷ []) ≡ c ∷ []
one-outside (commands.Start n x y) = refl
one-outside c = refl

pub stays-open : (c : CifCommand) → finishes_none c ≡ true → is_open_behind true c ≡ true
stays-open commands.Finish h = cc
stays-open c h = refl

-- a symbol that is defined stays so
pub defined-push : (done : List CifCommand) (c : CifCommand) (earlier : List Symbol) (y : Symbol) → IsDefined done earlier y → IsDefined (done ++ (c ∷ [])) earlier y
defined-push done c earlier y h = record {
  before = h.before;
  a = h.a;
  b = h.b;
  body = h.body;
  behind = h.behind ++ (c ∷ []);
  stands = ap (λ (cs : List CifCommand). cs ++ (c ∷ [])) h.stands
      ∙ append_assoc h.before (commands.Start y.number h.a h.b ∷ (h.body ++ (commands.Finish ∷ h.behind))) (c ∷ [])
      ∙ ap (λ (cs : List CifCommand). h.before ++ (commands.Start y.number h.a h.b ∷ cs)) (append_assoc h.body (commands.Finish ∷ h.behind) (c ∷ []));
  closed = h.closed;
  definition = h.definition;
  draws = h.draws;
  gives = h.gives;
}
