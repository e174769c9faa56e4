use Rattle.cif_text.specs.declared.command.CifCommand.TheVariants as commands
use Rattle.std.proofs.Common.{◌≡◌, refl, ap, sym, subst, ◌∙◌, append_assoc, ℕ, suc, List, [], ◌∷◌, ◌++◌, Bool, true, false, Option, Some, None, Result, Ok, Err}
use Rattle.std.proofs.lemmas.List.{append-nil}
use Rattle.std.specs.List.{list_all}
use Rattle.geom_core.specs.declared.layout.Layout.{Layout}
use Rattle.cif_text.specs.declared.command.CifCommand.{CifCommand}
use Rattle.cif_text.specs.InOrder.{in_order}
use Rattle.read_base.specs.Steps.{◌>>=◌}
use Rattle.cif_text.specs.Symbols.{Symbol, Definition, Main, State, symbol_of}
use Rattle.cif_text.specs.CifReads.{is_open_behind}
use Rattle.cif_text.specs.Meaning.{Unmeant, drawn_by, definition_with, opened, definition_behind, symbol_of_definition, empty_main, main_behind, started, finished, with_main, with_inside, at_command, step, step_in, run, nothing, layout_of, meaning}
use Rattle.cif_text.specs.Bodies.{outside, finishes_none, IsDefined, IsDrawnBy}
use Rattle.cif_text.proofs.BodyLaws.{given, order-push, order-more, closed-push, main-more, is_open, open-push, outside-push, none-outside, one-outside, stays-open, defined-push}
use Rattle.std_laws.proofs.Slices.{snoc-parts}

-- a definition is open behind commands: it has so far what the commands behind its start give it
record IsOpened (done : List CifCommand) (symbols : List Symbol) (d : Definition) : Type 0 where
  before : List CifCommand
  a : ℕ
  b : ℕ
  body : List CifCommand
  stands : done ≡ before ++ (commands.Start d.number a b ∷ body)
  closed : list_all finishes_none body ≡ true
  draws : in_order (definition_behind symbols) (opened d.number a b) body ≡ Ok d

abbrev Opened : List CifCommand → List Symbol → Option Definition → Type 0
Opened done symbols None = is_open false done ≡ false
Opened done symbols (Some d) = (is_open false done ≡ true) × IsOpened done symbols d

-- what stands behind commands is what they draw
record Made (done : List CifCommand) (s : State) : Type 0 where
  defined : (earlier later : List Symbol) (y : Symbol) → s.symbols ≡ earlier ++ (y ∷ later) → IsDefined done earlier y
  draws : in_order (main_behind s.symbols) empty_main (outside false done) ≡ Ok s.main
  opened : Opened done s.symbols s.inside

-- the main level is left as it is by a command inside a definition
inside-same : (done : List CifCommand) (c : CifCommand) → is_open false done ≡ true → outside false (done ++ (c ∷ [])) ≡ outside false done
inside-same done c is_opened =
    outside-push false done c ∙ ap (λ (b : Bool). outside false done ++ outside b (c ∷ [])) is_opened
    ∙ ap (λ (cs : List CifCommand). outside false done ++ cs) (none-outside c) ∙ append-nil (outside false done)

outside-same : (done : List CifCommand) (c : CifCommand) → is_open false done ≡ false → outside false (done ++ (c ∷ [])) ≡ outside false done ++ (c ∷ [])
outside-same done c is_closed =
    outside-push false done c ∙ ap (λ (b : Bool). outside false done ++ outside b (c ∷ [])) is_closed
    ∙ ap (λ (cs : List CifCommand). outside false done ++ cs) (one-outside c)

-- a command leaves the number of a definition as it is
number-same : (symbols : List Symbol) (d e : Definition) (c : CifCommand) → definition_behind symbols d c ≡ Ok e → e.number ≡ d.number
number-same symbols d e c is =
    let shapes = given (drawn_by symbols d.level c) _ e is in
    let whole : definition_with d c shapes.0 ≡ e = cc shapes.2 in
    sym (ap (λ (x : Definition). x.number) whole)

-- a further command inside a definition
made-inside : (done : List CifCommand) (c : CifCommand) (s : State) (d e : Definition) → Made done s → s.inside ≡ Some d → finishes_none c ≡ true
    → definition_behind s.symbols d c ≡ Ok e → Made (done ++ (c ∷ [])) (with_inside s e)
made-inside done c s d e h some more_to_come is =
    let o : Opened done s.symbols (Some d) = subst (Opened done s.symbols) some h.opened in
    let number = number-same s.symbols d e c is in
    record {
      defined = λ earlier later y at. defined-push done c earlier y (h.defined earlier later y at);
      draws = rw (inside-same done c o.0) h.draws;
      opened = (
        open-push false done c ∙ ap (λ (x : Bool). is_open_behind x c) o.0 ∙ stays-open c more_to_come,
        record {
          before = o.1.before;
          a = o.1.a;
          b = o.1.b;
          body = o.1.body ++ (c ∷ []);
          stands = ap (λ (cs : List CifCommand). cs ++ (c ∷ [])) o.1.stands
              ∙ append_assoc o.1.before (commands.Start d.number o.1.a o.1.b ∷ o.1.body) (c ∷ []) ∙ rw number refl;
          closed = closed-push o.1.body c o.1.closed more_to_come;
          draws = subst (λ (n : ℕ). in_order (definition_behind s.symbols) (opened n o.1.a o.1.b) (o.1.body ++ (c ∷ [])) ≡ Ok e) (sym number)
              (order-push (definition_behind s.symbols) (opened d.number o.1.a o.1.b) d e o.1.body c o.1.draws is);
        },
      );
    }

-- the finish of a definition
made-finish : (done : List CifCommand) (s : State) (d : Definition) → Made done s → s.inside ≡ Some d → Made (done ++ (commands.Finish ∷ [])) (finished s d)
made-finish done s d h some =
    let o : Opened done s.symbols (Some d) = subst (Opened done s.symbols) some h.opened in
    let symbol : Symbol = symbol_of_definition d in
    record {
      defined = λ earlier later y at. snoc-parts s.symbols earlier later symbol y at (IsDefined (done ++ (commands.Finish ∷ [])) earlier y)
          (λ all last. rw (sym all, sym last) (record {
            before = o.1.before;
            a = o.1.a;
            b = o.1.b;
            body = o.1.body;
            behind = [];
            stands = ap (λ (cs : List CifCommand). cs ++ (commands.Finish ∷ [])) o.1.stands
                ∙ append_assoc o.1.before (commands.Start d.number o.1.a o.1.b ∷ o.1.body) (commands.Finish ∷ []);
            closed = o.1.closed;
            definition = d;
            draws = o.1.draws;
            gives = refl;
          }))
          (λ fewer all. defined-push done commands.Finish earlier y (h.defined earlier fewer y all));
      draws = rw (inside-same done commands.Finish o.0)
          (order-more (main_behind s.symbols) (main_behind (s.symbols ++ (symbol ∷ []))) (main-more s.symbols (symbol ∷ []))
          empty_main s.main (outside false done) h.draws);
      opened = open-push false done commands.Finish ∙ ap (λ (x : Bool). is_open_behind x commands.Finish) o.0;
    }

-- the start of a definition
start-behind : (symbols : List Symbol) (m : Main) (n a b : ℕ) → main_behind symbols m (commands.Start n a b) ≡ Ok (record m { waiting = None })
start-behind symbols m n a b = rw (append-nil m.level.shapes, append-nil m.cells) refl

made-start : (done : List CifCommand) (s : State) (n a b : ℕ) → Made done s → s.inside ≡ None
    → Made (done ++ (commands.Start n a b ∷ [])) (record s { main = record s.main { waiting = None }; inside = Some (opened n a b) })
made-start done s n a b h none =
    let o : Opened done s.symbols None = subst (Opened done s.symbols) none h.opened in
    record {
      defined = λ earlier later y at. defined-push done (commands.Start n a b) earlier y (h.defined earlier later y at);
      draws = rw (outside-same done (commands.Start n a b) o)
          (order-push (main_behind s.symbols) empty_main s.main (record s.main { waiting = None }) (outside false done) (commands.Start n a b) h.draws
          (start-behind s.symbols s.main n a b));
      opened = (
        open-push false done (commands.Start n a b) ∙ ap (λ (x : Bool). is_open_behind x (commands.Start n a b)) o,
        record { before = done; a = a; b = b; body = []; stands = refl; closed = refl; draws = refl },
      );
    }

-- a further command of the main level
made-outside : (done : List CifCommand) (c : CifCommand) (s : State) (m : Main) → Made done s → s.inside ≡ None → is_open_behind false c ≡ false
    → main_behind s.symbols s.main c ≡ Ok m → Made (done ++ (c ∷ [])) (with_main s m)
made-outside done c s m h none still is =
    let o : Opened done s.symbols None = subst (Opened done s.symbols) none h.opened in
    record {
      defined = λ earlier later y at. defined-push done c earlier y (h.defined earlier later y at);
      draws = rw (outside-same done c o) (order-push (main_behind s.symbols) empty_main s.main m (outside false done) c h.draws is);
      opened = subst (Opened (done ++ (c ∷ [])) s.symbols) (sym none) (open-push false done c ∙ ap (λ (x : Bool). is_open_behind x c) o ∙ still);
    }

further-inside : (done : List CifCommand) (c : CifCommand) (s t : State) (d : Definition) → Made done s → s.inside ≡ Some d → finishes_none c ≡ true
    → (definition_behind s.symbols d c >>= λ e. Ok (with_inside s e)) ≡ Ok t → Made (done ++ (c ∷ [])) t
further-inside done c s t d h some more_to_come is =
    let further = given (definition_behind s.symbols d c) (λ e. Ok (with_inside s e)) t is in
    let state : with_inside s further.0 ≡ t = cc further.2 in
    subst (Made (done ++ (c ∷ []))) state (made-inside done c s d further.0 h some more_to_come further.1)

further-outside : (done : List CifCommand) (c : CifCommand) (s t : State) → Made done s → s.inside ≡ None → is_open_behind false c ≡ false
    → (main_behind s.symbols s.main c >>= λ m. Ok (with_main s m)) ≡ Ok t → Made (done ++ (c ∷ [])) t
further-outside done c s t h none still is =
    let further = given (main_behind s.symbols s.main c) (λ m. Ok (with_main s m)) t is in
    let state : with_main s further.0 ≡ t = cc further.2 in
    subst (Made (done ++ (c ∷ []))) state (made-outside done c s further.0 h none still further.1)

further-start : (done : List CifCommand) (n a b : ℕ) (s t : State) (there : Option Symbol) → Made done s → s.inside ≡ None → started s n a b there ≡ Ok t
    → Made (done ++ (commands.Start n a b ∷ [])) t
further-start done n a b s t (Some symbol) h none is = cc
further-start done n a b s t None h none is = subst (Made (done ++ (commands.Start n a b ∷ []))) (cc is) (made-start done s n a b h none)

step-made : (done : List CifCommand) (c : CifCommand) (s t : State) → Made done s → step s c ≡ Ok t → Made (done ++ (c ∷ [])) t
unfolding step
step-made done c s t h is = by c s.inside refl is
  where
    by : (c : CifCommand) (o : Option Definition) → s.inside ≡ o → step_in s o c ≡ Ok t → Made (done ++ (c ∷ [])) t
    by (commands.Start n a b) None none is = further-start done n a b s t (symbol_of n s.symbols) h none is
    by c None none is = further-outside done c s t h none refl is
    by commands.Finish (Some d) some is = subst (Made (done ++ (commands.Finish ∷ []))) (cc is) (made-finish done s d h some)
    by c (Some d) some is = further-inside done c s t d h some refl is

at-ok : {A : Type 0} (i : ℕ) (r : Result A Unmeant) (a : A) → at_command i r ≡ Ok a → r ≡ Ok a
at-ok i (Ok b) a h = cc
at-ok i (Err e) a h = cc

run-made : (todo done : List CifCommand) (i : ℕ) (s t : State) → Made done s → run i s todo ≡ Ok t → Made (done ++ todo) t
unfolding run
run-made [] done i s t h is =
    let same : s ≡ t = cc is in
    subst (λ (cs : List CifCommand). Made cs t) (sym (append-nil done)) (subst (Made done) same h)
run-made (c ∷ cs) done i s t h is =
    let next = given (at_command i (step s c)) (λ u. run (suc i) u cs) t is in
    let made = step-made done c s next.0 h (at-ok i (step s c) next.0 next.1) in
    subst (λ (whole : List CifCommand). Made whole t) (append_assoc done (c ∷ []) cs) (run-made cs (done ++ (c ∷ [])) (suc i) next.0 t made next.2)

-- what commands mean is what those outside definitions draw, and the shapes of a symbol are what the commands of its definition draw
pub meaning-drawn : (cs : List CifCommand) (l : Layout) → meaning cs ≡ Ok l → IsDrawnBy cs l
unfolding meaning
meaning-drawn cs l is =
    let whole = given (run 0 nothing cs) (λ s. Ok (layout_of s.main)) l is in
    let start : Made [] nothing = record { defined = λ earlier later y at. none-defined earlier later y at; draws = refl; opened = refl } in
    let made = run-made cs [] 0 nothing whole.0 start whole.1 in
    record { symbols = whole.0.symbols; defined = made.defined; main = whole.0.main; draws = made.draws; gives = cc whole.2 }
  where
    none-defined : (earlier later : List Symbol) (y : Symbol) → [] ≡ earlier ++ (y ∷ later) → IsDefined [] earlier y
    none-defined [] later y at = cc
    none-defined (x ∷ earlier) later y at = cc
