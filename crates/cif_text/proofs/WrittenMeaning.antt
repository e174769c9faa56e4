use Rattle.cif_text.specs.declared.command.CifCommand.TheVariants as commands
use Rattle.cif_text.specs.declared.command.UserKind.TheVariants as users
use Rattle.std.proofs.Common.{◌≡◌, refl, ap, sym, subst, ◌∙◌, append_assoc, ℕ, suc, ◌*◌, ◌/◌, ◌%◌, ◌≤◌, List, [], ◌∷◌, ◌++◌, length, length-append, Bool, true, false, ℤ, pos, negsuc, arith}
use Rattle.std.proofs.lemmas.Bool.Decides.{nat_tests}
use Rattle.std.proofs.lemmas.List.{append-nil}
use Rattle.std.specs.List.{AllByRecursion}
use Rattle.std.specs.Str.{bytes_eq}
use Rattle.std.specs.Prelude.{Result, Ok, Option, Some, None, IsSome, if◌then◌else◌, ◌==◌, unwrap_or}
use Rattle.geom_core.specs.declared.layout.Shape.{Shape}
use Rattle.geom_core.specs.declared.layout.Cell.{Cell}
use Rattle.geom_core.specs.declared.turn.Place.{Place}
use Rattle.geom_core.specs.Extent.{Extent}
use Rattle.cif_text.specs.declared.command.CifCommand.{CifCommand}
use Rattle.read_base.specs.Steps.{◌>>=◌}
use Rattle.cif_text.specs.Scales.{scaled_natural, scaled, scaled_extent, scaled_turning, doubled, around}
use Rattle.cif_text.specs.Symbols.{Symbol, Level, State, symbol_of}
use Rattle.cif_text.specs.Meaning.{Unmeant, layout_of, step, run, meaning}
use Rattle.cif_text.specs.Written.{WrittenSymbol, MainItem, alone, copy, label, label_command, label_commands, box_of, call_to, change, shape_commands, shapes_commands, symbol_commands, symbols_commands, copy_commands, items_commands, layout_commands}
use Rattle.geom_core.specs.Moving.{turn_at}
use Rattle.cif_text.proofs.WrittenLayout.{symbol_at, symbols_from, copied_shapes, cell_of, item_shapes, item_cells, items_shapes, items_cells, written_layout, IsBox, IsShape, IsWhole, IsDrawn, IsCopy, IsItem, IsWritable}
use Rattle.cif_text.proofs.WrittenText.{box-drawn, call-whole}
use Rattle.std_laws.proofs.Bytes.{bytes_one}

-- some commands lead from a state to another, whatever comes before and behind them
abbrev Leads : State → List CifCommand → State → Type 0
Leads s cs t = (i : ℕ) (rest : List CifCommand) → (j : ℕ) × (run i s (cs ++ rest) ≡ run j t rest)

leads-none : (s : State) → Leads s [] s
leads-none s = λ (i : ℕ) (rest : List CifCommand). (i, refl)

leads-step : (s t u : State) (c : CifCommand) (cs : List CifCommand) → step s c ≡ Ok t → Leads t cs u → Leads s (c ∷ cs) u
unfolding run
leads-step s t u c cs first others = λ (i : ℕ) (rest : List CifCommand).
    let more = others (suc i) rest in (more.0, rw first more.1)

leads-one : (s t : State) (c : CifCommand) → step s c ≡ Ok t → Leads s (c ∷ []) t
leads-one s t c first = leads-step s t t c [] first (leads-none t)

leads-both : (s t u : State) (xs ys : List CifCommand) → Leads s xs t → Leads t ys u → Leads s (xs ++ ys) u
leads-both s t u xs ys first second = λ (i : ℕ) (rest : List CifCommand).
    let front = first i (ys ++ rest) in
    let back = second front.0 rest in
    (back.0, rw append_assoc (front.1 ∙ back.1))

-- the states of a written text: inside the definition of a symbol, and at the main level
abbrev level_one : Option (List ℕ) → List Shape → Level
level_one layer shapes = record { a = 1; b = 1; layer = layer; shapes = shapes }

abbrev inside_of : State → ℕ → Option (List ℕ) → List Shape → Option (List ℕ) → State
inside_of s n name shapes layer =
    record s { inside = Some (record { number = n; name = name; level = level_one layer shapes }) }

abbrev main : List Symbol → List Cell → List Shape → Option (List ℕ) → Option (List ℕ) → State
main symbols cells shapes layer waiting =
    record { main = record { level = level_one layer shapes; cells = cells; waiting = waiting }; symbols = symbols; inside = None }

-- at scale 1 / 1 a number is as it is
natural-one : (n : ℕ) → scaled_natural 1 1 n ≡ Some n
natural-one n =
    let left : n * 1 % 1 ≡ 0 = omega arith in
    let value : n * 1 / 1 ≡ n = omega arith in
    rw (left, value) refl

scaled-one : (z : ℤ) → scaled 1 1 z ≡ Some z
scaled-one (pos n) = rw (natural-one n) refl
scaled-one (negsuc n) = rw (natural-one (suc n)) refl

-- a layer that is the present one has no command
change-leads : (at_layer : Option (List ℕ) → State) (old : Option (List ℕ)) (layer : List ℕ)
    → ((before : Option (List ℕ)) → step (at_layer before) (commands.Layer layer) ≡ Ok (at_layer (Some layer)))
    → Leads (at_layer old) (change old layer) (at_layer (Some layer))
change-leads at_layer None layer set = leads-one (at_layer None) (at_layer (Some layer)) (commands.Layer layer) (set None)
change-leads at_layer (Some old) layer set = changed (bytes_eq old layer) (bytes_one old layer)
  where
    changed : (b : Bool) → (b ≡ true → old ≡ layer) → Leads (at_layer (Some old)) (if b then [] else commands.Layer layer ∷ []) (at_layer (Some layer))
    changed true same = subst (λ (l : List ℕ). Leads (at_layer (Some l)) [] (at_layer (Some layer))) (sym (same refl)) (leads-none (at_layer (Some layer)))
    changed false same = leads-one (at_layer (Some old)) (at_layer (Some layer)) (commands.Layer layer) (set (Some old))

-- the four sides of a box at scale 1 / 1
extent-one : (e : Extent) → scaled_extent 1 1 e ≡ Some e
extent-one e = rw (scaled-one e.x0, scaled-one e.y0, scaled-one e.x1, scaled-one e.y1) refl

-- the rectangle of a box
rect-is : (drawn e : Extent) → drawn ≡ e → scaled_extent 1 1 drawn ≡ Some e
rect-is drawn e same = ap (scaled_extent 1 1) same ∙ extent-one e

box-inside : (s : State) (n : ℕ) (name : Option (List ℕ)) (shapes : List Shape) (sh : Shape) → IsBox sh.rect
    → step (inside_of s n name shapes (Some sh.layer)) (box_of sh.rect) ≡ Ok (inside_of s n name (shapes ++ (sh ∷ [])) (Some sh.layer))
unfolding step
box-inside s n name shapes sh box =
    ap (step (inside_of s n name shapes (Some sh.layer))) (box-drawn sh.rect box)
    ∙ rw (rect-is (around box.long box.wide box.cx box.cy) sh.rect box.drawn) refl

box-outside : (symbols : List Symbol) (cells : List Cell) (shapes : List Shape) (sh : Shape) → IsBox sh.rect
    → step (main symbols cells shapes (Some sh.layer) None) (box_of sh.rect) ≡ Ok (main symbols cells (shapes ++ (sh ∷ [])) (Some sh.layer) None)
unfolding step
box-outside symbols cells shapes sh box =
    ap (step (main symbols cells shapes (Some sh.layer) None)) (box-drawn sh.rect box)
    ∙ rw (rect-is (around box.long box.wide box.cx box.cy) sh.rect box.drawn, append-nil cells) refl

shape-inside : (s : State) (n : ℕ) (name : Option (List ℕ)) (shapes : List Shape) (layer : Option (List ℕ)) (sh : Shape) → IsShape sh
    → Leads (inside_of s n name shapes layer) (shape_commands layer sh) (inside_of s n name (shapes ++ (sh ∷ [])) (Some sh.layer))
unfolding step
shape-inside s n name shapes layer sh h =
    leads-both (inside_of s n name shapes layer) (inside_of s n name shapes (Some sh.layer)) (inside_of s n name (shapes ++ (sh ∷ [])) (Some sh.layer))
    (change layer sh.layer) (box_of sh.rect ∷ [])
    (change-leads (inside_of s n name shapes) layer sh.layer (λ (before : Option (List ℕ)). rw (append-nil shapes) refl))
    (leads-one (inside_of s n name shapes (Some sh.layer)) (inside_of s n name (shapes ++ (sh ∷ [])) (Some sh.layer)) (box_of sh.rect) (box-inside s n name shapes sh h.box))

shape-outside : (symbols : List Symbol) (cells : List Cell) (shapes : List Shape) (layer : Option (List ℕ)) (sh : Shape) → IsShape sh
    → Leads (main symbols cells shapes layer None) (shape_commands layer sh) (main symbols cells (shapes ++ (sh ∷ [])) (Some sh.layer) None)
unfolding step
shape-outside symbols cells shapes layer sh h =
    leads-both (main symbols cells shapes layer None) (main symbols cells shapes (Some sh.layer) None) (main symbols cells (shapes ++ (sh ∷ [])) (Some sh.layer) None)
    (change layer sh.layer) (box_of sh.rect ∷ [])
    (change-leads (λ (l : Option (List ℕ)). main symbols cells shapes l None) layer sh.layer (λ (before : Option (List ℕ)). rw (append-nil shapes, append-nil cells) refl))
    (leads-one (main symbols cells shapes (Some sh.layer) None) (main symbols cells (shapes ++ (sh ∷ [])) (Some sh.layer) None) (box_of sh.rect) (box-outside symbols cells shapes sh h.box))

-- the state behind a definition
abbrev ended : State → ℕ → Option (List ℕ) → List Shape → State
ended s n name shapes = record s { symbols = s.symbols ++ (record { number = n; name = name; shapes = shapes } ∷ []); inside = None }

-- the shapes of a symbol, up to its finish
symbol-ends : (s : State) (n : ℕ) (name : Option (List ℕ)) (shapes : List Shape) (layer : Option (List ℕ)) (ss : List Shape) → AllByRecursion IsShape ss
    → Leads (inside_of s n name shapes layer) (shapes_commands layer ss ++ (commands.Finish ∷ [])) (ended s n name (shapes ++ ss))
unfolding step
symbol-ends s n name shapes layer [] h =
    leads-one (inside_of s n name shapes layer) (ended s n name (shapes ++ [])) commands.Finish (rw (append-nil shapes) refl)
symbol-ends s n name shapes layer (sh ∷ ss) h =
    let led : Leads (inside_of s n name shapes layer) (shape_commands layer sh ++ (shapes_commands (Some sh.layer) ss ++ (commands.Finish ∷ [])))
    (ended s n name ((shapes ++ (sh ∷ [])) ++ ss)) =
    leads-both (inside_of s n name shapes layer) (inside_of s n name (shapes ++ (sh ∷ [])) (Some sh.layer)) (ended s n name ((shapes ++ (sh ∷ [])) ++ ss))
    (shape_commands layer sh) (shapes_commands (Some sh.layer) ss ++ (commands.Finish ∷ []))
    (shape-inside s n name shapes layer sh h.0) (symbol-ends s n name (shapes ++ (sh ∷ [])) (Some sh.layer) ss h.1) in
    subst (λ (found : List Shape). Leads (inside_of s n name shapes layer) (shapes_commands layer (sh ∷ ss) ++ (commands.Finish ∷ [])) (ended s n name found))
    (append_assoc shapes (sh ∷ []) ss)
    (subst (λ (cs : List CifCommand). Leads (inside_of s n name shapes layer) cs (ended s n name ((shapes ++ (sh ∷ [])) ++ ss)))
    (sym (append_assoc (shape_commands layer sh) (shapes_commands (Some sh.layer) ss) (commands.Finish ∷ []))) led)

-- the main level before its first item
abbrev before_items : List Symbol → State
before_items symbols = main symbols [] [] None None

-- a symbol that is not defined yet
symbol-leads : (symbols : List Symbol) (n : ℕ) (name : Option (List ℕ)) (shapes : List Shape) → AllByRecursion IsShape shapes → symbol_of n symbols ≡ None
    → Leads (before_items symbols) (symbol_commands n (record { name = name; shapes = shapes }))
    (before_items (symbols ++ (record { number = n; name = name; shapes = shapes } ∷ [])))
unfolding step
symbol-leads symbols n None shapes h fresh =
    leads-step (before_items symbols) (inside_of (before_items symbols) n None [] None) (ended (before_items symbols) n None shapes)
    (commands.Start n 1 1) (shapes_commands None shapes ++ (commands.Finish ∷ [])) (rw fresh refl)
    (symbol-ends (before_items symbols) n None [] None shapes h)
symbol-leads symbols n (Some name) shapes h fresh =
    leads-step (before_items symbols) (inside_of (before_items symbols) n None [] None) (ended (before_items symbols) n (Some name) shapes)
    (commands.Start n 1 1) (commands.User users.SymbolName name ∷ (shapes_commands None shapes ++ (commands.Finish ∷ []))) (rw fresh refl)
    (leads-step (inside_of (before_items symbols) n None [] None) (inside_of (before_items symbols) n (Some name) [] None) (ended (before_items symbols) n (Some name) shapes)
    (commands.User users.SymbolName name) (shapes_commands None shapes ++ (commands.Finish ∷ [])) refl
    (symbol-ends (before_items symbols) n (Some name) [] None shapes h))

-- a symbol of another number does not make a number defined
symbol_of-other : (m : ℕ) (symbols : List Symbol) (x : Symbol) → symbol_of m symbols ≡ None → (x.number == m) ≡ false
    → symbol_of m (symbols ++ (x ∷ [])) ≡ None
symbol_of-other m [] x fresh other = rw other refl
symbol_of-other m (s ∷ ss) x fresh other = passed (s.number == m) (λ h. symbol_of-other m ss x h other) fresh
  where
    passed : (b : Bool) → (symbol_of m ss ≡ None → symbol_of m (ss ++ (x ∷ [])) ≡ None)
        → (if b then Some s else symbol_of m ss) ≡ None → (if b then Some s else symbol_of m (ss ++ (x ∷ []))) ≡ None
    passed true more h = cc
    passed false more h = more h

-- no symbol of this number or a greater one is defined
abbrev Fresh : ℕ → List Symbol → Type 0
Fresh n symbols = (m : ℕ) → n ≤ m → symbol_of m symbols ≡ None

fresh-more : (n : ℕ) (symbols : List Symbol) (d : WrittenSymbol) → Fresh n symbols → Fresh (suc n) (symbols ++ (symbol_at n d ∷ []))
fresh-more n symbols d fresh = λ (m : ℕ) (above : suc n ≤ m).
    symbol_of-other m symbols (symbol_at n d) (fresh m (omega arith)) (grind (arith, nat_tests))

symbols-lead : (symbols : List Symbol) (n : ℕ) (ds : List WrittenSymbol) → AllByRecursion IsDrawn ds → Fresh n symbols
    → Leads (before_items symbols) (symbols_commands n ds) (before_items (symbols ++ symbols_from n ds))
symbols-lead symbols n [] h fresh =
    subst (λ (found : List Symbol). Leads (before_items symbols) [] (before_items found)) (sym (append-nil symbols)) (leads-none (before_items symbols))
symbols-lead symbols n (d ∷ ds) h fresh =
    subst (λ (found : List Symbol). Leads (before_items symbols) (symbols_commands n (d ∷ ds)) (before_items found))
    (append_assoc symbols (symbol_at n d ∷ []) (symbols_from (suc n) ds))
    (leads-both (before_items symbols) (before_items (symbols ++ (symbol_at n d ∷ [])))
    (before_items ((symbols ++ (symbol_at n d ∷ [])) ++ symbols_from (suc n) ds)) (symbol_commands n d) (symbols_commands (suc n) ds)
    (symbol-leads symbols n d.name d.shapes h.0.shapes (fresh n (omega arith)))
    (symbols-lead (symbols ++ (symbol_at n d ∷ [])) (suc n) ds h.1 (fresh-more n symbols d fresh)))

-- the turn of a written call
turning-is : (place : Place) (whole : IsWhole place) → scaled_turning 1 1 place.mirror 0 whole.across whole.up ≡ Some (turn_at place)
turning-is place whole = rw (scaled-one (doubled whole.across), scaled-one (doubled whole.up), whole.across_is, whole.up_is) refl

kind-is : (kind : Option (List ℕ)) → IsSome kind → kind ≡ Some (unwrap_or kind [])
kind-is None h = cc
kind-is (Some kind) h = refl

-- a call without a name, and one with a name that waits
lone-call : (symbols : List Symbol) (cells : List Cell) (shapes : List Shape) (layer : Option (List ℕ)) (n : ℕ) (place : Place) (h : IsCopy symbols None n place)
    → step (main symbols cells shapes layer None) (call_to n place)
    ≡ Ok (main symbols (cells ++ []) (shapes ++ copied_shapes place (symbol_of n symbols)) layer None)
unfolding step
lone-call symbols cells shapes layer n place h =
    ap (step (main symbols cells shapes layer None)) (call-whole n place h.whole)
    ∙ rw (h.found, turning-is place h.whole) refl
    ∙ ap (λ (o : Option Symbol). Ok (main symbols (cells ++ []) (shapes ++ copied_shapes place o) layer None)) (sym h.found)

named-call : (symbols : List Symbol) (cells : List Cell) (shapes : List Shape) (layer : Option (List ℕ)) (name : List ℕ) (n : ℕ) (place : Place)
    → (h : IsCopy symbols (Some name) n place)
    → step (main symbols cells shapes layer (Some name)) (call_to n place)
    ≡ Ok (main symbols (cells ++ cell_of (length shapes) name place (symbol_of n symbols)) (shapes ++ copied_shapes place (symbol_of n symbols)) layer None)
unfolding step
named-call symbols cells shapes layer name n place h =
    ap (step (main symbols cells shapes layer (Some name))) (call-whole n place h.whole)
    ∙ rw (h.found, turning-is place h.whole, kind-is h.symbol.name h.kind) refl
    ∙ ap (λ (o : Option Symbol). Ok (main symbols (cells ++ cell_of (length shapes) name place o) (shapes ++ copied_shapes place o) layer None)) (sym h.found)

-- a copy, behind its name
copy-leads : (symbols : List Symbol) (cells : List Cell) (shapes : List Shape) (layer name : Option (List ℕ)) (n : ℕ) (place : Place) → IsCopy symbols name n place
    → Leads (main symbols cells shapes layer None) (copy_commands name n place)
    (main symbols (cells ++ item_cells symbols (length shapes) (copy name n place)) (shapes ++ item_shapes symbols (copy name n place)) layer None)
unfolding step
copy-leads symbols cells shapes layer None n place h =
    leads-one (main symbols cells shapes layer None)
    (main symbols (cells ++ []) (shapes ++ copied_shapes place (symbol_of n symbols)) layer None)
    (call_to n place) (lone-call symbols cells shapes layer n place h)
copy-leads symbols cells shapes layer (Some name) n place h =
    leads-step (main symbols cells shapes layer None) (main symbols cells shapes layer (Some name))
    (main symbols (cells ++ cell_of (length shapes) name place (symbol_of n symbols)) (shapes ++ copied_shapes place (symbol_of n symbols)) layer None)
    (commands.User users.InstanceName name) (call_to n place ∷ []) (rw (append-nil shapes, append-nil cells) refl)
    (leads-one (main symbols cells shapes layer (Some name))
    (main symbols (cells ++ cell_of (length shapes) name place (symbol_of n symbols)) (shapes ++ copied_shapes place (symbol_of n symbols)) layer None)
    (call_to n place) (named-call symbols cells shapes layer name n place h))

-- a label changes the layer alone
label-leads : (symbols : List Symbol) (cells : List Cell) (shapes : List Shape) (layer : Option (List ℕ)) (name : List ℕ) (s : Shape)
    → Leads (main symbols cells shapes layer None) (label_commands layer name s) (main symbols (cells ++ []) (shapes ++ []) (Some s.layer) None)
unfolding step
label-leads symbols cells shapes layer name s =
    leads-both (main symbols cells shapes layer None) (main symbols cells shapes (Some s.layer) None) (main symbols (cells ++ []) (shapes ++ []) (Some s.layer) None)
    (change layer s.layer) (label_command name s ∷ [])
    (change-leads (λ (l : Option (List ℕ)). main symbols cells shapes l None) layer s.layer (λ (before : Option (List ℕ)). rw (append-nil shapes, append-nil cells) refl))
    (leads-one (main symbols cells shapes (Some s.layer) None) (main symbols (cells ++ []) (shapes ++ []) (Some s.layer) None) (label_command name s) refl)

-- from a state on, some commands give these cells and shapes
abbrev Means : ℕ → State → List CifCommand → List Cell → List Shape → Type 0
Means i s cs cells shapes = (run i s cs >>= λ t. Ok (layout_of t.main)) ≡ Ok (record { cells = cells; shapes = shapes })

-- an item, and then the others
onward : (symbols : List Symbol) (cells more_cells all_cells : List Cell) (shapes more_shapes all_shapes : List Shape) (layer behind : Option (List ℕ))
    → (i : ℕ) (xs ys : List CifCommand)
    → Leads (main symbols cells shapes layer None) xs (main symbols (cells ++ more_cells) (shapes ++ more_shapes) behind None)
    → ((j : ℕ) → Means j (main symbols (cells ++ more_cells) (shapes ++ more_shapes) behind None) (ys ++ (commands.End ∷ []))
    ((cells ++ more_cells) ++ all_cells) ((shapes ++ more_shapes) ++ all_shapes))
    → Means i (main symbols cells shapes layer None) ((xs ++ ys) ++ (commands.End ∷ [])) (cells ++ (more_cells ++ all_cells)) (shapes ++ (more_shapes ++ all_shapes))
onward symbols cells more_cells all_cells shapes more_shapes all_shapes layer behind i xs ys led others =
    let here = led i (ys ++ (commands.End ∷ [])) in
    ap (λ (cs : List CifCommand). run i (main symbols cells shapes layer None) cs >>= λ t. Ok (layout_of t.main)) (append_assoc xs ys (commands.End ∷ []))
    ∙ ap (λ (r : Result State (Unmeant × ℕ)). r >>= λ t. Ok (layout_of t.main)) here.1
    ∙ others here.0
    ∙ ap (λ (x : List Cell). Ok (record { cells = x; shapes = (shapes ++ more_shapes) ++ all_shapes })) (append_assoc cells more_cells all_cells)
    ∙ ap (λ (x : List Shape). Ok (record { cells = cells ++ (more_cells ++ all_cells); shapes = x })) (append_assoc shapes more_shapes all_shapes)

items-mean : (symbols : List Symbol) (cells : List Cell) (shapes : List Shape) (layer : Option (List ℕ)) (is : List MainItem) (i : ℕ) → AllByRecursion (IsItem symbols) is
    → Means i (main symbols cells shapes layer None) (items_commands layer is ++ (commands.End ∷ []))
    (cells ++ items_cells symbols (length shapes) is) (shapes ++ items_shapes symbols is)
unfolding run step
items-mean symbols cells shapes layer [] i h = rw (append-nil cells, append-nil shapes) refl
items-mean symbols cells shapes layer (alone s ∷ is) i h =
    subst (λ (k : ℕ). Means i (main symbols cells shapes layer None) (items_commands layer (alone s ∷ is) ++ (commands.End ∷ []))
    (cells ++ items_cells symbols k is) (shapes ++ (s ∷ items_shapes symbols is)))
    (length-append shapes (s ∷ []))
    (onward symbols cells [] (items_cells symbols (length (shapes ++ (s ∷ []))) is) shapes (s ∷ []) (items_shapes symbols is) layer (Some s.layer) i
    (shape_commands layer s) (items_commands (Some s.layer) is)
    (subst (λ (found : List Cell). Leads (main symbols cells shapes layer None) (shape_commands layer s) (main symbols found (shapes ++ (s ∷ [])) (Some s.layer) None))
    (sym (append-nil cells)) (shape-outside symbols cells shapes layer s h.0))
    (λ (j : ℕ). items-mean symbols (cells ++ []) (shapes ++ (s ∷ [])) (Some s.layer) is j h.1))
items-mean symbols cells shapes layer (copy name n place ∷ is) i h =
    let its_cells = item_cells symbols (length shapes) (copy name n place) in
    let its_shapes = item_shapes symbols (copy name n place) in
    subst (λ (k : ℕ). Means i (main symbols cells shapes layer None) (items_commands layer (copy name n place ∷ is) ++ (commands.End ∷ []))
    (cells ++ (its_cells ++ items_cells symbols k is)) (shapes ++ (its_shapes ++ items_shapes symbols is)))
    (length-append shapes its_shapes)
    (onward symbols cells its_cells (items_cells symbols (length (shapes ++ its_shapes)) is) shapes its_shapes (items_shapes symbols is) layer layer i
    (copy_commands name n place) (items_commands layer is)
    (copy-leads symbols cells shapes layer name n place h.0)
    (λ (j : ℕ). items-mean symbols (cells ++ its_cells) (shapes ++ its_shapes) layer is j h.1))
items-mean symbols cells shapes layer (label name s ∷ is) i h =
    subst (λ (k : ℕ). Means i (main symbols cells shapes layer None) (items_commands layer (label name s ∷ is) ++ (commands.End ∷ []))
    (cells ++ items_cells symbols k is) (shapes ++ items_shapes symbols is))
    (length-append shapes [])
    (onward symbols cells [] (items_cells symbols (length (shapes ++ [])) is) shapes [] (items_shapes symbols is) layer (Some s.layer) i
    (label_commands layer name s) (items_commands (Some s.layer) is)
    (label-leads symbols cells shapes layer name s)
    (λ (j : ℕ). items-mean symbols (cells ++ []) (shapes ++ []) (Some s.layer) is j h.1))

-- what is written means the layout that was written
pub written-means : (ds : List WrittenSymbol) (is : List MainItem) → IsWritable ds is → meaning (layout_commands ds is) ≡ Ok (written_layout ds is)
unfolding meaning run step
written-means ds is h =
    let led = symbols-lead [] 1 ds h.symbols (λ (m : ℕ) (above : 1 ≤ m). refl) 1 (items_commands None is ++ (commands.End ∷ [])) in
    ap (λ (r : Result State (Unmeant × ℕ)). r >>= λ t. Ok (layout_of t.main)) led.1 ∙ items-mean (symbols_from 1 ds) [] [] None is led.0 h.items
