use Rattle.std.proofs.Common.{◌≡◌, refl, ap, sym, ◌∙◌, ℕ, ◌+◌, ◌≤◌, subst, ℤ, List, [], ◌∷◌, ◌++◌, length, Bool, true, false, Option, Some, None, Result, Ok, Err, arith}
use Rattle.std.proofs.lemmas.Bool.Decides.{nat_tests}
use Rattle.std.specs.Prelude.{map, nat_lt, max}
use Rattle.geom_core.specs.declared.layout.Shape.{Shape}
use Rattle.geom_core.specs.declared.layout.Cell.{Cell}
use Rattle.geom_core.specs.declared.corner.Corner.{Corner}
use Rattle.geom_core.specs.Extent.{Extent}
use Rattle.region_cut.specs.Maximal.{maximal}
use Rattle.geom_core.specs.Turning.{Turning}
use Rattle.cif_text.specs.declared.command.CifCommand.{CifCommand}
use Rattle.cif_text.specs.declared.command.CifCommand.TheVariants as commands
use Rattle.read_base.specs.Steps.{◌>>=◌}
use Rattle.cif_text.specs.Scales.{box_around, scaled_extent, scaled_extents, wire_around, scaled_turning, doubled_corner, scaled_corners}
use Rattle.cif_text.specs.Symbols.{Symbol, Level, Definition, State, symbol_of, moved_shapes}
use Rattle.cif_text.specs.Meaning.{Unmeant, undefined, inexact, no_symbol_name, found, on_layer, drawn_by, definition_with, cells_by, main_with, step, with_main, with_inside, started, finished, opened}
use Rattle.cif_reader.specs.declared.fault.ExpandKind.{ExpandKind}
use Rattle.cif_reader.specs.declared.fault.ExpandKind.TheVariants as kinds
use Rattle.cif_reader.specs.declared.calls.CalledSymbol.{CalledSymbol}
use Rattle.cif_reader.specs.declared.level.Given.TheVariants as givens
use Rattle.cif_reader.specs.Sides.{AreProper, IsNearTurn}
use Rattle.cif_reader.specs.Standing.{IsGiven}
use Rattle.cif_reader.specs.Table.{symbol_at}
use Rattle.cif_reader.specs.Tabled.{Tabled, IsPlaceOf}
use Rattle.cif_reader.specs.Limits.{most_shapes, first_far, sides_of_all, box_numbers, wire_numbers, coordinates_of_path, path_numbers, blocks_of, long_path, long_by, either_limit, call_numbers, numbers_of, called_shapes, shapes_given, limit_passed, far_or_many, more_than_most}
use Rattle.cif_reader.specs.Expansion.{Progress, unless_refused, within, depth_by, advance}
use Rattle.cif_reader.proofs.RectLaws.{scaled-count}
use Rattle.cif_reader.specs.Levels.{is_drawing, boxed, wired, cut_in, layered_all, call_of, far_call, given, named, definition_given, main_given}

-- a level that has not too many shapes gets no more
none-passed : (symbols : List Symbol) (l : Level) (c : CifCommand) → numbers_of symbols l c ≡ [] → shapes_given symbols l c ≡ 0 → long_by c ≡ None
    → length l.shapes ≤ most_shapes → limit_passed symbols l c ≡ None
none-passed symbols l c no_numbers no_shapes no_path few =
    let no_more : nat_lt most_shapes (length l.shapes + 0) ≡ false = grind (arith, nat_tests) in
    rw (no_numbers, no_shapes, no_path, no_more) refl

pub given-none : (symbols : List Symbol) (l : Level) (c : CifCommand) → numbers_of symbols l c ≡ [] → shapes_given symbols l c ≡ 0 → long_by c ≡ None
    → drawn_by symbols l c ≡ Ok [] → length l.shapes ≤ most_shapes → given symbols l c ≡ Ok []
unfolding given
given-none symbols l c no_numbers no_shapes no_path none few = rw (none-passed symbols l c no_numbers no_shapes no_path few, none) refl

-- what is refused gives nothing more
unless-next : {A B : Type 0} (limit : Option ExpandKind) (a : A) (f : A → B) → unless_refused limit (Ok (f a)) ≡ (unless_refused limit (Ok a) >>= λ x. Ok (f x))
unless-next (Some kind) a f = refl
unless-next None a f = refl

box-by : (rect : Option Extent) (layer : Option (List ℕ)) (before : ℕ)
    → within (far_or_many (first_far (box_numbers rect)) (more_than_most before 1)) (found inexact rect >>= λ e. on_layer layer (e ∷ []))
    ≡ (boxed layer before rect >>= λ shape. Ok (shape ∷ []))
unfolding boxed
box-by None layer before = refl
box-by (Some e) (Some name) before =
    unless-next (far_or_many (first_far (box_numbers (Some e))) (more_than_most before 1)) (record { layer = name; rect = e }) (λ (shape : Shape). shape ∷ [])
box-by (Some e) None before = by (far_or_many (first_far (box_numbers (Some e))) (more_than_most before 1))
  where
    by : (limit : Option ExpandKind) → within limit (on_layer None (e ∷ [])) ≡ (unless_refused limit (Err kinds.NoLayer) >>= λ (shape : Shape). Ok (shape ∷ []))
    by (Some kind) = refl
    by None = refl

-- a box gives its shape
pub box-given : (symbols : List Symbol) (l : Level) (long wide cx cy : ℤ) (upright : Bool) → given symbols l (commands.Box long wide cx cy upright)
    ≡ (boxed l.layer (length l.shapes) (scaled_extent l.a l.b (box_around long wide cx cy upright)) >>= λ shape. Ok (shape ∷ []))
unfolding given
box-given symbols l long wide cx cy upright = box-by (scaled_extent l.a l.b (box_around long wide cx cy upright)) l.layer (length l.shapes)

layer-by : (rs : List Extent) (layer : Option (List ℕ)) (limit : Option ExpandKind) → within limit (on_layer layer rs) ≡ unless_refused limit (layered_all layer rs)
layer-by rs None None = refl
layer-by rs None (Some kind) = refl
layer-by rs (Some name) limit = refl

-- a wire gives the shapes of its steps
wire-by : (rects : Option (List Extent)) (layer : Option (List ℕ)) (before count : ℕ) → ((rs : List Extent) → rects ≡ Some rs → length rs ≡ count)
    → within (far_or_many (first_far (wire_numbers rects)) (more_than_most before count)) (found inexact rects >>= λ rs. on_layer layer rs)
    ≡ wired layer before rects
unfolding wired
wire-by None layer before count same = refl
wire-by (Some rs) layer before count same = subst (λ (n : ℕ). within (far_or_many (first_far (sides_of_all rs)) (more_than_most before n)) (on_layer layer rs)
    ≡ wired layer before (Some rs)) (same rs refl) (layer-by rs layer (far_or_many (first_far (sides_of_all rs)) (more_than_most before (length rs))))

pub wire-given : (symbols : List Symbol) (l : Level) (width : ℤ) (path : List Corner)
    → given symbols l (commands.Wire width path) ≡ wired l.layer (length l.shapes) (scaled_extents l.a l.b (wire_around width path))
unfolding given
wire-given symbols l width path =
    wire-by (scaled_extents l.a l.b (wire_around width path)) l.layer (length l.shapes) (length (wire_around width path))
    (scaled-count l.a l.b (wire_around width path))

-- a polygon gives the shapes of its maximal blocks
polygon-by : (path : Option (List Corner)) (layer : Option (List ℕ)) (before : ℕ) (long : Option ExpandKind)
    → within (far_or_many (first_far (path_numbers path)) (either_limit long (more_than_most before (blocks_of path))))
    (found inexact path >>= λ cs. on_layer layer (maximal cs))
    ≡ cut_in layer before long path
unfolding cut_in
polygon-by None layer before long = refl
polygon-by (Some cs) layer before long =
    layer-by (maximal cs) layer (far_or_many (first_far (coordinates_of_path cs)) (either_limit long (more_than_most before (length (maximal cs)))))

pub polygon-given : (symbols : List Symbol) (l : Level) (path : List Corner)
    → given symbols l (commands.Polygon path)
    ≡ cut_in l.layer (length l.shapes) (long_path (length path)) (scaled_corners l.a l.b (map doubled_corner path))
unfolding given
polygon-given symbols l path = polygon-by (scaled_corners l.a l.b (map doubled_corner path)) l.layer (length l.shapes) (long_path (length path))

call-by : (n : ℕ) (symbol : Option Symbol) (turn : Option Turning) (before : ℕ)
    → within (far_or_many (first_far (call_numbers symbol turn)) (more_than_most before (called_shapes symbol)))
    (found (undefined n) symbol >>= λ s. found inexact turn >>= λ t. Ok (moved_shapes t s.shapes))
    ≡ (call_of n before symbol turn >>= λ call. Ok (moved_shapes call.1 call.0.shapes))
unfolding call_of
call-by n None turn before = refl
call-by n (Some symbol) None before = refl
call-by n (Some symbol) (Some turn) before =
    unless-next (far_or_many (first_far (call_numbers (Some symbol) (Some turn))) (more_than_most before (length symbol.shapes))) (symbol, turn)
    (λ (call : Symbol × Turning). moved_shapes call.1 call.0.shapes)

-- a call gives the shapes of its symbol
pub call-given : (symbols : List Symbol) (l : Level) (n : ℕ) (flip : Bool) (quarters : ℕ) (dx dy : ℤ) → given symbols l (commands.Call n flip quarters dx dy)
    ≡ (call_of n (length l.shapes) (symbol_of n symbols) (scaled_turning l.a l.b flip quarters dx dy) >>= λ call. Ok (moved_shapes call.1 call.0.shapes))
unfolding given
call-given symbols l n flip quarters dx dy = call-by n (symbol_of n symbols) (scaled_turning l.a l.b flip quarters dx dy) (length l.shapes)

-- the same of a command that is one of these, as a program tells it
pub box-gives : (symbols : List Symbol) (l : Level) (c : CifCommand) (long wide cx cy : ℤ) (upright : Bool) (sides : Option Extent) (before : ℕ) (r : Result Shape ExpandKind)
    → c ≡ commands.Box long wide cx cy upright → sides ≡ scaled_extent l.a l.b (box_around long wide cx cy upright) → length l.shapes ≡ before
    → r ≡ boxed l.layer before sides → given symbols l c ≡ (r >>= λ shape. Ok (shape ∷ []))
box-gives symbols l c long wide cx cy upright sides before r is sides_are count r_is =
    rw (is, r_is, sides_are, sym count) (box-given symbols l long wide cx cy upright)

pub wire-gives : (symbols : List Symbol) (l : Level) (c : CifCommand) (width : ℤ) (path : List Corner) (before : ℕ) → c ≡ commands.Wire width path
    → length l.shapes ≡ before → given symbols l c ≡ wired l.layer before (scaled_extents l.a l.b (wire_around width path))
wire-gives symbols l c width path before is count = rw (is, sym count) (wire-given symbols l width path)

pub several-given : (t : Tabled) (l : Level) (c : CifCommand) (width : ℤ) (path : List Corner) (shapes : List Shape) → c ≡ commands.Wire width path
    → AreProper shapes → IsGiven t l c (givens.Several shapes)
several-given t l c width path shapes is proper = rw is (record { depth = refl; cells = λ waiting. refl; sound = proper })

pub polygon-gives : (symbols : List Symbol) (l : Level) (c : CifCommand) (path : List Corner) (before : ℕ) → c ≡ commands.Polygon path
    → length l.shapes ≡ before
    → given symbols l c ≡ cut_in l.layer before (long_path (length path)) (scaled_corners l.a l.b (map doubled_corner path))
polygon-gives symbols l c path before is count = rw (is, sym count) (polygon-given symbols l path)

pub blocks-given : (t : Tabled) (l : Level) (c : CifCommand) (path : List Corner) (shapes : List Shape) → c ≡ commands.Polygon path
    → AreProper shapes → IsGiven t l c (givens.Several shapes)
blocks-given t l c path shapes is proper = rw is (record { depth = refl; cells = λ waiting. refl; sound = proper })

pub call-gives : (symbols : List Symbol) (l : Level) (c : CifCommand) (n : ℕ) (flip : Bool) (quarters : ℕ) (dx dy : ℤ) (turn : Option Turning) (before : ℕ)
    → c ≡ commands.Call n flip quarters dx dy → turn ≡ scaled_turning l.a l.b flip quarters dx dy → length l.shapes ≡ before
    → given symbols l c ≡ (call_of n before (symbol_of n symbols) turn >>= λ call. Ok (moved_shapes call.1 call.0.shapes))
call-gives symbols l c n flip quarters dx dy turn before is turn_is count =
    rw (is, turn_is, sym count) (call-given symbols l n flip quarters dx dy)

pub none-gives : (symbols : List Symbol) (l : Level) (c : CifCommand) → ((long wide cx cy : ℤ) (upright : Bool) → c ≡ commands.Box long wide cx cy upright → ⊥)
    → ((n : ℕ) (flip : Bool) (quarters : ℕ) (dx dy : ℤ) → c ≡ commands.Call n flip quarters dx dy → ⊥)
    → ((width : ℤ) (path : List Corner) → c ≡ commands.Wire width path → ⊥)
    → ((path : List Corner) → c ≡ commands.Polygon path → ⊥) → length l.shapes ≤ most_shapes → given symbols l c ≡ Ok []
none-gives symbols l (commands.Box long wide cx cy upright) no_box no_call no_wire no_polygon few = absurd (no_box long wide cx cy upright refl)
none-gives symbols l (commands.Call n flip quarters dx dy) no_box no_call no_wire no_polygon few = absurd (no_call n flip quarters dx dy refl)
none-gives symbols l (commands.Wire width path) no_box no_call no_wire no_polygon few = absurd (no_wire width path refl)
none-gives symbols l (commands.Polygon path) no_box no_call no_wire no_polygon few = absurd (no_polygon path refl)
none-gives symbols l c no_box no_call no_wire no_polygon few = given-none symbols l c refl refl refl refl few

-- what is given, where a call is
call-turn : (n before : ℕ) (there : Option Symbol) (turn : Option Turning) (call : Symbol × Turning) → call_of n before there turn ≡ Ok call → turn ≡ Some call.1
unfolding call_of
call-turn n before None turn call is = cc
call-turn n before (Some symbol) None call is = cc
call-turn n before (Some symbol) (Some turn) call is =
    by (far_or_many (far_call turn symbol.shapes) (more_than_most before (length symbol.shapes))) is
  where
    by : (limit : Option ExpandKind) → unless_refused limit (Ok (symbol, turn)) ≡ Ok call → Some turn ≡ Some call.1
    by (Some kind) is = cc
    by None is = let whole : (symbol, turn) ≡ call = cc is in ap (λ (c : Symbol × Turning). Some c.1) whole

pub copied-given : (t : Tabled) (l : Level) (c : CifCommand) (n : ℕ) (flip : Bool) (quarters : ℕ) (dx dy : ℤ) (turn : Option Turning) (before : ℕ) (call : CalledSymbol)
    → c ≡ commands.Call n flip quarters dx dy → turn ≡ scaled_turning l.a l.b flip quarters dx dy
    → call_of n before (symbol_of n t.symbols) turn ≡ Ok (symbol_at t.symbols call.symbol.place, call.turn)
    → call.symbol.table.now ≡ t → IsPlaceOf n t call.symbol.place → IsNearTurn call.turn → IsGiven t l c (givens.Copied call)
copied-given t l c n flip quarters dx dy turn before call is turn_is given same at near =
    let turned : scaled_turning l.a l.b flip quarters dx dy ≡ Some call.turn =
    sym turn_is ∙ call-turn n before (symbol_of n t.symbols) turn (symbol_at t.symbols call.symbol.place, call.turn) given in
    rw is (record {
      depth = rw (same, at.depth) refl;
      cells = λ waiting. rw (same, at.symbol, turned) refl;
      sound = (same, near);
    })

pub none-given : (t : Tabled) (l : Level) (c : CifCommand) → ((long wide cx cy : ℤ) (upright : Bool) → c ≡ commands.Box long wide cx cy upright → ⊥)
    → ((n : ℕ) (flip : Bool) (quarters : ℕ) (dx dy : ℤ) → c ≡ commands.Call n flip quarters dx dy → ⊥)
    → ((width : ℤ) (path : List Corner) → c ≡ commands.Wire width path → ⊥)
    → ((path : List Corner) → c ≡ commands.Polygon path → ⊥) → IsGiven t l c givens.Nothing
none-given t l (commands.Box long wide cx cy upright) no_box no_call no_wire no_polygon = absurd (no_box long wide cx cy upright refl)
none-given t l (commands.Call n flip quarters dx dy) no_box no_call no_wire no_polygon = absurd (no_call n flip quarters dx dy refl)
none-given t l (commands.Wire width path) no_box no_call no_wire no_polygon = absurd (no_wire width path refl)
none-given t l (commands.Polygon path) no_box no_call no_wire no_polygon = absurd (no_polygon path refl)
none-given t l c no_box no_call no_wire no_polygon = record { depth = refl; cells = λ waiting. refl; sound = tt }

abbrev with_depth : {A : Type 0} → A → ℕ → Result (A × ℕ) ExpandKind
with_depth a depth = Ok (a, depth)

-- what a command gives a level, and then what the level is
inside-next : {A B S P : Type 0} (limit : Option ExpandKind) (drawn : Result A Unmeant) (depth : Result ℕ ExpandKind) (f : A → B) (g : B → S) (h : S → ℕ → P)
    → (within limit ((drawn >>= λ a. Ok (f a)) >>= λ b. Ok (g b)) >>= λ t. depth >>= λ d. Ok (h t d))
    ≡ ((within limit drawn >>= λ a. depth >>= λ d. with_depth (f a) d) >>= λ r. Ok (h (g r.0) r.1))
inside-next limit (Err fault) depth f g h = refl
inside-next (Some kind) (Ok a) depth f g h = refl
inside-next None (Ok a) (Err kind) f g h = refl
inside-next None (Ok a) (Ok d) f g h = refl

outside-next : {A B S P : Type 0} (limit : Option ExpandKind) (drawn : Result A Unmeant) (cells : Option (List Cell)) (depth : Result ℕ ExpandKind)
    → (f : A → List Cell → B) (g : B → S) (h : S → ℕ → P)
    → (within limit ((drawn >>= λ a. found no_symbol_name cells >>= λ c. Ok (f a c)) >>= λ b. Ok (g b)) >>= λ t. depth >>= λ d. Ok (h t d))
    ≡ ((within limit drawn >>= λ a. named cells >>= λ c. depth >>= λ d. with_depth (f a c) d) >>= λ r. Ok (h (g r.0) r.1))
outside-next limit (Err fault) cells depth f g h = refl
outside-next (Some kind) (Ok a) None depth f g h = refl
outside-next (Some kind) (Ok a) (Some c) depth f g h = refl
outside-next None (Ok a) None depth f g h = refl
outside-next None (Ok a) (Some c) (Err kind) f g h = refl
outside-next None (Ok a) (Some c) (Ok d) f g h = refl

-- a level with its symbols, its depths and its depth
abbrev pub progress_at : State → List ℕ → ℕ → Progress
progress_at s depths depth = record { state = s; depths = depths; depth = depth }

-- a command inside a definition
pub advance-inside : (s : State) (depths : List ℕ) (depth : ℕ) (d : Definition) (c : CifCommand) → is_drawing c ≡ true
    → advance (progress_at (with_inside s d) depths depth) c
    ≡ (definition_given s.symbols depths d c >>= λ r. Ok (progress_at (with_inside s r.0) depths (max depth r.1)))
unfolding advance step given
advance-inside s depths depth d (commands.Start n a b) drawing = cc
advance-inside s depths depth d commands.Finish drawing = cc
advance-inside s depths depth d c drawing =
    inside-next (limit_passed s.symbols d.level c) (drawn_by s.symbols d.level c) (depth_by s.symbols depths c) (definition_with d c) (with_inside s)
    (λ t more. progress_at t depths (max depth more))

abbrev pub outside : State → State
outside s = record s { inside = None }

-- a command of the main level
pub advance-outside : (s : State) (depths : List ℕ) (depth : ℕ) (c : CifCommand) → is_drawing c ≡ true
    → advance (progress_at (outside s) depths depth) c
    ≡ (main_given s.symbols depths s.main c >>= λ r. Ok (progress_at (outside (with_main s r.0)) depths (max depth r.1)))
unfolding advance step given
advance-outside s depths depth (commands.Start n a b) drawing = cc
advance-outside s depths depth commands.Finish drawing = cc
advance-outside s depths depth c drawing =
    outside-next (limit_passed s.symbols s.main.level c) (drawn_by s.symbols s.main.level c) (cells_by s.symbols s.main.level s.main.waiting c)
    (depth_by s.symbols depths c) (main_with s.main c) (λ m. outside (with_main s m)) (λ t more. progress_at t depths (max depth more))

-- the start and the end of a definition
abbrev pub behind_start : State → List ℕ → ℕ → ℕ → ℕ → Option Symbol → Result Progress ExpandKind
behind_start s depths n a b (Some symbol) = Err (kinds.Twice n)
behind_start s depths n a b None = Ok (progress_at (record s { main = record s.main { waiting = None }; inside = Some (opened n a b) }) depths 1)

pub advance-start : (s : State) (depths : List ℕ) (depth n a b : ℕ) → length s.main.level.shapes ≤ most_shapes
    → advance (progress_at (outside s) depths depth) (commands.Start n a b) ≡ behind_start s depths n a b (symbol_of n s.symbols)
unfolding advance step
advance-start s depths depth n a b few = by (symbol_of n s.symbols)
  where
    by : (there : Option Symbol)
        → (within (limit_passed s.symbols s.main.level (commands.Start n a b)) (started (outside s) n a b there) >>= λ t. Ok (progress_at t depths 1))
        ≡ behind_start s depths n a b there
    by (Some symbol) = refl
    by None = rw (none-passed s.symbols s.main.level (commands.Start n a b) refl refl refl few) refl

pub advance-finish : (s : State) (depths : List ℕ) (depth : ℕ) (d : Definition) → length d.level.shapes ≤ most_shapes
    → advance (progress_at (with_inside s d) depths depth) commands.Finish ≡ Ok (progress_at (finished s d) (depths ++ (depth ∷ [])) depth)
unfolding advance step
advance-finish s depths depth d few = rw (none-passed s.symbols d.level commands.Finish refl refl refl few) refl
