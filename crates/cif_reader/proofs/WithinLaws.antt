use Rattle.cif_text.specs.declared.command.CifCommand.TheVariants as commands
use Rattle.cif_reader.specs.Levels as levels
use Rattle.std.proofs.Common.{◌≡◌, refl, ap, sym, subst, ◌∙◌, ℕ, suc, ◌+◌, ◌≤◌, ℤ, List, [], ◌∷◌, ◌++◌, length, length-append, Bool, true, false, Option, Some, None, Result, Ok, Err, arith}
use Rattle.std.proofs.lemmas.Bool.Decides.{nat_tests}
use Rattle.std.proofs.lemmas.List.{length-map}
use Rattle.std.specs.List.{AllByRecursion}
use Rattle.std.specs.Prelude.{if◌then◌else◌, map, nat_lt, nat_abs, option_map}
use Rattle.geom_core.specs.declared.layout.Shape.{Shape}
use Rattle.geom_core.specs.declared.layout.Cell.{Cell}
use Rattle.geom_core.specs.declared.layout.Layout.{Layout}
use Rattle.geom_core.specs.declared.corner.Corner.{Corner}
use Rattle.geom_core.specs.Extent.{Extent}
use Rattle.region_cut.specs.Maximal.{maximal}
use Rattle.geom_core.specs.Moving.{moved_shape}
use Rattle.geom_core.specs.Turning.{Turning}
use Rattle.cif_text.specs.declared.command.CifCommand.{CifCommand}
use Rattle.read_base.specs.Steps.{◌>>=◌}
use Rattle.cif_text.specs.Scales.{scaled, doubled, box_around, scaled_extent, scaled_extents, wire_around, doubled_corner, scaled_corners, turning_of, scaled_turning}
use Rattle.cif_text.specs.Sound.{IsSound, AreSound}
use Rattle.cif_text.specs.Symbols.{Symbol, Level, Definition, Main, State, symbol_of, moved_shapes}
use Rattle.cif_text.specs.Meaning.{Unmeant, undefined, inexact, no_symbol_name, found, on_layer, drawn_by, cells_of, cells_by, main_with, main_behind, definition_behind, opened, started, finished, with_main, with_inside, step, step_in, layout_of}
use Rattle.cif_text.proofs.BodyLaws.{given}
use Rattle.cif_reader.specs.declared.fault.ExpandKind.{ExpandKind}
use Rattle.cif_reader.specs.Limits.{farthest, most_shapes, first_far, coordinates_of, sides_of_all, box_numbers, wire_numbers, path_numbers, blocks_of, long_by, either_limit, call_numbers, numbers_of, called_shapes, shapes_given, more_than_most, far_or_many, limit_passed}
use Rattle.cif_reader.specs.Expansion.{Progress, present_level, within, depth_by, progress_to, advance, refused_at, progress, at_first, expansion}
use Rattle.cif_reader.specs.Within.{IsNotFar, IsShapeWithin, IsCellWithin, IsLayoutWithin}
use Rattle.cif_reader.proofs.AgreementLaws.{progress-state}
use Rattle.cif_reader.proofs.RectLaws.{scaled-count}
use Rattle.cif_reader.proofs.PolygonLaws.{near-blocks}
use Rattle.std_laws.proofs.Every.{every-append, every-weaker}

-- numbers of which none is far
pub near-first : (z : ℤ) (zs : List ℤ) → first_far (z ∷ zs) ≡ None → IsNotFar z × (first_far zs ≡ None)
near-first z zs none = by (nat_lt farthest (nat_abs z)) refl none
  where
    by : (b : Bool) → nat_lt farthest (nat_abs z) ≡ b → (if b then Some z else first_far zs) ≡ None → IsNotFar z × (first_far zs ≡ None)
    by true test none = cc
    by false test none = (grind (arith, nat_tests), none)

pub near-shape : (layer : List ℕ) (e : Extent) (zs : List ℤ) → first_far (e.x0 ∷ e.y0 ∷ e.x1 ∷ e.y1 ∷ zs) ≡ None
    → IsShapeWithin (record { layer = layer; rect = e }) × (first_far zs ≡ None)
near-shape layer e zs none =
    let a = near-first e.x0 (e.y0 ∷ e.x1 ∷ e.y1 ∷ zs) none in
    let b = near-first e.y0 (e.x1 ∷ e.y1 ∷ zs) a.1 in
    let c = near-first e.x1 (e.y1 ∷ zs) b.1 in
    let d = near-first e.y1 zs c.1 in
    (record { x0 = a.0; y0 = b.0; x1 = c.0; y1 = d.0 }, d.1)

pub near-shapes : (ss : List Shape) → first_far (coordinates_of ss) ≡ None → AllByRecursion IsShapeWithin ss
near-shapes [] none = tt
near-shapes (s ∷ ss) none = let first = near-shape s.layer s.rect (coordinates_of ss) none in (first.0, near-shapes ss first.1)

-- no limit is passed
pub far-none : (far : Option ℤ) (many : Option ExpandKind) → far_or_many far many ≡ None → (far ≡ None) × (many ≡ None)
far-none (Some z) many none = cc
far-none None many none = (refl, none)

either-none : (long many : Option ExpandKind) → either_limit long many ≡ None → many ≡ None
either-none (Some kind) many none = cc
either-none None many none = none

pub few-none : (b : Bool) (kind : ExpandKind) → (if b then Some kind else None) ≡ None → b ≡ false
few-none true kind none = cc
few-none false kind none = refl

pub few-given : (before given : ℕ) → more_than_most before given ≡ None → before + given ≤ most_shapes
few-given before given none =
    let few : nat_lt most_shapes (before + given) ≡ false = few-none (nat_lt most_shapes (before + given)) _ none in grind (arith, nat_tests)

-- shapes within the limits, for a level that has so many before them
pub record Fit (before : ℕ) (shapes : List Shape) : Type 0 where
  pub near : AllByRecursion IsShapeWithin shapes
  pub few : before + length shapes ≤ most_shapes

fit-box : (rect : Option Extent) (layer : Option (List ℕ)) (before : ℕ) (shapes : List Shape) → first_far (box_numbers rect) ≡ None → before + 1 ≤ most_shapes
    → (found inexact rect >>= λ e. on_layer layer (e ∷ [])) ≡ Ok shapes → Fit before shapes
fit-box None layer before shapes none few is = cc
fit-box (Some e) None before shapes none few is = cc
fit-box (Some e) (Some name) before shapes none few is =
    let whole : record { layer = name; rect = e } ∷ [] ≡ shapes = cc is in
    subst (Fit before) whole (record { near = ((near-shape name e [] none).0, tt); few = few })

near-rects : (layer : List ℕ) (rs : List Extent) → first_far (sides_of_all rs) ≡ None
    → AllByRecursion IsShapeWithin (map (λ rect. record { layer = layer; rect = rect }) rs)
near-rects layer [] none = tt
near-rects layer (r ∷ rs) none = let first = near-shape layer r (sides_of_all rs) none in (first.0, near-rects layer rs first.1)

fit-wire : (rects : Option (List Extent)) (layer : Option (List ℕ)) (before count : ℕ) (shapes : List Shape) → ((rs : List Extent) → rects ≡ Some rs → length rs ≡ count)
    → first_far (wire_numbers rects) ≡ None → before + count ≤ most_shapes → (found inexact rects >>= λ rs. on_layer layer rs) ≡ Ok shapes → Fit before shapes
fit-wire None layer before count shapes same none few is = cc
fit-wire (Some rs) None before count shapes same none few is = cc
fit-wire (Some rs) (Some name) before count shapes same none few is =
    let shaped : Extent → Shape = λ rect. record { layer = name; rect = rect } in
    let whole : map shaped rs ≡ shapes = cc is in
    let all : length (map shaped rs) ≡ count = length-map rs shaped ∙ same rs refl in
    subst (Fit before) whole (record { near = near-rects name rs none; few = rw all few })

fit-polygon : (path : Option (List Corner)) (layer : Option (List ℕ)) (before : ℕ) (shapes : List Shape) → first_far (path_numbers path) ≡ None
    → before + blocks_of path ≤ most_shapes → (found inexact path >>= λ cs. on_layer layer (maximal cs)) ≡ Ok shapes → Fit before shapes
fit-polygon None layer before shapes none few is = cc
fit-polygon (Some cs) None before shapes none few is = cc
fit-polygon (Some cs) (Some name) before shapes none few is =
    let shaped : Extent → Shape = λ rect. record { layer = name; rect = rect } in
    let whole : map shaped (maximal cs) ≡ shapes = cc is in
    let all : length (map shaped (maximal cs)) ≡ length (maximal cs) = length-map (maximal cs) shaped in
    subst (Fit before) whole (record { near = near-blocks name cs none; few = rw all few })

fit-call : (n : ℕ) (there : Option Symbol) (turning : Option Turning) (before : ℕ) (shapes : List Shape) → first_far (call_numbers there turning) ≡ None
    → before + called_shapes there ≤ most_shapes
    → (found (undefined n) there >>= λ s. found inexact turning >>= λ t. Ok (moved_shapes t s.shapes)) ≡ Ok shapes → Fit before shapes
fit-call n None turning before shapes none few is = cc
fit-call n (Some symbol) None before shapes none few is = cc
fit-call n (Some symbol) (Some turn) before shapes none few is =
    let whole : moved_shapes turn symbol.shapes ≡ shapes = cc is in
    let across = near-first turn.dx (turn.dy ∷ coordinates_of (moved_shapes turn symbol.shapes)) none in
    let up = near-first turn.dy (coordinates_of (moved_shapes turn symbol.shapes)) across.1 in
    subst (Fit before) whole (record { near = near-shapes (moved_shapes turn symbol.shapes) up.1; few = rw (length-map symbol.shapes (moved_shape turn)) few })

fit-none : (before : ℕ) (shapes : List Shape) → before + 0 ≤ most_shapes → [] ≡ shapes → Fit before shapes
fit-none before shapes few none = subst (Fit before) none (record { near = tt; few = few })

-- what a command draws that passes no limit
pub drawn-fit : (symbols : List Symbol) (l : Level) (c : CifCommand) (shapes : List Shape) → limit_passed symbols l c ≡ None → drawn_by symbols l c ≡ Ok shapes
    → Fit (length l.shapes) shapes
drawn-fit symbols l c shapes none is =
    let parts = far-none (first_far (numbers_of symbols l c)) (either_limit (long_by c) (more_than_most (length l.shapes) (shapes_given symbols l c))) none in
    by c parts.0 (few-given (length l.shapes) (shapes_given symbols l c) (either-none (long_by c) (more_than_most (length l.shapes) (shapes_given symbols l c)) parts.1)) is
  where
    by : (c : CifCommand) → first_far (numbers_of symbols l c) ≡ None → length l.shapes + shapes_given symbols l c ≤ most_shapes → drawn_by symbols l c ≡ Ok shapes
        → Fit (length l.shapes) shapes
    by (commands.Box long wide cx cy upright) far few is =
        fit-box (scaled_extent l.a l.b (box_around long wide cx cy upright)) l.layer (length l.shapes) shapes far few is
    by (commands.Wire width path) far few is =
        fit-wire (scaled_extents l.a l.b (wire_around width path)) l.layer (length l.shapes) (length (wire_around width path)) shapes
        (scaled-count l.a l.b (wire_around width path)) far few is
    by (commands.Polygon path) far few is =
        fit-polygon (scaled_corners l.a l.b (map doubled_corner path)) l.layer (length l.shapes) shapes far few is
    by (commands.Call n flip quarters dx dy) far few is =
        fit-call n (symbol_of n symbols) (scaled_turning l.a l.b flip quarters dx dy) (length l.shapes) shapes far few is
    by c far few is = fit-none (length l.shapes) shapes few (cc is)

pub within-ok : {A : Type 0} (limit : Option ExpandKind) (r : Result A Unmeant) (a : A) → within limit r ≡ Ok a → (limit ≡ None) × (r ≡ Ok a)
within-ok limit (Err fault) a is = cc
within-ok (Some kind) (Ok x) a is = cc
within-ok None (Ok x) a is = (refl, cc)

pub given-fit : (symbols : List Symbol) (l : Level) (c : CifCommand) (shapes : List Shape) → levels.given symbols l c ≡ Ok shapes → Fit (length l.shapes) shapes
unfolding levels.given
given-fit symbols l c shapes is =
    let parts = within-ok (limit_passed symbols l c) (drawn_by symbols l c) shapes is in
    drawn-fit symbols l c shapes parts.0 parts.1

-- the main level is within the limits; its cells are at most so many
pub record MainWithin (most : ℕ) (m : Main) : Type 0 where
  pub few : length m.level.shapes ≤ most_shapes
  pub shapes : AllByRecursion IsShapeWithin m.level.shapes
  pub cells : AllByRecursion (IsCellWithin (length m.level.shapes)) m.cells
  pub few_cells : length m.cells ≤ most

pub still-within : (most : ℕ) (m n : Main) → MainWithin most m → n.level.shapes ≡ m.level.shapes → n.cells ≡ m.cells → MainWithin (suc most) n
still-within most m n h shapes cells = record {
  few = rw shapes h.few;
  shapes = rw shapes h.shapes;
  cells = rw (shapes, cells) h.cells;
  few_cells = rw cells (let few : length m.cells ≤ most = h.few_cells in omega arith);
}

cell-later : (n m : ℕ) → n ≤ m → (c : Cell) → IsCellWithin n c → IsCellWithin m c
cell-later n m le c h = let last : c.first + c.count ≤ n = h.last in record { last = omega arith; quarters = h.quarters; across = h.across; up = h.up }

-- cells of which there is at most one, and whose shapes are among so many
record AreCells (shapes : ℕ) (cells : List Cell) : Type 0 where
  within : AllByRecursion (IsCellWithin shapes) cells
  one : length cells ≤ 1

-- a command of the main level
drawn-within : (most : ℕ) (m : Main) (c : CifCommand) (shapes : List Shape) (cells : List Cell) → MainWithin most m → Fit (length m.level.shapes) shapes
    → AreCells (length m.level.shapes + length shapes) cells → MainWithin (suc most) (main_with m c shapes cells)
drawn-within most m c shapes cells h fit are =
    let whole : length (m.level.shapes ++ shapes) ≡ length m.level.shapes + length shapes = length-append m.level.shapes shapes in
    let count : length (m.cells ++ cells) ≡ length m.cells + length cells = length-append m.cells cells in
    let before : length m.cells ≤ most = h.few_cells in
    let one : length cells ≤ 1 = are.one in
    record {
      few = rw whole fit.few;
      shapes = every-append IsShapeWithin m.level.shapes shapes h.shapes fit.near;
      cells = rw whole (every-append (IsCellWithin (length m.level.shapes + length shapes)) m.cells cells
          (every-weaker _ _ (cell-later (length m.level.shapes) (length m.level.shapes + length shapes) (omega arith)) m.cells h.cells) are.within);
      few_cells = rw count (omega arith);
    }

-- the turn of a call keeps its quarters
turning-quarters : (flip : Bool) (quarters : ℕ) (dx dy : Option ℤ) (turn : Turning) → turning_of flip quarters dx dy ≡ Some turn → turn.quarters ≡ quarters
turning-quarters flip quarters (Some dx) (Some dy) turn is = let same : record { flip = flip; quarters = quarters; dx = dx; dy = dy } ≡ turn = cc in ap (λ (t : Turning). t.quarters) (sym same)
turning-quarters flip quarters (Some dx) None turn is = cc
turning-quarters flip quarters None (Some dy) turn is = cc
turning-quarters flip quarters None None turn is = cc

none-cells : (shapes : ℕ) (cells : List Cell) → Some [] ≡ Some cells → AreCells shapes cells
none-cells shapes cells is = let none : [] ≡ cells = cc is in subst (AreCells shapes) none (record { within = tt; one = omega arith })

one-cell : (name : List ℕ) (kind : Option (List ℕ)) (turn : Turning) (first count shapes : ℕ) (cells : List Cell) → turn.quarters ≤ 3 → IsNotFar turn.dx → IsNotFar turn.dy
    → first + count ≤ shapes
    → option_map (λ kind. record { name = name; symbol = kind; turn = turn; first = first; count = count } ∷ []) kind ≡ Some cells → AreCells shapes cells
one-cell name None turn first count shapes cells few across up last is = cc
one-cell name (Some kind) turn first count shapes cells few across up last is =
    let whole : record { name = name; symbol = kind; turn = turn; first = first; count = count } ∷ [] ≡ cells = cc is in
    subst (AreCells shapes) whole (record { within = (record { last = last; quarters = omega arith; across = across; up = up }, tt); one = omega arith })

call-cells : (n : ℕ) (waiting : Option (List ℕ)) (there : Option Symbol) (turning : Option Turning) (quarters first : ℕ) (shapes : List Shape) (cells : List Cell)
    → quarters ≤ 3 → ((turn : Turning) → turning ≡ Some turn → turn.quarters ≡ quarters) → first_far (call_numbers there turning) ≡ None
    → (found (undefined n) there >>= λ s. found inexact turning >>= λ t. Ok (moved_shapes t s.shapes)) ≡ Ok shapes
    → cells_of waiting there turning first ≡ Some cells → AreCells (first + length shapes) cells
call-cells n (Some name) (Some symbol) (Some turn) quarters first shapes cells few kept none drawn is =
    let whole : moved_shapes turn symbol.shapes ≡ shapes = cc drawn in
    let across = near-first turn.dx (turn.dy ∷ coordinates_of (moved_shapes turn symbol.shapes)) none in
    let up = near-first turn.dy (coordinates_of (moved_shapes turn symbol.shapes)) across.1 in
    let count : length symbol.shapes ≡ length shapes = sym (length-map symbol.shapes (moved_shape turn)) ∙ ap length whole in
    one-cell name symbol.name turn first (length symbol.shapes) (first + length shapes) cells (rw (kept turn refl) few) across.0 up.0 (omega arith) is
call-cells n waiting there turning quarters first shapes cells few kept none drawn is = none-cells (first + length shapes) cells is

cells-within : (symbols : List Symbol) (l : Level) (waiting : Option (List ℕ)) (c : CifCommand) (shapes : List Shape) (cells : List Cell) → IsSound c
    → first_far (numbers_of symbols l c) ≡ None → drawn_by symbols l c ≡ Ok shapes → cells_by symbols l waiting c ≡ Some cells
    → AreCells (length l.shapes + length shapes) cells
cells-within symbols l waiting (commands.Call n flip quarters dx dy) shapes cells sound none drawn is =
    call-cells n waiting (symbol_of n symbols) (scaled_turning l.a l.b flip quarters dx dy) quarters (length l.shapes) shapes cells sound.1
    (λ turn. turning-quarters flip quarters (scaled l.a l.b (doubled dx)) (scaled l.a l.b (doubled dy)) turn) none drawn is
cells-within symbols l waiting c shapes cells sound none drawn is = none-cells (length l.shapes + length shapes) cells is

found-ok : {A : Type 0} (fault : Unmeant) (o : Option A) (x : A) → found fault o ≡ Ok x → o ≡ Some x
found-ok fault None x is = cc
found-ok fault (Some y) x is = cc

main-within : (most : ℕ) (symbols : List Symbol) (m n : Main) (c : CifCommand) → MainWithin most m → IsSound c → limit_passed symbols m.level c ≡ None
    → main_behind symbols m c ≡ Ok n → MainWithin (suc most) n
main-within most symbols m n c h sound none is =
    let shapes = given (drawn_by symbols m.level c) _ n is in
    let cells = given (found no_symbol_name (cells_by symbols m.level m.waiting c)) _ n shapes.2 in
    let whole : main_with m c shapes.0 cells.0 ≡ n = cc cells.2 in
    let far = far-none (first_far (numbers_of symbols m.level c)) (either_limit (long_by c) (more_than_most (length m.level.shapes) (shapes_given symbols m.level c))) none in
    subst (MainWithin (suc most)) whole
    (drawn-within most m c shapes.0 cells.0 h (drawn-fit symbols m.level c shapes.0 none shapes.1)
    (cells-within symbols m.level m.waiting c shapes.0 cells.0 sound far.0 shapes.1
    (found-ok no_symbol_name (cells_by symbols m.level m.waiting c) cells.0 cells.1)))

start-within : (most : ℕ) (s t : State) (n a b : ℕ) (there : Option Symbol) → MainWithin most s.main → started s n a b there ≡ Ok t → MainWithin (suc most) t.main
start-within most s t n a b (Some symbol) h is = cc
start-within most s t n a b None h is =
    let whole : record s { main = record s.main { waiting = None }; inside = Some (opened n a b) } ≡ t = cc is in
    subst (λ (u : State). MainWithin (suc most) u.main) whole (still-within most s.main (record s.main { waiting = None }) h refl refl)

step-within : (most : ℕ) (s t : State) (c : CifCommand) → MainWithin most s.main → IsSound c → limit_passed s.symbols (present_level s s.inside) c ≡ None
    → step s c ≡ Ok t → MainWithin (suc most) t.main
unfolding step
step-within most s t c h sound none is = by c s.inside sound none is
  where
    by : (c : CifCommand) (o : Option Definition) → IsSound c → limit_passed s.symbols (present_level s o) c ≡ None → step_in s o c ≡ Ok t → MainWithin (suc most) t.main
    by (commands.Start n a b) None sound none is = start-within most s t n a b (symbol_of n s.symbols) h is
    by c None sound none is =
        let main = given (main_behind s.symbols s.main c) (λ m. Ok (with_main s m)) t is in
        let whole : with_main s main.0 ≡ t = cc main.2 in
        subst (λ (u : State). MainWithin (suc most) u.main) whole (main-within most s.symbols s.main main.0 c h sound none main.1)
    by commands.Finish (Some d) sound none is =
        let whole : finished s d ≡ t = cc is in
        subst (λ (u : State). MainWithin (suc most) u.main) whole (still-within most s.main s.main h refl refl)
    by c (Some d) sound none is =
        let further = given (definition_behind s.symbols d c) (λ e. Ok (with_inside s e)) t is in
        let whole : with_inside s further.0 ≡ t = cc further.2 in
        subst (λ (u : State). MainWithin (suc most) u.main) whole (still-within most s.main s.main h refl refl)

-- one command, and all
pub refused-ok : {A : Type 0} (i : ℕ) (r : Result A ExpandKind) (a : A) → refused_at i r ≡ Ok a → r ≡ Ok a
refused-ok i (Ok b) a is = cc
refused-ok i (Err kind) a is = cc

-- the state behind a command that is taken
pub advance-step : (p q : Progress) (c : CifCommand) → advance p c ≡ Ok q → step p.state c ≡ Ok q.state
unfolding advance
advance-step p q c is =
    let limit : Option ExpandKind = limit_passed p.state.symbols (present_level p.state p.state.inside) c in
    let meant = given (within limit (step p.state c)) _ q is in
    let depth = given (depth_by p.state.symbols p.depths c) _ q meant.2 in
    let parts = within-ok limit (step p.state c) meant.0 meant.1 in
    let whole : progress_to p c meant.0 depth.0 ≡ q = cc depth.2 in
    let same : meant.0 ≡ q.state = sym (progress-state p c meant.0 depth.0) ∙ ap (λ (x : Progress). x.state) whole in
    parts.1 ∙ ap (λ (s : State). Ok s) same

pub advance-within : (most : ℕ) (p q : Progress) (c : CifCommand) → MainWithin most p.state.main → IsSound c → advance p c ≡ Ok q → MainWithin (suc most) q.state.main
unfolding advance
advance-within most p q c h sound is =
    let limit : Option ExpandKind = limit_passed p.state.symbols (present_level p.state p.state.inside) c in
    let meant = given (within limit (step p.state c)) _ q is in
    let depth = given (depth_by p.state.symbols p.depths c) _ q meant.2 in
    let parts = within-ok limit (step p.state c) meant.0 meant.1 in
    let whole : progress_to p c meant.0 depth.0 ≡ q = cc depth.2 in
    let same : meant.0 ≡ q.state = sym (progress-state p c meant.0 depth.0) ∙ ap (λ (x : Progress). x.state) whole in
    subst (λ (u : State). MainWithin (suc most) u.main) same (step-within most p.state meant.0 c h sound parts.0 parts.1)

progress-within : (cs : List CifCommand) (i most : ℕ) (p q : Progress) → MainWithin most p.state.main → AllByRecursion IsSound cs → progress i p cs ≡ Ok q
    → MainWithin (length cs + most) q.state.main
unfolding progress
progress-within [] i most p q h sound is =
    let same : p ≡ q = cc is in
    let count : most ≡ 0 + most = omega arith in
    subst (λ (n : ℕ). MainWithin n q.state.main) count (subst (λ (x : Progress). MainWithin most x.state.main) same h)
progress-within (c ∷ cs) i most p q h sound is =
    let first = given (refused_at i (advance p c)) (λ x. progress (suc i) x cs) q is in
    let one = advance-within most p first.0 c h sound.0 (refused-ok i (advance p c) first.0 first.1) in
    let all = progress-within cs (suc i) (suc most) first.0 q one sound.1 first.2 in
    let count : length cs + suc most ≡ length (c ∷ cs) + most = omega arith in
    subst (λ (n : ℕ). MainWithin n q.state.main) count all

pub sound-each : (inside : Bool) (cs : List CifCommand) → AreSound inside cs → AllByRecursion IsSound cs
sound-each inside [] h = absurd h
sound-each inside (commands.End ∷ cs) h = rw h.1 (tt, tt)
sound-each inside (commands.Finish ∷ cs) h = (tt, sound-each false cs h.1)
sound-each inside (commands.Start n a b ∷ cs) h = (h.1, sound-each true cs h.2)
sound-each inside (commands.Box long wide cx cy upright ∷ cs) h = (h.0, sound-each inside cs h.1)
sound-each inside (commands.Layer name ∷ cs) h = (h.0, sound-each inside cs h.1)
sound-each inside (commands.Call n flip quarters dx dy ∷ cs) h = (h.0, sound-each inside cs h.1)
sound-each inside (commands.Wire width path ∷ cs) h = (h.0, sound-each inside cs h.1)
sound-each inside (commands.Polygon path ∷ cs) h = (h.0, sound-each inside cs h.1)
sound-each inside (commands.Comment ∷ cs) h = (h.0, sound-each inside cs h.1)
sound-each inside (commands.User kind text ∷ cs) h = (h.0, sound-each inside cs h.1)

-- a layout that sound commands give is within the limits, and has no more cells than there are commands
pub expansion-within : (cs : List CifCommand) (l : Layout) → AreSound false cs → expansion cs ≡ Ok l → IsLayoutWithin (length cs) l
unfolding expansion
expansion-within cs l sound is =
    let whole = given (progress 0 at_first cs) (λ p. Ok (layout_of p.state.main)) l is in
    let start : MainWithin 0 at_first.state.main = record { few = omega arith; shapes = tt; cells = tt; few_cells = omega arith } in
    let all = progress-within cs 0 0 at_first whole.0 start (sound-each false cs sound) whole.1 in
    let same : layout_of whole.0.state.main ≡ l = cc whole.2 in
    let few : length whole.0.state.main.cells ≤ length cs + 0 = all.few_cells in
    subst (IsLayoutWithin (length cs)) same (record { few = all.few; shapes = all.shapes; cells = all.cells; few_cells = omega arith })
