use Rattle.cif_reader.specs.declared.table.Item.TheVariants as items
use Rattle.std.proofs.Common.{◌≡◌, refl, ap, sym, ◌∙◌, subst, ℕ, zero, suc, ◌+◌, ◌<◌, List, [], ◌∷◌, ◌++◌, length, get_or, take, append_assoc, length-append, append-nil, zero-add, arith}
use Rattle.std.proofs.lemmas.List.{length-take-le}
use Rattle.std.specs.List.{AllByRecursion}
use Rattle.geom_core.specs.declared.layout.Shape.{Shape}
use Rattle.cif_text.specs.Symbols.{Symbol, moved_shapes}
use Rattle.cif_reader.specs.declared.table.Item.{Item}
use Rattle.cif_reader.specs.declared.table.Kept.{Kept}
use Rattle.geom_core.specs.Turning.{Turning}
use Rattle.cif_reader.specs.Table.{IsItem, empty_symbol, symbol_at, items_drawn, symbol_kept, symbols_behind, IsKeptBehind, AreKeptBehind}
use Rattle.cif_reader.specs.Within.{IsShapeWithin}
use Rattle.std_laws.proofs.Places.{get_or-front, get_or-pushed}

pub behind-length : (symbols : List Symbol) (table : List Kept) → length (symbols_behind symbols table) ≡ length symbols + length table
unfolding symbols_behind
behind-length symbols [] = omega arith
behind-length symbols (kept ∷ more) =
    let all = behind-length (symbols ++ (symbol_kept symbols kept ∷ [])) more in
    let one : length (symbols ++ (symbol_kept symbols kept ∷ [])) ≡ length symbols + 1 = length-append symbols (symbol_kept symbols kept ∷ []) in
    omega arith

-- one symbol more
pub behind-push : (symbols : List Symbol) (table : List Kept) (kept : Kept)
    → symbols_behind symbols (table ++ (kept ∷ [])) ≡ symbols_behind symbols table ++ (symbol_kept (symbols_behind symbols table) kept ∷ [])
unfolding symbols_behind
behind-push symbols [] kept = refl
behind-push symbols (first ∷ more) kept = behind-push (symbols ++ (symbol_kept symbols first ∷ [])) more kept

pub kept-push : (symbols : List Symbol) (table : List Kept) (kept : Kept) → AreKeptBehind symbols table → IsKeptBehind (symbols_behind symbols table) kept
    → AreKeptBehind symbols (table ++ (kept ∷ []))
unfolding symbols_behind AreKeptBehind
kept-push symbols [] kept all last = (last, tt)
kept-push symbols (first ∷ more) kept all last = (all.0, kept-push (symbols ++ (symbol_kept symbols first ∷ [])) more kept all.1 last)

-- the symbols before stay
front-stays : (symbols : List Symbol) (table : List Kept) (i : ℕ) (d : Symbol) → i < length symbols → get_or (symbols_behind symbols table) i d ≡ get_or symbols i d
unfolding symbols_behind
front-stays symbols [] i d h = refl
front-stays symbols (kept ∷ more) i d h =
    let one : length (symbols ++ (symbol_kept symbols kept ∷ [])) ≡ length symbols + 1 = length-append symbols (symbol_kept symbols kept ∷ []) in
    front-stays (symbols ++ (symbol_kept symbols kept ∷ [])) more i d (omega arith) ∙ get_or-front symbols (symbol_kept symbols kept ∷ []) i d h

-- the symbol at a place of the table
symbol-behind : (symbols : List Symbol) (table : List Kept) (i : ℕ) (kept : Kept) (d : Symbol) → i < length table → kept ≡ get_or table i kept
    → get_or (symbols_behind symbols table) (length symbols + i) d ≡ symbol_kept (symbols_behind symbols (take i table)) kept
unfolding symbols_behind
symbol-behind symbols [] i kept d below is = absurd (omega arith)
symbol-behind symbols (first ∷ more) zero kept d below is =
    let one : length (symbols ++ (symbol_kept symbols first ∷ [])) ≡ length symbols + 1 = length-append symbols (symbol_kept symbols first ∷ []) in
    let at : length symbols + 0 ≡ length symbols = omega arith in
    rw at (front-stays (symbols ++ (symbol_kept symbols first ∷ [])) more (length symbols) d (omega arith)
    ∙ get_or-pushed symbols (symbol_kept symbols first) d ∙ ap (λ (k : Kept). symbol_kept symbols k) (sym is))
symbol-behind symbols (first ∷ more) (suc i) kept d below is =
    let one : length (symbols ++ (symbol_kept symbols first ∷ [])) ≡ length symbols + 1 = length-append symbols (symbol_kept symbols first ∷ []) in
    let at : length symbols + suc i ≡ length (symbols ++ (symbol_kept symbols first ∷ [])) + i = omega arith in
    rw at (symbol-behind (symbols ++ (symbol_kept symbols first ∷ [])) more i kept d (omega arith) is)

kept-behind : (symbols : List Symbol) (table : List Kept) (i : ℕ) (kept : Kept) → AreKeptBehind symbols table → i < length table → kept ≡ get_or table i kept
    → IsKeptBehind (symbols_behind symbols (take i table)) kept
unfolding symbols_behind AreKeptBehind
kept-behind symbols [] i kept all below is = absurd (omega arith)
kept-behind symbols (first ∷ more) zero kept all below is = subst (λ (k : Kept). IsKeptBehind symbols k) (sym is) all.0
kept-behind symbols (first ∷ more) (suc i) kept all below is = kept-behind (symbols ++ (symbol_kept symbols first ∷ [])) more i kept all.1 (omega arith) is

pub kept-front : (symbols : List Symbol) (table : List Kept) (i : ℕ) → AreKeptBehind symbols table → AreKeptBehind symbols (take i table)
unfolding AreKeptBehind
kept-front symbols [] zero all = tt
kept-front symbols [] (suc i) all = tt
kept-front symbols (first ∷ more) zero all = tt
kept-front symbols (first ∷ more) (suc i) all = (all.0, kept-front (symbols ++ (symbol_kept symbols first ∷ [])) more i all.1)

pub symbol-at : (table : List Kept) (i : ℕ) (kept : Kept) → i < length table → kept ≡ get_or table i kept
    → symbol_at (symbols_behind [] table) i ≡ symbol_kept (symbols_behind [] (take i table)) kept
symbol-at table i kept below is =
    let at : 0 + i ≡ i = omega arith in
    subst (λ (k : ℕ). get_or (symbols_behind [] table) k (empty_symbol 0) ≡ symbol_kept (symbols_behind [] (take i table)) kept) at
    (symbol-behind [] table i kept (empty_symbol 0) below is)

pub kept-at : (table : List Kept) (i : ℕ) (kept : Kept) → AreKeptBehind [] table → i < length table → kept ≡ get_or table i kept
    → IsKeptBehind (symbols_behind [] (take i table)) kept
kept-at table i kept all below is = kept-behind [] table i kept all below is

pub drawn-push : (symbols : List Symbol) (before : List Item) (item : Item) → items_drawn symbols (before ++ (item ∷ [])) ≡ items_drawn symbols before ++ items_drawn symbols (item ∷ [])
unfolding items_drawn
drawn-push symbols [] item = refl
drawn-push symbols (items.Own shape ∷ more) item = ap (λ (ss : List Shape). shape ∷ ss) (drawn-push symbols more item)
drawn-push symbols (items.Copied of turn ∷ more) item =
    ap (λ (ss : List Shape). moved_shapes turn (symbol_at symbols of).shapes ++ ss) (drawn-push symbols more item)
    ∙ sym (append_assoc (moved_shapes turn (symbol_at symbols of).shapes) (items_drawn symbols more) (items_drawn symbols (item ∷ [])))

-- what is known where a symbol of the table is copied
pub record IsCopied (table : List Kept) (of : ℕ) (kept : Kept) : Type 0 where
  pub below : of < length table
  pub front : AreKeptBehind [] (take of table)
  pub is : IsKeptBehind (symbols_behind [] (take of table)) kept
  pub items : AllByRecursion (IsItem (length (take of table))) kept.items.items
  pub symbol : symbol_at (symbols_behind [] table) of ≡ symbol_kept (symbols_behind [] (take of table)) kept

pub copied-at : (table : List Kept) (of : ℕ) (kept : Kept) → AreKeptBehind [] table → of < length table → kept ≡ get_or table of kept → IsCopied table of kept
copied-at table of kept all below is =
    let there = kept-at table of kept all below is in
    let count : length (symbols_behind [] (take of table)) ≡ length (take of table) = behind-length [] (take of table) ∙ zero-add (length (take of table)) in
    record {
      below = below;
      front = kept-front [] table of all;
      is = there;
      items = subst (λ (n : ℕ). AllByRecursion (IsItem n) kept.items.items) count there.items;
      symbol = symbol-at table of kept below is;
    }

-- what is known of the items of a symbol of the table
pub record AreCopied (table : List Kept) (of : ℕ) (copied : List Item) : Type 0 where
  pub fewer : length (take of table) < length table
  pub front : AreKeptBehind [] (take of table)
  pub fit : AllByRecursion (IsItem (length (take of table))) copied
  pub near : AllByRecursion IsShapeWithin (items_drawn (symbols_behind [] (take of table)) copied)
  pub shapes : (symbol_at (symbols_behind [] table) of).shapes ≡ items_drawn (symbols_behind [] (take of table)) copied

pub copied-items : (table : List Kept) (of : ℕ) (kept : Kept) (copied : List Item) → AreKeptBehind [] table → of < length table → kept ≡ get_or table of kept
    → copied ≡ kept.items.items → AreCopied table of copied
copied-items table of kept copied all below at is =
    let there = copied-at table of kept all below at in
    let count : length (take of table) ≡ of = length-take-le of table (omega arith) in
    subst (AreCopied table of) (sym is) (record {
      fewer = omega arith;
      front = there.front;
      fit = there.items;
      near = there.is.near;
      shapes = ap (λ (s : Symbol). s.shapes) there.symbol;
    })

-- the item that copies a symbol of the table
pub copied-first : (table : List Kept) (rest after : List Item) (of : ℕ) (turn : Turning) (kept : Kept) (copied : List Item) → AreKeptBehind [] table
    → AllByRecursion (IsItem (length table)) rest → rest ≡ items.Copied of turn ∷ after → kept ≡ get_or table of kept
    → copied ≡ (get_or table of kept).items.items → AreCopied table of copied
copied-first table rest after of turn kept copied all fits is at copied_is =
    let parts = subst (AllByRecursion (IsItem (length table))) is fits in
    copied-items table of kept copied all parts.0.0 at (copied_is ∙ ap (λ (k : Kept). k.items.items) (sym at))

drawn-copied : (table : List Kept) (of : ℕ) (turn : Turning) (copied more : List Item) (shapes : List Shape) → AreCopied table of copied
    → shapes ≡ items_drawn (symbols_behind [] (take of table)) copied
    → items_drawn (symbols_behind [] table) (items.Copied of turn ∷ more) ≡ moved_shapes turn shapes ++ items_drawn (symbols_behind [] table) more
unfolding items_drawn
drawn-copied table of turn copied more shapes there is =
    ap (λ (ss : List Shape). moved_shapes turn ss ++ items_drawn (symbols_behind [] table) more) (there.shapes ∙ sym is)

-- the first item that is left, and the others behind it
pub record IsDone (table : List Kept) (all rest : List Item) (shapes : List Shape) : Type 0 where
  pub items : AllByRecursion (IsItem (length table)) rest
  pub done : items_drawn (symbols_behind [] table) all ≡ shapes ++ items_drawn (symbols_behind [] table) rest

pub own-first : (table : List Kept) (all rest after : List Item) (shape : Shape) (before shapes : List Shape) → IsDone table all rest before → rest ≡ items.Own shape ∷ after
    → shapes ≡ before ++ (shape ∷ []) → IsDone table all after shapes
unfolding items_drawn
own-first table all rest after shape before shapes so_far is more =
    let parts = subst (AllByRecursion (IsItem (length table))) is so_far.items in
    record {
      items = parts.1;
      done = so_far.done ∙ ap (λ (is : List Item). before ++ items_drawn (symbols_behind [] table) is) is
          ∙ sym (append_assoc before (shape ∷ []) (items_drawn (symbols_behind [] table) after))
          ∙ ap (λ (ss : List Shape). ss ++ items_drawn (symbols_behind [] table) after) (sym more);
    }

pub copied-next : (table : List Kept) (all rest after : List Item) (of : ℕ) (turn : Turning) (copied : List Item) (drawn before shapes : List Shape)
    → AreCopied table of copied → IsDone table all rest before → rest ≡ items.Copied of turn ∷ after
    → drawn ≡ items_drawn (symbols_behind [] (take of table)) copied → shapes ≡ before ++ moved_shapes turn drawn → IsDone table all after shapes
copied-next table all rest after of turn copied drawn before shapes there so_far is drawn_is more =
    let parts = subst (AllByRecursion (IsItem (length table))) is so_far.items in
    record {
      items = parts.1;
      done = so_far.done ∙ ap (λ (is : List Item). before ++ items_drawn (symbols_behind [] table) is) is
          ∙ ap (λ (ss : List Shape). before ++ ss) (drawn-copied table of turn copied after drawn there drawn_is)
          ∙ sym (append_assoc before (moved_shapes turn drawn) (items_drawn (symbols_behind [] table) after))
          ∙ ap (λ (ss : List Shape). ss ++ items_drawn (symbols_behind [] table) after) (sym more);
    }

-- nothing is left
pub all-done : (table : List Kept) (all rest : List Item) (shapes : List Shape) → IsDone table all rest shapes → length rest ≡ 0
    → shapes ≡ items_drawn (symbols_behind [] table) all
unfolding items_drawn
all-done table all [] shapes h none = sym (h.done ∙ append-nil shapes)
all-done table all (item ∷ rest) shapes h none = absurd (omega arith)
