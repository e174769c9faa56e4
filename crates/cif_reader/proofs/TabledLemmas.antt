use Rattle.std.proofs.Common.{◌≡◌, refl, ap, sym, ◌∙◌, subst, ℕ, zero, suc, ◌<◌, List, [], ◌∷◌, ◌++◌, length, get_or, map, take, Some, None, zero-add, arith}
use Rattle.std.proofs.lemmas.List.{map-append}
use Rattle.std.specs.BTreeMap.{get}
use Rattle.std.specs.Ordering.{nat_cmp}
use Rattle.cif_text.specs.Symbols.{Symbol, symbol_of}
use Rattle.cif_reader.specs.declared.symbol_table.SymbolTable.TheInside.{Inside}
use Rattle.cif_reader.specs.declared.table.Item.{Item}
use Rattle.cif_reader.specs.declared.table.Kept.{Kept}
use Rattle.cif_reader.specs.Places.{IsEntered}
use Rattle.cif_reader.specs.SymbolTables.{tabled_in, AreTabled}
use Rattle.cif_reader.specs.Table.{IsKeptBehind, AreKeptBehind, depth_kept, symbol_at, symbol_kept, symbols_behind, items_drawn}
use Rattle.cif_reader.specs.Tabled.{Tabled, table_with, IsPlaceOf, IsKeptAt}
use Rattle.cif_reader.proofs.CallLemmas.{shapes-at}
use Rattle.cif_reader.proofs.PlaceLemmas.{no-symbol, place-of}
use Rattle.cif_reader.proofs.PlacesLaws.{no-places, places-push}
use Rattle.cif_reader.proofs.TableLemmas.{AreCopied, copied-items, behind-length, behind-push, kept-push, copied-at}

-- a table without symbols
pub none-tabled : (t : Inside) → t.kept.items ≡ [] → t.places.entries ≡ [] → AreTabled t × (tabled_in t ≡ record { symbols = []; depths = [] })
unfolding symbols_behind AreKeptBehind
none-tabled t kept places = (record { kept = rw kept tt; places = rw kept (no-places t.places places) }, rw kept refl)

-- a table with one symbol more
pub one-more : (before after : Inside) (t : Tabled) (kept : Kept) → AreTabled before → tabled_in before ≡ t → IsKeptBehind t.symbols kept
    → after.kept.items ≡ before.kept.items ++ (kept ∷ []) → IsEntered before.places after.places kept.number (length before.kept.items)
    → AreTabled after × (tabled_in after ≡ table_with t kept)
one-more before after t kept are is behind pushed entered =
    let there : IsKeptBehind (symbols_behind [] before.kept.items) kept = subst (λ (u : Tabled). IsKeptBehind u.symbols kept) (sym is) behind in
    let symbols : symbols_behind [] after.kept.items ≡ symbols_behind [] before.kept.items ++ (symbol_kept (symbols_behind [] before.kept.items) kept ∷ []) =
    ap (symbols_behind []) pushed ∙ behind-push [] before.kept.items kept in
    let depths : map depth_kept after.kept.items ≡ map depth_kept before.kept.items ++ (kept.depth ∷ []) =
    ap (map depth_kept) pushed ∙ map-append depth_kept before.kept.items (kept ∷ []) in
    let whole : tabled_in after ≡ table_with (tabled_in before) kept = rw (symbols, depths) refl in (
      record {
        kept = rw pushed (kept-push [] before.kept.items kept are.kept there);
        places = rw pushed (places-push before.places after.places before.kept.items kept are.places entered);
      },
      whole ∙ ap (λ (u : Tabled). table_with u kept) is,
    )

length-symbols : (table : List Kept) → length (symbols_behind [] table) ≡ length table
length-symbols table = behind-length [] table ∙ zero-add (length table)

depth-at : (table : List Kept) (i : ℕ) (kept : Kept) → i < length table → get_or (map depth_kept table) i 0 ≡ (get_or table i kept).depth
depth-at [] i kept below = absurd (omega arith)
depth-at (k ∷ ks) zero kept below = refl
depth-at (k ∷ ks) (suc i) kept below = depth-at ks i kept (omega arith)

some-kept : (table : List Kept) (i : ℕ) → i < length table → Kept
some-kept [] i below = absurd (omega arith)
some-kept (k ∷ ks) i below = k

-- a number that no symbol has, and the place of one that a symbol has
pub absent-number : (inside : Inside) (t : Tabled) (n : ℕ) → AreTabled inside → tabled_in inside ≡ t → get nat_cmp inside.places n ≡ None → symbol_of n t.symbols ≡ None
absent-number inside t n are is none =
    subst (λ (u : Tabled). symbol_of n u.symbols ≡ None) is (no-symbol n inside.kept.items (sym (are.places.each n) ∙ none))

pub number-place : (inside : Inside) (t : Tabled) (n place : ℕ) → AreTabled inside → tabled_in inside ≡ t → get nat_cmp inside.places n ≡ Some place
    → (place < length t.symbols) × IsPlaceOf n t place
number-place inside t n place are is some =
    let there = place-of n place inside.kept.items (sym (are.places.each n) ∙ some) in
    let below : place < length inside.kept.items = there.below in
    let count : length (symbols_behind [] inside.kept.items) ≡ length inside.kept.items = length-symbols inside.kept.items in
    let kept : Kept = some-kept inside.kept.items place below in
    subst (λ (u : Tabled). (place < length u.symbols) × IsPlaceOf n u place) is (
      omega arith,
      record { symbol = there.symbol; depth = there.depth kept ∙ sym (depth-at inside.kept.items place kept below) },
    )

-- a place of the table
pub place-below : (inside : Inside) (t : Tabled) (place : ℕ) → tabled_in inside ≡ t → place < length t.symbols → place < length inside.kept.items
place-below inside t place is below =
    let there : place < length (symbols_behind [] inside.kept.items) = subst (λ (u : Tabled). place < length u.symbols) (sym is) below in
    let count : length (symbols_behind [] inside.kept.items) ≡ length inside.kept.items = length-symbols inside.kept.items in
    omega arith

pub copied-there : (inside : Inside) (t : Tabled) (place : ℕ) (kept : Kept) (copied : List Item) → AreTabled inside → tabled_in inside ≡ t → place < length t.symbols
    → kept ≡ get_or inside.kept.items place kept → copied ≡ kept.items.items → AreCopied inside.kept.items place copied
copied-there inside t place kept copied are is below at copied_is =
    copied-items inside.kept.items place kept copied are.kept (place-below inside t place is below) at copied_is

-- the shapes of the symbol there
pub shapes-there : (inside : Inside) (t : Tabled) (place : ℕ) (copied : List Item) → tabled_in inside ≡ t → AreCopied inside.kept.items place copied
    → items_drawn (symbols_behind [] (take place inside.kept.items)) copied ≡ (symbol_at t.symbols place).shapes
shapes-there inside t place copied is there = sym there.shapes ∙ ap (λ (u : Tabled). (symbol_at u.symbols place).shapes) is

-- what is kept of the symbol there
pub kept-there : (inside : Inside) (t : Tabled) (place : ℕ) (kept : Kept) → AreTabled inside → tabled_in inside ≡ t → place < length t.symbols
    → kept ≡ get_or inside.kept.items place kept → IsKeptAt t place kept
kept-there inside t place kept are is below at =
    let there = copied-at inside.kept.items place kept are.kept (place-below inside t place is below) at in
    let shapes : (symbol_at (symbols_behind [] inside.kept.items) place).shapes ≡ items_drawn (symbols_behind [] (take place inside.kept.items)) kept.items.items =
    shapes-at inside.kept.items place kept there in
    subst (λ (u : Tabled). IsKeptAt u place kept) is (record {
      name = ap (λ (s : Symbol). s.name) there.symbol;
      count = ap length shapes ∙ sym there.is.count;
      few = there.is.few;
      around = rw shapes there.is.around;
      reach = there.is.reach;
      deep = there.is.deep;
      depth = depth-at inside.kept.items place kept there.below ∙ ap (λ (k : Kept). k.depth) (sym at);
    })
