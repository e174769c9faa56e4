use Rattle.cif_reader.specs.declared.fault.ExpandKind.TheVariants as kinds
use Rattle.cif_reader.specs.declared.table.Item.TheVariants as items
use Rattle.std.proofs.Common.{◌≡◌, refl, ap, sym, ◌∙◌, subst, ℕ, suc, ◌+◌, ◌≤◌, List, [], ◌∷◌, ◌++◌, length, length-append, append-nil, append_assoc, ◌<◌, Bool, true, false, Option, Some, Ok, Err, arith}
use Rattle.std.proofs.lemmas.Bool.Decides.{nat_tests}
use Rattle.std.proofs.lemmas.Int.{ints}
use Rattle.std.proofs.lemmas.List.{length-map}
use Rattle.std.specs.List.{AllByRecursion}
use Rattle.std.specs.Option.{ForSome}
use Rattle.std.specs.Prelude.{if◌then◌else◌, max, nat_lt, option_map}
use Rattle.geom_core.specs.declared.layout.Shape.{Shape}
use Rattle.geom_core.specs.Extent.{Extent}
use Rattle.geom_core.specs.Moving.{moved_shape}
use Rattle.geom_core.specs.Turning.{Turning, moved}
use Rattle.cif_text.specs.Symbols.{Symbol, moved_shapes}
use Rattle.cif_reader.specs.declared.table.Item.{Item}
use Rattle.cif_reader.specs.declared.table.Kept.{Kept}
use Rattle.cif_reader.specs.Growing.{HasItem, Grows}
use Rattle.cif_reader.specs.Levels.{depth_above}
use Rattle.cif_reader.specs.Limits.{deepest, most_shapes}
use Rattle.cif_reader.specs.Sides.{AreProper, IsProper, IsNearTurn}
use Rattle.cif_reader.specs.Table.{items_drawn, symbol_at, IsItem, IsKeptBehind, AreAround, ReachesWithin}
use Rattle.cif_reader.specs.Tabled.{Tabled, IsKeptAt, depth_at}
use Rattle.cif_reader.specs.Within.{IsShapeWithin}
use Rattle.cif_reader.proofs.BoundLemmas.{around-moved, reaches-moved, around-joined, reach-joined, reach-most}
use Rattle.cif_reader.proofs.TableLemmas.{drawn-push}
use Rattle.std_laws.proofs.Every.{every-append, every-at}

-- an item more of some shapes
item-grows : (symbols : List Symbol) (old new : Kept) (item : Item) (count : ℕ) (bounds : Option Extent) (depth : ℕ) (shapes : List Shape)
    → HasItem old new item count bounds depth → IsKeptBehind symbols old → items_drawn symbols (item ∷ []) ≡ shapes → count ≡ length shapes
    → IsItem (length symbols) item → AllByRecursion IsShapeWithin shapes → AreAround bounds shapes → ForSome bounds (ReachesWithin depth) → depth ≤ deepest
    → old.count + count ≤ most_shapes → Grows symbols old new shapes depth
item-grows symbols old new item count bounds depth shapes has kept is_drawn is_count fits near around reach deep few =
    let drawn : items_drawn symbols new.items.items ≡ items_drawn symbols old.items.items ++ shapes =
    ap (items_drawn symbols) has.items ∙ drawn-push symbols old.items.items item ∙ ap (λ (ss : List Shape). items_drawn symbols old.items.items ++ ss) is_drawn in
    let old_count : old.count ≡ length (items_drawn symbols old.items.items) = kept.count in
    let new_count : new.count ≡ old.count + count = has.count_is in
    let more : length (items_drawn symbols old.items.items ++ shapes) ≡ length (items_drawn symbols old.items.items) + length shapes =
    length-append (items_drawn symbols old.items.items) shapes in
    let new_depth : new.depth ≡ max old.depth depth = has.depth_is in
    let old_deep : old.depth ≤ deepest = kept.deep in
    record {
      number = has.number;
      name = has.name;
      drawn = drawn;
      depth_is = has.depth_is;
      is = record {
        items = rw has.items (every-append (IsItem (length symbols)) old.items.items (item ∷ []) kept.items (fits, tt));
        count = rw drawn (omega arith);
        few = omega arith;
        near = rw drawn (every-append IsShapeWithin (items_drawn symbols old.items.items) shapes kept.near near);
        around = rw (drawn, has.bounds_are) (around-joined old.bounds bounds (items_drawn symbols old.items.items) shapes kept.around around);
        reach = rw has.bounds_are (reach-joined new.depth old.bounds bounds
            (reach-most old.depth new.depth old.bounds (omega arith) kept.reach) (reach-most depth new.depth bounds (omega arith) reach));
        deep = omega arith;
      };
    }

-- a shape of its own
own-around : (shape : Shape) → IsProper shape.rect → AreAround (Some shape.rect) (shape ∷ [])
own-around shape proper = (
  record {
    x0 = omega (arith, ints);
    x0_below = omega (arith, ints, proper.across);
    x1 = omega (arith, ints, proper.across);
    x1_below = omega (arith, ints);
    y0 = omega (arith, ints);
    y0_below = omega (arith, ints, proper.up);
    y1 = omega (arith, ints, proper.up);
    y1_below = omega (arith, ints);
  },
  tt,
)

own-reach : (shape : Shape) → IsShapeWithin shape → ForSome (Some shape.rect) (ReachesWithin 1)
own-reach shape near = λ e is.
    let same : shape.rect ≡ e = cc in
    subst (ReachesWithin 1) same (record { x0 = omega (arith, near.x0); y0 = omega (arith, near.y0); x1 = omega (arith, near.x1); y1 = omega (arith, near.y1) })

pub own-grows : (symbols : List Symbol) (old new : Kept) (shape : Shape) (depth : ℕ) → HasItem old new (items.Own shape) 1 (Some shape.rect) depth → 1 ≡ depth
    → IsKeptBehind symbols old → IsShapeWithin shape → IsProper shape.rect → old.count + 1 ≤ most_shapes → Grows symbols old new (shape ∷ []) depth
unfolding items_drawn
own-grows symbols old new shape depth has one kept near proper few =
    item-grows symbols old new (items.Own shape) 1 (Some shape.rect) depth (shape ∷ []) has kept refl refl tt (near, tt) (own-around shape proper)
    (subst (λ (n : ℕ). ForSome (Some shape.rect) (ReachesWithin n)) one (own-reach shape near)) (omega arith) few

-- some shapes of its own, and others that are still to come
pub record GrowsTo (old new : Kept) (shapes rest : List Shape) (depth : ℕ) : Type 0 where
  pub done : List Shape
  pub stands : done ++ rest ≡ shapes
  pub grows : (symbols : List Symbol) → IsKeptBehind symbols old → AllByRecursion IsShapeWithin shapes → AreProper shapes → 1 ≡ depth
      → Grows symbols old new done depth

deeper-kept : (symbols : List Symbol) (old : Kept) (depth : ℕ) → IsKeptBehind symbols old → 1 ≡ depth
    → IsKeptBehind symbols (record old { depth = max old.depth depth })
deeper-kept symbols old depth h one =
    let deep : old.depth ≤ deepest = h.deep in
    record {
      items = h.items;
      count = h.count;
      few = h.few;
      near = h.near;
      around = h.around;
      reach = reach-most old.depth (max old.depth depth) old.bounds (omega arith) h.reach;
      deep = omega (arith, one);
    }

pub grows-begin : (old new : Kept) (shapes : List Shape) (depth : ℕ) → new ≡ record old { depth = max old.depth depth } → GrowsTo old new shapes shapes depth
grows-begin old new shapes depth is = rw is (record {
  done = [];
  stands = refl;
  grows = λ symbols h near proper one. record {
    number = refl;
    name = refl;
    drawn = sym (append-nil (items_drawn symbols old.items.items));
    depth_is = refl;
    is = deeper-kept symbols old depth h one;
  };
})

pub grows-next : (old kept new : Kept) (shapes rest : List Shape) (shape : Shape) (depth : ℕ) → GrowsTo old kept shapes (shape ∷ rest) depth
    → HasItem kept new (items.Own shape) 1 (Some shape.rect) depth → kept.count + 1 ≤ most_shapes → GrowsTo old new shapes rest depth
grows-next old kept new shapes rest shape depth h has few = record {
  done = h.done ++ shape ∷ [];
  stands = append_assoc h.done (shape ∷ []) rest ∙ h.stands;
  grows = λ symbols is near proper one.
      let before : Grows symbols old kept h.done depth = h.grows symbols is near proper one in
      let near_all : AllByRecursion IsShapeWithin (h.done ++ shape ∷ rest) = subst (AllByRecursion IsShapeWithin) (sym h.stands) near in
      let proper_all : AreProper (h.done ++ shape ∷ rest) = subst AreProper (sym h.stands) proper in
      let more = own-grows symbols kept new shape depth has one before.is (every-at IsShapeWithin h.done rest shape near_all)
      (every-at (λ s. IsProper s.rect) h.done rest shape proper_all) few in
      let first : kept.depth ≡ max old.depth depth = before.depth_is in
      let second : new.depth ≡ max kept.depth depth = more.depth_is in
      record {
        number = more.number ∙ before.number;
        name = more.name ∙ before.name;
        drawn = more.drawn ∙ ap (λ (ss : List Shape). ss ++ shape ∷ []) before.drawn ∙ append_assoc (items_drawn symbols old.items.items) h.done (shape ∷ []);
        depth_is = omega arith;
        is = more.is;
      };
}

pub grows-all : (old new : Kept) (shapes rest : List Shape) (depth : ℕ) → rest ≡ [] → GrowsTo old new shapes rest depth
    → (symbols : List Symbol) → IsKeptBehind symbols old → AllByRecursion IsShapeWithin shapes → AreProper shapes → 1 ≡ depth → Grows symbols old new shapes depth
grows-all old new shapes rest depth none h symbols is near proper one =
    let whole : h.done ≡ shapes = sym (append-nil h.done) ∙ ap (λ (ss : List Shape). h.done ++ ss) (sym none) ∙ h.stands in
    subst (λ (ss : List Shape). Grows symbols old new ss depth) whole (h.grows symbols is near proper one)

above-ok : (depth given : ℕ) → depth_above depth ≡ Ok given → (given ≡ suc depth) × (suc depth ≤ deepest)
above-ok depth given is = by (nat_lt deepest (suc depth)) refl is
  where
    by : (b : Bool) → nat_lt deepest (suc depth) ≡ b → (if b then Err kinds.TooDeep else Ok (suc depth)) ≡ Ok given → (given ≡ suc depth) × (suc depth ≤ deepest)
    by true test is = cc
    by false test is = (cc, grind (arith, nat_tests))

-- a copy of a symbol of a table, whose shapes are near under the turn
pub record IsCopy (t : Tabled) (place : ℕ) (turn : Turning) (kept : Kept) (depth : ℕ) : Type 0 where
  pub below : place < length t.symbols
  pub kept_is : IsKeptAt t place kept
  pub near_turn : IsNearTurn turn
  pub near : AllByRecursion IsShapeWithin (moved_shapes turn (symbol_at t.symbols place).shapes)
  pub made : depth_above (depth_at t.depths place) ≡ Ok depth

pub copy-count : (t : Tabled) (place : ℕ) (turn : Turning) (kept : Kept) → IsKeptAt t place kept → kept.count ≡ length (moved_shapes turn (symbol_at t.symbols place).shapes)
copy-count t place turn kept h = sym h.count ∙ sym (length-map (symbol_at t.symbols place).shapes (moved_shape turn))

pub copy-grows : (t : Tabled) (place : ℕ) (turn : Turning) (kept old new : Kept) (depth : ℕ) → IsCopy t place turn kept depth
    → HasItem old new (items.Copied place turn) kept.count (option_map (moved turn) kept.bounds) depth → IsKeptBehind t.symbols old → old.count + kept.count ≤ most_shapes
    → Grows t.symbols old new (moved_shapes turn (symbol_at t.symbols place).shapes) depth
unfolding items_drawn
copy-grows t place turn kept old new depth h has is few =
    let shapes : List Shape = (symbol_at t.symbols place).shapes in
    let above = above-ok kept.depth depth (ap depth_above (sym h.kept_is.depth) ∙ h.made) in
    item-grows t.symbols old new (items.Copied place turn) kept.count (option_map (moved turn) kept.bounds) depth (moved_shapes turn shapes) has is
    (append-nil (moved_shapes turn shapes)) (copy-count t place turn kept h.kept_is) (h.below, h.near_turn.across, h.near_turn.up) h.near
    (around-moved turn kept.bounds shapes h.kept_is.around)
    (rw above.0 (reaches-moved kept.depth turn kept.bounds h.near_turn.across h.near_turn.up h.kept_is.reach)) (rw above.0 above.1) few
