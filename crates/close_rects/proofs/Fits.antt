use Rattle.std.proofs.Common.{◌≡◌, ◌+◌, ◌≤ℤ◌, ◌-ℤ◌, pos, ℕ, zero, suc, ℤ, List, [], ◌∷◌, true, false, length, map, Some, refl, ap, subst, ◌∙◌}
use Rattle.std.specs.Prelude.{All}
use Rattle.std.specs.Option.{option_map}
use Rattle.std.specs.List.{slice_get, enumerate_from}
use Rattle.std.specs.List.Sorted.{IsPermutation}
use Rattle.std.proofs.lemmas.List.{length-map}
use Rattle.std.proofs.lemmas.List.Sorted.{All-permutation}
use Rattle.std.proofs.lemmas.List.Elements.{All-nil, All-cons, All-head, All-tail}
use Rattle.std.proofs.lemmas.Option.{slice_get-map, slice_get_within, get_or_from_slice_get}
use Rattle.geom_core.specs.Extent.{Extent}
use Rattle.geom_core.specs.Reach.{IsExtentInWideReach}
use Rattle.geom_core.specs.Rectangles.{grown}
use Rattle.close_rects.specs.declared.items.Item.{Item}
use Rattle.close_rects.specs.Items.{entry, fresh, HasInside, IsFit}
use Rattle.close_rects.specs.Blocks.{IsFirstMet, IsMet, NoneMet}
use Rattle.close_rects.specs.ClosePairs.{is_close}
use Rattle.close_rects.specs.Rests.{IsNextClose, rest_at}
use Rattle.close_rects.proofs.Closeness.{Meet-close, close-Meet}
use Rattle.close_rects.proofs.Rows.{NoneClose, rest_at-found, rest_at-next}
use Rattle.std.proofs.lemmas.Bool.{false_from_ne_true}

fit_from : (n : ℕ) (rects : List Extent) → All HasInside rects → All IsExtentInWideReach rects → All IsFit (map fresh (enumerate_from n rects))
fit_from n [] inside wide = All-nil IsFit
fit_from n (rect ∷ rects) inside wide =
    All-cons IsFit (fresh (n, rect)) (map fresh (enumerate_from (n + 1) rects))
    (record { left = refl; inside = All-head HasInside rect rects inside; wide = All-head IsExtentInWideReach rect rects wide })
    (fit_from (n + 1) rects (All-tail HasInside rect rects inside) (All-tail IsExtentInWideReach rect rects wide))

-- the items of such rectangles fit, in any order
pub fit_moved : (rects : List Extent) (items : List Item) → All HasInside rects → All IsExtentInWideReach rects
    → IsPermutation (map fresh (enumerate_from 0 rects)) items → All IsFit items
fit_moved rects items inside wide moved = All-permutation IsFit (map fresh (enumerate_from 0 rects)) items moved (fit_from 0 rects inside wide)

pub fit_at : (items : List Item) (k : ℕ) (item : Item) → All IsFit items → slice_get items k ≡ Some item → IsFit item
fit_at items k item fit is =
    subst IsFit (get_or_from_slice_get items k item item is) (fit k item (slice_get_within items k item is))

pub entry_at : (items : List Item) (k : ℕ) (item : Item) → slice_get items k ≡ Some item → slice_get (map entry items) k ≡ Some (entry item)
entry_at items k item is = slice_get-map entry items k ∙ ap (option_map entry) is

-- an entry is that of an item
item_of : (items : List Item) (k : ℕ) (a : ℕ × Extent) → slice_get (map entry items) k ≡ Some a
    → (item : Item) × (slice_get items k ≡ Some item) × (entry item ≡ a)
item_of [] k a is = let never : ⊥ = cc in absurd never
item_of (item ∷ items) zero a is = let same : entry item ≡ a = cc in (item, refl, same)
item_of (item ∷ items) (suc k) a is = item_of items k a is

-- where none meets the bounds near a rectangle, none is close to it
pub NoneClose-met : (reach : ℤ) (items : List Item) (item : Item) (low high : ℕ) → pos 0 ≤ℤ reach → All IsFit items → IsFit item
    → NoneMet items (grown (reach -ℤ pos 1) item.rect) low high → NoneClose reach item.rect (map entry items) low high
NoneClose-met reach items item low high reaches fit fits none k b on below is =
    let other : (i : Item) × (slice_get items k ≡ Some i) × (entry i ≡ b) = item_of items k b is in
    let other_fit : IsFit other.0 = fit_at items k other.0 fit other.1 in
    let far : is_close reach item.rect other.0.rect ≡ false = false_from_ne_true (is_close reach item.rect other.0.rect)
    (λ close. none k other.0 on below other.1 (record {
      left = other_fit.left;
      meets = Meet-close reach item.rect other.0.rect fits.inside other_fit.inside reaches close;
    })) in
    subst (λ (p : ℕ × Extent). is_close reach item.rect p.1 ≡ false) other.2 far

-- the first that meets these bounds makes the first close pair of a row
pub IsNextClose-found : (reach : ℤ) (items : List Item) (row at found : ℕ) (item : Item) → pos 0 ≤ℤ reach → All IsFit items
    → slice_get items row ≡ Some item → IsFirstMet items (grown (reach -ℤ pos 1) item.rect) at found
    → IsNextClose reach (map entry items) row at (row, found)
IsNextClose-found reach items row at found item reaches fit here first = record {
  first = rw length-map (slice_get_within items row item here);
  second = rw length-map first.within;
  is = λ a b a_is b_is.
      let other : (i : Item) × (slice_get items found ≡ Some i) × (entry i ≡ b) = item_of items found b b_is in
      let other_fit : IsFit other.0 = fit_at items found other.0 fit other.1 in
      let met : IsMet (grown (reach -ℤ pos 1) item.rect) other.0 = first.met other.0 other.1 in
      let close : is_close reach item.rect other.0.rect ≡ true =
      close-Meet reach item.rect other.0.rect (fit_at items row item fit here).inside other_fit.inside reaches met.meets in
      let entry_is : slice_get (map entry items) row ≡ Some (entry item) = entry_at items row item here in
      let same : entry item ≡ a = cc in
      let near : is_close reach a.1 b.1 ≡ true =
      subst (λ (p : ℕ × Extent). is_close reach p.1 b.1 ≡ true) same
      (subst (λ (p : ℕ × Extent). is_close reach item.rect p.1 ≡ true) other.2 close) in
      rest_at-found reach (map entry items) row at found a b a_is b_is first.on
      (subst (λ (p : ℕ × Extent). NoneClose reach p.1 (map entry items) at found) same
      (NoneClose-met reach items item at found reaches fit (fit_at items row item fit here) first.before))
      near;
}

-- a row in which none meets them any more gives way to the next
pub rest_at-none : (reach : ℤ) (items : List Item) (row at : ℕ) (item : Item) → pos 0 ≤ℤ reach → All IsFit items
    → slice_get items row ≡ Some item → NoneMet items (grown (reach -ℤ pos 1) item.rect) at (length items)
    → rest_at reach (map entry items) row at ≡ rest_at reach (map entry items) (row + 1) (row + 1 + 1)
rest_at-none reach items row at item reaches fit here none =
    let all : length (map entry items) ≡ length items = length-map items entry in
    rest_at-next reach (map entry items) row at (entry item) (entry_at items row item here)
    (rw all (NoneClose-met reach items item at (length items) reaches fit (fit_at items row item fit here) none))
