use Rattle.std.proofs.Common.{◌≡◌, ℕ, zero, suc, List, [], ◌∷◌, Bool, true, false, if◌then◌else◌, length, map, set, Some, refl, ap, sym, subst, ◌∙◌, arith}
use Rattle.std.specs.Prelude.{All, Contains}
use Rattle.std.specs.List.{slice_get}
use Rattle.std.specs.List.Sorted.{IsPermutation}
use Rattle.std.proofs.lemmas.List.Sorted.{IsPermutation-map, All-permutation}
use Rattle.std.proofs.lemmas.List.Elements.{All-nil, All-cons, All-head, All-tail}
use Rattle.geom_core.specs.Extent.{Extent}
use Rattle.geom_core.specs.Rectangles.{Encloses, Meet}
use Rattle.close_rects.specs.declared.items.Item.{Item}
use Rattle.close_rects.specs.Items.{entry, fresh, left_of}
use Rattle.close_rects.specs.Blocks.{IsMet, NoneMet, inside_out}
use Rattle.close_rects.specs.RectSets.{IsHeldBy, NoneIn, Takes}
use Rattle.std_laws.proofs.Members.{member-tail}

-- where no place has one that is left and meets the window, none of those left does
pub NoneIn-left : (items : List Item) (window : Extent) → NoneMet items window 0 (length items) → NoneIn (Meet window) (left_of items)
NoneIn-left [] window none = All-nil _
NoneIn-left (item ∷ items) window none =
    let later : NoneIn (Meet window) (left_of items) =
    NoneIn-left items window (λ k other on below is met. none (suc k) other (omega arith) (omega arith) is met) in
    cases item.taken refl later
  where
    cases : (taken : Bool) → item.taken ≡ taken → NoneIn (Meet window) (left_of items)
        → NoneIn (Meet window) (if taken then left_of items else entry item ∷ left_of items)
    cases true is later = later
    cases false is later =
        let apart : ¬ Meet window item.rect = λ meets. none 0 item (omega arith) (omega arith) refl (record { left = is; meets = meets }) in
        All-cons (λ (p : ℕ × Extent). ¬ Meet window p.1) (entry item) (left_of items) apart later

-- what is put before both lists of a taking
pub Takes-cons : (rect : Extent) (number : ℕ) (first : ℕ × Extent) (before after : List (ℕ × Extent)) → Takes rect number before after
    → Takes rect number (first ∷ before) (first ∷ after)
Takes-cons rect number first before after takes = record {
  front = first ∷ takes.front;
  taken = takes.taken;
  back = takes.back;
  from = ap (λ t. first ∷ t) takes.from;
  left = ap (λ t. first ∷ t) takes.left;
  meets = takes.meets;
}

-- an item that is left and meets the rectangle is taken by its mark
pub Takes-marked : (items : List Item) (at : ℕ) (item gone : Item) (rect : Extent) → slice_get items at ≡ Some item → IsMet rect item
    → gone.taken ≡ true → Takes rect item.number (left_of items) (left_of (set items at gone))
Takes-marked [] at item gone rect is met marked = let never : ⊥ = cc in absurd never
Takes-marked (first ∷ items) zero item gone rect is met marked =
    let same : first ≡ item = cc in
    let there : left_of (first ∷ items) ≡ entry item ∷ left_of items =
    ap (λ (i : Item). left_of (i ∷ items)) same ∙ ap (λ b. if b then left_of items else entry item ∷ left_of items) met.left in
    let removed : left_of (gone ∷ items) ≡ left_of items = ap (λ b. if b then left_of items else entry gone ∷ left_of items) marked in
    record { front = []; taken = item.rect; back = left_of items; from = there; left = removed; meets = met.meets }
Takes-marked (first ∷ items) (suc at) item gone rect is met marked =
    cases first.taken (Takes-marked items at item gone rect is met marked)
  where
    cases : (taken : Bool) → Takes rect item.number (left_of items) (left_of (set items at gone))
        → Takes rect item.number (if taken then left_of items else entry first ∷ left_of items)
        (if taken then left_of (set items at gone) else entry first ∷ left_of (set items at gone))
    cases true takes = takes
    cases false takes = Takes-cons rect item.number (entry first) _ _ takes

-- where nothing is taken, all are left
pub left_of-fresh : (items : List Item) → All (λ (item : Item). item.taken ≡ false) items → left_of items ≡ map entry items
left_of-fresh [] none = refl
left_of-fresh (item ∷ items) none =
    let head : item.taken ≡ false = All-head (λ (i : Item). i.taken ≡ false) item items none in
    ap (λ b. if b then left_of items else entry item ∷ left_of items) head
    ∙ ap (λ t. entry item ∷ t) (left_of-fresh items (All-tail (λ (i : Item). i.taken ≡ false) item items none))

all_fresh : (rects : List (ℕ × Extent)) → All (λ (item : Item). item.taken ≡ false) (map fresh rects)
all_fresh [] = All-nil _
all_fresh (rect ∷ rects) = All-cons (λ (i : Item). i.taken ≡ false) (fresh rect) (map fresh rects) refl (all_fresh rects)

entries_fresh : (rects : List (ℕ × Extent)) → map entry (map fresh rects) ≡ rects
entries_fresh [] = refl
entries_fresh (rect ∷ rects) = ap (λ t. rect ∷ t) (entries_fresh rects)

-- of items in another order none is taken
pub none_taken : (rects : List (ℕ × Extent)) (items : List Item) → IsPermutation (map fresh rects) items
    → All (λ (item : Item). item.taken ≡ false) items
none_taken rects items moved = All-permutation (λ (i : Item). i.taken ≡ false) (map fresh rects) items moved (all_fresh rects)

-- and they have the same rectangles with the same numbers
pub entries_moved : (rects : List (ℕ × Extent)) (items : List Item) → IsPermutation (map fresh rects) items
    → IsPermutation rects (map entry items)
entries_moved rects items moved =
    let P : List (ℕ × Extent) → Type 0 = λ t. IsPermutation t (map entry items) in
    subst P (entries_fresh rects) (IsPermutation-map entry (map fresh rects) items moved)

pub left_moved : (rects : List (ℕ × Extent)) (items : List Item) → IsPermutation (map fresh rects) items → IsPermutation rects (left_of items)
left_moved rects items moved = rw (left_of-fresh items (none_taken rects items moved)) (entries_moved rects items moved)

-- just what holds a rectangle meets its sides inside out
pub NoneIn-inside_out : (rect : Extent) (rects : List (ℕ × Extent)) → NoneIn (Meet (inside_out rect)) rects
    → NoneIn (λ held. Encloses held rect) rects
NoneIn-inside_out rect rects none k d within holds =
    none k d within (record { left = holds.right; right = holds.left; low = holds.high; high = holds.low })

-- an item that is left stands among those left
pub left_of-contains : (items : List Item) (at : ℕ) (item : Item) → slice_get items at ≡ Some item → item.taken ≡ false
    → Contains (left_of items) (entry item)
left_of-contains [] at item is left = let never : ⊥ = cc in absurd never
left_of-contains (first ∷ items) zero item is left =
    let same : first ≡ item = cc in
    let there : left_of (first ∷ items) ≡ entry item ∷ left_of items =
    ap (λ (i : Item). left_of (i ∷ items)) same ∙ ap (λ b. if b then left_of items else entry item ∷ left_of items) left in
    let P : List (ℕ × Extent) → Type 0 = λ t. Contains t (entry item) in
    subst P (sym there) (0, omega arith, refl)
left_of-contains (first ∷ items) (suc at) item is left = cases first.taken (left_of-contains items at item is left)
  where
    cases : (taken : Bool) → Contains (left_of items) (entry item)
        → Contains (if taken then left_of items else entry first ∷ left_of items) (entry item)
    cases true among = among
    cases false among = member-tail (entry first) (left_of items) (entry item) among

-- an item that meets a rectangle's sides inside out holds it
pub IsHeldBy-met : (items : List Item) (at : ℕ) (item : Item) (rect : Extent) → slice_get items at ≡ Some item → IsMet (inside_out rect) item
    → IsHeldBy rect (left_of items) item.number
IsHeldBy-met items at item rect is met = record {
  holder = item.rect;
  among = left_of-contains items at item is met.left;
  holds = record { left = met.meets.right; low = met.meets.high; right = met.meets.left; high = met.meets.low };
}
