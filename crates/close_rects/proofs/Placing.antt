use Rattle.std.proofs.Common.{◌≡◌, ◌+◌, ◌<◌, ◌≤◌, ◌-ℤ◌, pos, ℕ, zero, suc, List, [], ◌∷◌, Bool, true, false, if◌then◌else◌, eqb, ltb, length, map, drop, Some, refl, ap, sym, subst, ◌∙◌, ◌++◌, append_assoc, arith, sum_by}
use Rattle.std.specs.Prelude.{All}
use Rattle.std.specs.Option.{option_map}
use Rattle.std.specs.List.{slice_get, enumerate_from}
use Rattle.std.specs.List.Sorted.{IsPermutation, IsSorted}
use Rattle.std.specs.Ordering.{nat_cmp}
use Rattle.std.proofs.lemmas.Bool.{eqb-false, ne_eqb, false_from_ne_true, le-ltb, lt-ltb}
use Rattle.std.proofs.lemmas.List.Elements.{All-cons, All-map, All-nil}
use Rattle.std.proofs.lemmas.List.Sorted.{All-permutation, sum_by-IsPermutation}
use Rattle.std.proofs.lemmas.List.{append-nil, length-map}
use Rattle.std.proofs.lemmas.List.Sums.{sum_by-cons}
use Rattle.std.proofs.lemmas.Option.{get_or_from_slice_get, slice_get-map, slice_get_within}
use Rattle.geom_core.specs.Extent.{Extent}
use Rattle.geom_core.specs.Reach.{IsExtentInWideReach}
use Rattle.geom_core.specs.Rectangles.{grown}
use Rattle.close_rects.specs.declared.items.Item.{Item}
use Rattle.close_rects.specs.declared.member.Member.{Member}
use Rattle.close_rects.specs.ClosePairs.{is_close}
use Rattle.close_rects.specs.Crowds.{KeepsInReach, area, is_crowded, places_from}
use Rattle.close_rects.specs.Items.{fresh, HasInside, IsFit}
use Rattle.close_rects.specs.Kins.{AreNumbered, ArePlaced, IsFirstStranger, IsStranger, NoneStrange, class_of, is_later, numbers_of}
use Rattle.close_rects.proofs.Closeness.{Meet-close, close-Meet}
use Rattle.close_rects.proofs.Fits.{fit_at, fit_moved}
use Rattle.std_laws.proofs.Places.{drop-here, drop-past, get-dropped}
use Rattle.std_laws.proofs.Rising.{RisesFrom, hit, rises-sorted, rising-same, frequency, frequency-cons}

-- these are the members from place n on
abbrev pub StandFrom : List Member → ℕ → List Member → Type 0
StandFrom members n bs = (k : ℕ) (b : Member) → slice_get bs k ≡ Some b → slice_get members (n + k) ≡ Some b

pub StandFrom-first : (members : List Member) (n : ℕ) (b : Member) (bs : List Member) → StandFrom members n (b ∷ bs)
    → slice_get members n ≡ Some b
StandFrom-first members n b bs stand = let here : n + 0 ≡ n = omega arith in ap (λ k. slice_get members k) (sym here) ∙ stand 0 b refl

pub StandFrom-later : (members : List Member) (n : ℕ) (b : Member) (bs : List Member) → StandFrom members n (b ∷ bs)
    → StandFrom members (n + 1) bs
StandFrom-later members n b bs stand k other is =
    let step : n + 1 + k ≡ n + suc k = omega arith in ap (λ i. slice_get members i) step ∙ stand (suc k) other is

pub StandFrom-drop : (members : List Member) (n : ℕ) → StandFrom members n (drop n members)
StandFrom-drop members n k b is = sym (get-dropped members n k) ∙ is

pub StandFrom-all : (members : List Member) → StandFrom members 0 members
StandFrom-all members k b is = let here : 0 + k ≡ k = omega arith in ap (λ i. slice_get members i) here ∙ is

-- the class of a member by its place
pub class_of-at : (members : List Member) (n : ℕ) (b : Member) → slice_get members n ≡ Some b → class_of members n ≡ b.class
class_of-at members n b is =
    get_or_from_slice_get (map (λ (m : Member). m.class) members) n b.class 0
    (slice_get-map (λ (m : Member). m.class) members n ∙ ap (option_map (λ (m : Member). m.class)) is)

-- the rectangle of a member by its place
pub inside_at : (members : List Member) (n : ℕ) (b : Member) → All HasInside (map area members) → slice_get members n ≡ Some b → HasInside b.rect
inside_at members n b inside is =
    let there : slice_get (map area members) n ≡ Some b.rect = slice_get-map area members n ∙ ap (option_map area) is in
    subst HasInside (get_or_from_slice_get (map area members) n b.rect b.rect there)
    (inside n b.rect (slice_get_within (map area members) n b.rect there))

pub reach_at : (members : List Member) (n : ℕ) (b : Member) → All KeepsInReach members → slice_get members n ≡ Some b → KeepsInReach b
reach_at members n b reach is = subst KeepsInReach (get_or_from_slice_get members n b b is) (reach n b (slice_get_within members n b is))

pub fit_placed : (members : List Member) (items : List Item) → ArePlaced members items → All IsFit items
fit_placed members items placed =
    fit_moved (map area members) items placed.inside
    (All-map IsExtentInWideReach area members (λ k d within. (placed.reach k d within).wide)) placed.moved

-- a test that asks whether an item stands after the row, and for one thing more
is_later-far : (members : List Member) (row : ℕ) (a : Member) (item : Item) → ltb row item.number ≡ false → is_later members row a item ≡ false
is_later-far members row a item early =
    ap (λ t. if t then (if eqb a.class (class_of members item.number) then false else is_close a.reach a.rect item.rect) else false) early

-- where none is a stranger, none is counted
pub later-none : (members : List Member) (row : ℕ) (a : Member) (items : List Item) (low high : ℕ) → HasInside a.rect → KeepsInReach a → All IsFit items
    → NoneStrange members items (grown (a.reach -ℤ pos 1) a.rect) a.class low high → (k : ℕ) (item : Item) → low ≤ k → k < high
    → slice_get items k ≡ Some item → is_later members row a item ≡ false
later-none members row a items low high inside reach fit none k item on below is =
    by_row (ltb row item.number) (by_class (eqb a.class (class_of members item.number)) refl)
  where
    by_row : (late : Bool) → (if eqb a.class (class_of members item.number) then false else is_close a.reach a.rect item.rect) ≡ false
        → (if late then (if eqb a.class (class_of members item.number) then false else is_close a.reach a.rect item.rect) else false) ≡ false
    by_row true far = far
    by_row false far = refl

    by_class : (same : Bool) → eqb a.class (class_of members item.number) ≡ same
        → (if same then false else is_close a.reach a.rect item.rect) ≡ false
    by_class true is_same = refl
    by_class false other =
        let fits : IsFit item = fit_at items k item fit is in
        false_from_ne_true (is_close a.reach a.rect item.rect)
        (λ close. none k item on below is (record {
          met = record { left = fits.left; meets = Meet-close a.reach a.rect item.rect inside fits.inside reach.low close };
          other = λ same. eqb-false a.class (class_of members item.number) other (sym same);
        }))

-- a stranger is counted where it stands after the row
pub later-strange : (members : List Member) (row : ℕ) (a : Member) (items : List Item) (k : ℕ) (item : Item) → HasInside a.rect → KeepsInReach a
    → All IsFit items → slice_get items k ≡ Some item → IsStranger members (grown (a.reach -ℤ pos 1) a.rect) a.class item
    → is_later members row a item ≡ ltb row item.number
later-strange members row a items k item inside reach fit is strange =
    let other : eqb a.class (class_of members item.number) ≡ false =
    ne_eqb a.class (class_of members item.number) (λ same. strange.other (sym same)) in
    let close : is_close a.reach a.rect item.rect ≡ true =
    close-Meet a.reach a.rect item.rect inside (fit_at items k item fit is).inside reach.low strange.met.meets in
    let passes : (if eqb a.class (class_of members item.number) then false else is_close a.reach a.rect item.rect) ≡ true =
    ap (λ t. if t then false else is_close a.reach a.rect item.rect) other ∙ close in
    ap (λ t. if ltb row item.number then t else false) passes ∙ by_row (ltb row item.number)
  where
    by_row : (late : Bool) → (if late then true else false) ≡ late
    by_row true = refl
    by_row false = refl

-- items that don't pass give no number
pub numbers_of-past : (test : Item → Bool) (items : List Item) (low high : ℕ) → low ≤ high
    → ((k : ℕ) (item : Item) → low ≤ k → k < high → slice_get items k ≡ Some item → test item ≡ false)
    → numbers_of test (drop low items) ≡ numbers_of test (drop high items)
numbers_of-past test [] zero zero on none = refl
numbers_of-past test [] zero (suc high) on none = refl
numbers_of-past test [] (suc low) zero on none = refl
numbers_of-past test [] (suc low) (suc high) on none = refl
numbers_of-past test (item ∷ items) zero zero on none = refl
numbers_of-past test (item ∷ items) zero (suc high) on none =
    ap (λ t. if t then item.number ∷ numbers_of test items else numbers_of test items) (none 0 item (omega arith) (omega arith) refl)
    ∙ numbers_of-past test items zero high (omega arith) (λ k other from below is. none (suc k) other (omega arith) (omega arith) is)
numbers_of-past test (item ∷ items) (suc low) zero on none = absurd (omega arith)
numbers_of-past test (item ∷ items) (suc low) (suc high) on none =
    numbers_of-past test items low high (omega arith) (λ k other from below is. none (suc k) other (omega arith) (omega arith) is)

pub numbers_of-here : (test : Item → Bool) (items : List Item) (k : ℕ) (item : Item) → slice_get items k ≡ Some item
    → numbers_of test (drop k items) ≡ (if test item then item.number ∷ numbers_of test (drop (suc k) items) else numbers_of test (drop (suc k) items))
numbers_of-here test items k item is = ap (numbers_of test) (drop-here items k item is)

-- the next stranger, whose number is put to those that were found if it stands after the row
pub found-more : (members : List Member) (items : List Item) (row : ℕ) (a : Member) (at found : ℕ) (item : Item) (before after : List ℕ)
    → ArePlaced members items → slice_get members row ≡ Some a → slice_get items found ≡ Some item
    → IsFirstStranger members items (grown (a.reach -ℤ pos 1) a.rect) a.class at found
    → after ≡ (if ltb row item.number then before ++ item.number ∷ [] else before)
    → before ++ numbers_of (is_later members row a) (drop at items) ≡ numbers_of (is_later members row a) items
    → after ++ numbers_of (is_later members row a) (drop (found + 1) items) ≡ numbers_of (is_later members row a) items
found-more members items row a at found item before after placed here there first is rest =
    cases (ltb row item.number) is counted ∙ ap (λ t. before ++ t) (sym next) ∙ rest
  where
    test : Item → Bool
    test = is_later members row a

    inside : HasInside a.rect
    inside = inside_at members row a placed.inside here

    reach : KeepsInReach a
    reach = reach_at members row a placed.reach here

    fit : All IsFit items
    fit = fit_placed members items placed

    next : numbers_of test (drop at items) ≡ numbers_of test (drop found items)
    next = numbers_of-past test items at found first.on (later-none members row a items at found inside reach fit first.before)

    later : test item ≡ ltb row item.number
    later = later-strange members row a items found item inside reach fit there (first.strange item there)

    step : suc found ≡ found + 1
    step = omega arith

    counted : numbers_of test (drop found items)
        ≡ (if ltb row item.number then item.number ∷ numbers_of test (drop (found + 1) items) else numbers_of test (drop (found + 1) items))
    counted =
        numbers_of-here test items found item there
        ∙ ap (λ k. if test item then item.number ∷ numbers_of test (drop k items) else numbers_of test (drop k items)) step
        ∙ ap (λ t. if t then item.number ∷ numbers_of test (drop (found + 1) items) else numbers_of test (drop (found + 1) items)) later

    cases : (late : Bool) → after ≡ (if late then before ++ item.number ∷ [] else before)
        → numbers_of test (drop found items)
        ≡ (if late then item.number ∷ numbers_of test (drop (found + 1) items) else numbers_of test (drop (found + 1) items))
        → after ++ numbers_of test (drop (found + 1) items) ≡ before ++ numbers_of test (drop found items)
    cases true put starts =
        ap (λ t. t ++ numbers_of test (drop (found + 1) items)) put
        ∙ append_assoc before (item.number ∷ []) (numbers_of test (drop (found + 1) items))
        ∙ ap (λ t. before ++ t) (sym starts)
    cases false put starts = ap (λ t. t ++ numbers_of test (drop (found + 1) items)) put ∙ ap (λ t. before ++ t) (sym starts)

-- where no stranger is left, all are found
pub found-all : (members : List Member) (items : List Item) (row : ℕ) (a : Member) (at : ℕ) (found : List ℕ) → ArePlaced members items
    → slice_get members row ≡ Some a → at ≤ length items
    → NoneStrange members items (grown (a.reach -ℤ pos 1) a.rect) a.class at (length items)
    → found ++ numbers_of (is_later members row a) (drop at items) ≡ numbers_of (is_later members row a) items
    → found ≡ numbers_of (is_later members row a) items
found-all members items row a at found placed here within none rest =
    let last : numbers_of (is_later members row a) (drop at items) ≡ numbers_of (is_later members row a) (drop (length items) items) =
    numbers_of-past (is_later members row a) items at (length items) within
    (later-none members row a items at (length items) (inside_at members row a placed.inside here) (reach_at members row a placed.reach here)
    (fit_placed members items placed) none) in
    sym (append-nil found)
    ∙ ap (λ t. found ++ numbers_of (is_later members row a) t) (sym (drop-past items (length items) (omega arith)))
    ∙ ap (λ t. found ++ t) (sym last)
    ∙ rest

-- the items in the order of the list, from one after the row on
numbers-after : (members : List Member) (row n : ℕ) (a : Member) (bs : List Member) → row < n → StandFrom members n bs
    → numbers_of (is_later members row a) (map fresh (enumerate_from n (map area bs))) ≡ places_from n a bs
numbers-after members row n a [] after stand = refl
numbers-after members row n a (b ∷ bs) after stand =
    let later : numbers_of (is_later members row a) (map fresh (enumerate_from (n + 1) (map area bs))) ≡ places_from (n + 1) a bs =
    numbers-after members row (n + 1) a bs (omega arith) (StandFrom-later members n b bs stand) in
    let class : class_of members n ≡ b.class = class_of-at members n b (StandFrom-first members n b bs stand) in
    let test : is_later members row a (fresh (n, b.rect)) ≡ is_crowded a b =
    ap (λ t. if t then (if eqb a.class (class_of members n) then false else is_close a.reach a.rect b.rect) else false) (lt-ltb row n after)
    ∙ ap (λ c. if eqb a.class c then false else is_close a.reach a.rect b.rect) class in
    ap (λ t. if t then n ∷ numbers_of (is_later members row a) (map fresh (enumerate_from (n + 1) (map area bs)))
    else numbers_of (is_later members row a) (map fresh (enumerate_from (n + 1) (map area bs)))) test
    ∙ ap (λ t. if is_crowded a b then n ∷ t else t) later

-- and from one up to the row on
numbers-before : (members : List Member) (row n gap : ℕ) (a : Member) (bs : List Member) → row + 1 ≡ n + gap → StandFrom members n bs
    → numbers_of (is_later members row a) (map fresh (enumerate_from n (map area bs))) ≡ places_from (row + 1) a (drop gap bs)
numbers-before members row n zero a bs sum stand =
    let here : n ≡ row + 1 = omega arith in
    numbers-after members row n a bs (omega arith) stand ∙ ap (λ m. places_from m a bs) here
numbers-before members row n (suc gap) a [] sum stand = refl
numbers-before members row n (suc gap) a (b ∷ bs) sum stand =
    ap (λ t. if t then n ∷ numbers_of (is_later members row a) (map fresh (enumerate_from (n + 1) (map area bs)))
    else numbers_of (is_later members row a) (map fresh (enumerate_from (n + 1) (map area bs))))
    (is_later-far members row a (fresh (n, b.rect)) (le-ltb row n (omega arith)))
    ∙ numbers-before members row (n + 1) gap a bs (omega arith) (StandFrom-later members n b bs stand)

-- the places of a list rise
places-rise : (m n : ℕ) (a : Member) (bs : List Member) → m ≤ n → RisesFrom m (places_from n a bs)
places-rise m n a [] on = tt
places-rise m n a (b ∷ bs) on = cases (is_crowded a b) (places-rise n (n + 1) a bs (omega arith)) (places-rise m (n + 1) a bs (omega arith))
  where
    cases : (t : Bool) → RisesFrom n (places_from (n + 1) a bs) → RisesFrom m (places_from (n + 1) a bs)
        → RisesFrom m (if t then n ∷ places_from (n + 1) a bs else places_from (n + 1) a bs)
    cases true with_it without = (on, with_it)
    cases false with_it without = without

-- what an item adds to a number's count
abbrev weight : (Item → Bool) → ℕ → Item → ℕ
weight test v item = if test item then hit v item.number else 0

times-numbers : (test : Item → Bool) (v : ℕ) (items : List Item) → frequency v (numbers_of test items) ≡ sum_by (weight test v) items
times-numbers test v [] = refl
times-numbers test v (item ∷ items) = cases (test item) (times-numbers test v items) ∙ sym (sum_by-cons (weight test v) item items)
  where
    cases : (t : Bool) → frequency v (numbers_of test items) ≡ sum_by (weight test v) items
        → frequency v (if t then item.number ∷ numbers_of test items else numbers_of test items)
        ≡ (if t then hit v item.number else 0) + sum_by (weight test v) items
    cases true later = frequency-cons v item.number (numbers_of test items) ∙ ap (λ n. hit v item.number + n) later
    cases false later = later ∙ omega arith

-- the numbers of the strangers after a row, sorted, are the places of those that crowd its member
pub places-sorted : (members : List Member) (items : List Item) (row : ℕ) (a : Member) (found sorted : List ℕ) → ArePlaced members items
    → found ≡ numbers_of (is_later members row a) items → IsPermutation found sorted → IsSorted nat_cmp sorted
    → sorted ≡ places_from (row + 1) a (drop (row + 1) members)
places-sorted members items row a found sorted placed is moved in_order =
    rising-same 0 0 sorted (places_from (row + 1) a (drop (row + 1) members)) (rises-sorted sorted in_order)
    (places-rise 0 (row + 1) a (drop (row + 1) members) (omega arith)) (λ v.
    sum_by-IsPermutation (hit v) found sorted moved
    ∙ ap (frequency v) is
    ∙ times-numbers test v items
    ∙ sum_by-IsPermutation (weight test v) start items placed.moved
    ∙ sym (times-numbers test v start)
    ∙ ap (frequency v) (numbers-before members row 0 (row + 1) a members (omega arith) (StandFrom-all members)))
  where
    test : Item → Bool
    test = is_later members row a

    start : List Item
    start = map fresh (enumerate_from 0 (map area members))

-- the places are those of members
pub places-within : (members : List Member) (n : ℕ) (a : Member) (bs : List Member) → StandFrom members n bs
    → All (λ place. place < length members) (places_from n a bs)
places-within members n a [] stand = All-nil _
places-within members n a (b ∷ bs) stand =
    cases (is_crowded a b) (places-within members (n + 1) a bs (StandFrom-later members n b bs stand))
  where
    cases : (t : Bool) → All (λ place. place < length members) (places_from (n + 1) a bs)
        → All (λ place. place < length members) (if t then n ∷ places_from (n + 1) a bs else places_from (n + 1) a bs)
    cases true later =
        All-cons (λ place. place < length members) n (places_from (n + 1) a bs)
        (slice_get_within members n b (StandFrom-first members n b bs stand)) later
    cases false later = later

-- each item stands for one of the rectangles
numbered-start : (n count : ℕ) (rects : List Extent) → n + length rects ≤ count
    → All (λ (item : Item). item.number < count) (map fresh (enumerate_from n rects))
numbered-start n count [] within = All-nil _
numbered-start n count (rect ∷ rects) within =
    All-cons (λ (item : Item). item.number < count) (fresh (n, rect)) (map fresh (enumerate_from (n + 1) rects)) (omega arith)
    (numbered-start (n + 1) count rects (omega arith))

pub numbered-placed : (members : List Member) (items : List Item) → IsPermutation (map fresh (enumerate_from 0 (map area members))) items
    → AreNumbered members items
numbered-placed members items moved =
    let all : length (map area members) ≡ length members = length-map members area in
    All-permutation (λ (item : Item). item.number < length members) (map fresh (enumerate_from 0 (map area members))) items moved
    (numbered-start 0 (length members) (map area members) (omega arith))
