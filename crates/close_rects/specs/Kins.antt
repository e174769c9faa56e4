-- blocks of members that are all of one class, and the first member of another class that meets a window
use Rattle.std.specs.Prelude.{◌≡◌, ◌≢◌, ◌+◌, ◌*◌, ◌<◌, ◌≤◌, ◌==◌, ℕ, List, [], ◌∷◌, Bool, false, nat_lt, if◌then◌else◌, length, map, All, Some}
use Rattle.std.specs.List.{slice_get, slice_index, enumerate_from}
use Rattle.std.specs.List.Sorted.{IsPermutation}
use Rattle.geom_core.specs.Extent.{Extent}
use Rattle.close_rects.specs.declared.items.Item.{Item}
use Rattle.close_rects.specs.declared.kin.Kin.{Kin}
use Rattle.close_rects.specs.declared.member.Member.{Member}
use Rattle.close_rects.specs.Blocks.{IsMet}
use Rattle.close_rects.specs.Crowds.{area, KeepsInReach}
use Rattle.close_rects.specs.ClosePairs.{is_close}
use Rattle.close_rects.specs.Items.{fresh, HasInside}

-- the class of the member at a place
abbrev pub class_of : List Member → ℕ → ℕ
class_of members place = slice_index (map (λ m. m.class) members) place

-- the items from one place on up to before another are all of one class
abbrev pub AreOfClass : List Member → List Item → ℕ → ℕ → ℕ → Type 0
AreOfClass members items low high class =
    (k : ℕ) (item : Item) → low ≤ k → k < high → slice_get items k ≡ Some item → class_of members item.number ≡ class

-- where the kin of block b names a class, the items of this block, or of those up to before the next, are all of that class
pub record IsKin (members : List Member) (items : List Item) (count b : ℕ) (kin : Kin) : Type 0 where
  pub on : b < kin.next
  pub within : kin.next ≤ count
  pub own : (class : ℕ) → kin.own ≡ Some class → AreOfClass members items (8 * b) (8 * b + 8) class
  pub all : (class : ℕ) → kin.all ≡ Some class → AreOfClass members items (8 * b) (8 * kin.next) class

-- the kin of each block
abbrev pub AreKins : List Member → List Item → List Kin → Type 0
AreKins members items kins = (b : ℕ) (kin : Kin) → slice_get kins b ≡ Some kin → IsKin members items (length kins) b kin

-- an item that meets a window and stands for a member of another class
pub record IsStranger (members : List Member) (window : Extent) (class : ℕ) (item : Item) : Type 0 where
  pub met : IsMet window item
  pub other : class_of members item.number ≢ class

-- none from one place on up to before another does
abbrev pub NoneStrange : List Member → List Item → Extent → ℕ → ℕ → ℕ → Type 0
NoneStrange members items window class low high =
    (k : ℕ) (item : Item) → low ≤ k → k < high → slice_get items k ≡ Some item → ¬ IsStranger members window class item

-- the first place of one that does
pub record IsFirstStranger (members : List Member) (items : List Item) (window : Extent) (class from k : ℕ) : Type 0 where
  pub on : from ≤ k
  pub within : k < length items
  pub strange : (item : Item) → slice_get items k ≡ Some item → IsStranger members window class item
  pub before : NoneStrange members items window class from k

-- members, and items that stand for them
pub record Crowded : Type 0 where
  pub members : List Member
  pub items : List Item

-- each item stands for a member
abbrev pub AreNumbered : List Member → List Item → Type 0
AreNumbered members items = All (λ (item : Item). item.number < length members) items

-- the items are those of the members' rectangles, in any order, and these have sides
pub record ArePlaced (members : List Member) (items : List Item) : Type 0 where
  pub moved : IsPermutation (map fresh (enumerate_from 0 (map area members))) items
  pub inside : All HasInside (map area members)
  pub reach : All KeepsInReach members

-- an item after a row that stands for a member of another class close to this one
abbrev pub is_later : List Member → ℕ → Member → Item → Bool
is_later members row a item =
    if nat_lt row item.number then (if a.class == class_of members item.number then false else is_close a.reach a.rect item.rect) else false

-- the numbers of the items that pass a test
abbrev pub numbers_of : (Item → Bool) → List Item → List ℕ
numbers_of test [] = []
numbers_of test (item ∷ items) = if test item then item.number ∷ numbers_of test items else numbers_of test items

-- a number with those of the members at some places
abbrev pub pairs_of : List Member → ℕ → List ℕ → List (ℕ × ℕ)
pairs_of members number places = map (λ place. (number, slice_index (map (λ m. m.number) members) place)) places
