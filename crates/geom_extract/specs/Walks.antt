-- a walk along such chains
use Rattle.std.specs.Prelude.{◌≡◌, ◌<◌, ◌≤◌, ◌+◌, ◌==◌, ℕ, List, [], ◌∷◌, ◌++◌, length, Some, slice_get, slice_index, set, Contains}
use Rattle.std.specs.List.{count_by}
use Rattle.geom_core.specs.Extent.{Extent}
use Rattle.geom_extract.specs.Webs.{Chain, Linked, Web}

-- a shape has no class yet
abbrev pub IsFree : List ℕ → ℕ → Type 0
IsFree classes x = slice_index classes x ≡ 4294967295

-- how many have none
abbrev pub free_in : List ℕ → ℕ
free_in classes = count_by (λ c. c == 4294967295) classes

-- classes that were given stay
abbrev pub IsGrown : List ℕ → List ℕ → Type 0
IsGrown before after = (x : ℕ) → (IsFree before x → ⊥) → slice_index after x ≡ slice_index before x

-- what stood in the queue stays in its place
pub record IsLonger (before after : List ℕ) : Type 0 where
  pub len : length before ≤ length after
  pub same : (i : ℕ) → i < length before → slice_index after i ≡ slice_index before i

-- a shape had a class, and all stays, or it is given this one and put in the queue
pub data IsReached (x start : ℕ) (before after queue longer : List ℕ) : Type 0 where
  known : (IsFree before x → ⊥) → after ≡ before → longer ≡ queue → IsReached x start before after queue longer
  found : IsFree before x → after ≡ set before x start → longer ≡ queue ++ x ∷ [] → IsReached x start before after queue longer

-- of the rectangles those are left that lead to shapes without a class, at least
pub record IsRest (web : Web) (classes : List ℕ) (set : List (ℕ × Extent)) : Type 0 where
  pub len : length classes ≡ length web.asks
  pub from : (p : ℕ × Extent) → Contains set p → slice_get web.rects p.0 ≡ Some p.1
  pub free : (number shape : ℕ) (rect : Extent) → slice_get web.rects number ≡ Some rect → slice_get web.ends number ≡ Some shape
      → IsFree classes shape → Contains set (number, rect)

-- a shape stands in the queue
pub record IsQueued (queue : List ℕ) (x : ℕ) : Type 0 where
  pub place : ℕ
  pub within : place < length queue
  pub is : slice_index queue place ≡ x

-- a shape that the walk has come to
pub record IsOfWalk (web : Web) (start : ℕ) (before classes : List ℕ) (x : ℕ) : Type 0 where
  pub shape : x < length web.asks
  pub free : IsFree before x
  pub class : slice_index classes x ≡ start
  pub chain : Chain web start x

-- since the walk began, those in the queue have been given the class, and no others
pub record IsWalk (web : Web) (start : ℕ) (before classes queue : List ℕ) : Type 0 where
  pub kept : IsGrown before classes
  pub given : (x : ℕ) → x < length web.asks → IsFree before x → (IsFree classes x → ⊥) → IsQueued queue x
  pub queued : (i : ℕ) → i < length queue → IsOfWalk web start before classes (slice_index queue i)
  pub room : length queue + free_in classes ≤ length web.asks

-- each class that has been given is that of a shape from which a chain leads here, and what a shape with a class is linked to has the same
pub record IsSettled (web : Web) (classes : List ℕ) (set : List (ℕ × Extent)) : Type 0 where
  pub rest : IsRest web classes set
  pub chain : (x : ℕ) → x < length web.asks → (IsFree classes x → ⊥) → Chain web (slice_index classes x) x
  pub closed : (x y : ℕ) → x < length web.asks → (IsFree classes x → ⊥) → Linked web x y → slice_index classes y ≡ slice_index classes x

-- a web, and the classes that its shapes have been given
pub record Classed : Type 0 where
  pub web : Web
  pub classes : List ℕ

-- a walk along the chains of a web from a shape
pub record Walking : Type 0 where
  pub web : Web
  pub start : ℕ
  pub classes : List ℕ
  pub queue : List ℕ

-- the shapes that one leads to have got a class and stand in the queue, if they had none
pub record IsGone (web : Web) (start : ℕ) (To : ℕ → Type 0) (before queue after more : List ℕ) : Type 0 where
  pub grown : IsGrown before after
  pub longer : IsLonger queue more
  pub walk : (began : List ℕ) → ((y : ℕ) → To y → Chain web start y) → IsWalk web start began before queue → IsWalk web start began after more
  pub reached : (y : ℕ) → To y → IsFree after y → ⊥
