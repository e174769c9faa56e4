-- symbols, and what stands behind some commands
use Rattle.std.specs.Prelude.{if◌then◌else◌, ℕ, ◌==◌, List, [], ◌∷◌, Option, Some, None, map}
use Rattle.geom_core.specs.declared.layout.Shape.{Shape}
use Rattle.geom_core.specs.declared.layout.Cell.{Cell}
use Rattle.geom_core.specs.Moving.{moved_shape}
use Rattle.geom_core.specs.Turning.{Turning}

-- a symbol whose definition has ended: its number, its name if it has one, and its shapes, with those of what it calls
pub record Symbol : Type 0 where
  pub number : ℕ
  pub name : Option (List ℕ)
  pub shapes : List Shape

-- what drawing commands change: the present layer of a level and its shapes so far, at a scale
pub record Level : Type 0 where
  pub a : ℕ
  pub b : ℕ
  pub layer : Option (List ℕ)
  pub shapes : List Shape

-- a definition that is open: the number and the name of its symbol, and its level
pub record Definition : Type 0 where
  pub number : ℕ
  pub name : Option (List ℕ)
  pub level : Level

-- the main level: the level itself, its cells, and the name that waits for a call
pub record Main : Type 0 where
  pub level : Level
  pub cells : List Cell
  pub waiting : Option (List ℕ)

-- the symbol of a number
abbrev pub symbol_of : ℕ → List Symbol → Option Symbol
symbol_of n [] = None
symbol_of n (s ∷ ss) = if s.number == n then Some s else symbol_of n ss

-- what stands behind the commands so far: the main level, the symbols whose definitions have ended, and the definition that is open
pub record State : Type 0 where
  pub main : Main
  pub symbols : List Symbol
  pub inside : Option Definition

-- a symbol's shapes under a turn
abbrev pub moved_shapes : Turning → List Shape → List Shape
moved_shapes turn shapes = map (moved_shape turn) shapes
