-- what a file that was read always has
use Rattle.std.specs.Prelude.{◌≡◌, ◌≤◌, ◌≤ℤ◌, ℕ, ℤ, pos, negsuc, List, length, map, Bool, true, false, ◌&&◌, not, is_some, IfSome}
use Rattle.std.specs.List.{AllByRecursion, IsDistinct}
use Rattle.std.specs.Str.{bytes_eq}
use Rattle.limits.specs.declared.TheConstants.{MOST_COORDINATE}
use Rattle.geom_core.specs.Names.{IsName}
use Rattle.yal_reader.specs.declared.file.Kind.{Kind}
use Rattle.yal_reader.specs.declared.file.Kind.TheVariants as kinds
use Rattle.yal_reader.specs.declared.file.Flow.{Flow}
use Rattle.yal_reader.specs.declared.file.Flow.TheVariants as flows
use Rattle.yal_reader.specs.declared.file.Spot.{Spot}
use Rattle.yal_reader.specs.declared.file.Line.{Line}
use Rattle.yal_reader.specs.declared.file.Call.{Call}
use Rattle.yal_reader.specs.declared.file.Module.{Module}
use Rattle.yal_reader.specs.declared.file.YalFile.{YalFile}

-- a number of magnitude at most 100,000,000
pub record IsCoordinate (z : ℤ) : Type 0 where
  pub low : negsuc 99999999 ≤ℤ z
  pub high : z ≤ℤ pos MOST_COORDINATE

abbrev pub is_standard : Kind → Bool
is_standard kinds.Standard = true
is_standard _ = false

abbrev pub is_parent : Kind → Bool
is_parent kinds.Parent = true
is_parent _ = false

abbrev pub is_power : Flow → Bool
is_power flows.PWR = true
is_power flows.GND = true
is_power _ = false

-- a spot is due in the lines of STANDARD modules whose flow is no power
abbrev pub has_spot : Kind → Flow → Bool
has_spot kind flow = is_standard kind && not (is_power flow)

pub record IsKeptSpot (s : Spot) : Type 0 where
  pub x : IsCoordinate s.x
  pub y : IsCoordinate s.y
  pub layer : IsName s.layer

-- a line where a spot is due has one
pub record IsKeptLine (kind : Kind) (l : Line) : Type 0 where
  pub name : IsName l.name
  pub has : has_spot kind l.flow ≡ true → is_some l.spot ≡ true
  pub spot : IfSome l.spot IsKeptSpot

pub record IsKeptCall (c : Call) : Type 0 where
  pub name : IsName c.name
  pub kind : IsName c.«module»
  pub signals : AllByRecursion IsName c.signals

abbrev pub call_names : List Call → List (List ℕ)
call_names calls = map (λ (c : Call). c.name) calls

abbrev pub module_names : List Module → List (List ℕ)
module_names modules = map (λ (m : Module). m.name) modules

-- in a module no two calls have one name
pub record IsKeptModule (m : Module) : Type 0 where
  pub name : IsName m.name
  pub corners : AllByRecursion IsCoordinate m.corners
  pub lines : AllByRecursion (IsKeptLine m.kind) m.lines
  pub calls : AllByRecursion IsKeptCall m.calls
  pub distinct : IsDistinct bytes_eq (call_names m.calls)

-- what every file that was read has; no two modules have one name
pub record IsKept (file : YalFile) : Type 0 where
  pub modules : AllByRecursion IsKeptModule file.modules
  pub distinct : IsDistinct bytes_eq (module_names file.modules)

-- a line has a spot just where one is due
pub record HasSpotWhereDue (kind : Kind) (l : Line) : Type 0 where
  pub due : is_some l.spot ≡ has_spot kind l.flow

-- no line of a file lacks a spot that is due, and none has another
pub record HasSpots (file : YalFile) : Type 0 where
  pub each : AllByRecursion (λ (m : Module). AllByRecursion (HasSpotWhereDue m.kind) m.lines) file.modules

-- a module's lines and calls are at most so many
pub record IsShort (most : ℕ) (m : Module) : Type 0 where
  pub lines : length m.lines ≤ most
  pub calls : length m.calls ≤ most

-- a file's modules, and the lines and the calls of each, are at most so many
pub record HasAtMost (most : ℕ) (file : YalFile) : Type 0 where
  pub modules : length file.modules ≤ most
  pub each : AllByRecursion (IsShort most) file.modules
