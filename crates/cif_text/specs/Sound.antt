-- the commands that a text can give
use Rattle.std.specs.Prelude.{◌≡◌, ◌≤◌, List, [], ◌∷◌, length, Bool, true, false, Result, Ok}
use Rattle.std.specs.List.{AllByRecursion}
use Rattle.geom_core.specs.declared.corner.Corner.{Corner}
use Rattle.region_cut.specs.Steps.{wire_steps, closed_steps}
use Rattle.cif_text.specs.declared.command.CifCommand.{CifCommand}
use Rattle.cif_text.specs.declared.command.CifCommand.TheVariants as commands
use Rattle.cif_text.specs.declared.fault.CifKind.{CifKind}
use Rattle.cif_text.specs.declared.misfit.Misfit.{Misfit}
use Rattle.cif_text.specs.CifReads.{is_end}
use Rattle.cif_text.specs.Commands.{may_stand}
use Rattle.cif_text.specs.Paths.{are_along}
use Rattle.cif_text.specs.Printable.{IsCifNumber, IsSize, IsNatural, IsPart, IsNearCorner}

-- a path that a text can give: it has a point, its points are near, and each step keeps x or y
pub record IsPath (path : List Corner) : Type 0 where
  pub some : 1 ≤ length path
  pub near : AllByRecursion IsNearCorner path
  pub straight : are_along (wire_steps path) ≡ true

-- the path of a polygon that a text can give: it has three points, and the last step leads back to the first one
pub record IsClosedPath (path : List Corner) : Type 0 where
  pub some : 3 ≤ length path
  pub near : AllByRecursion IsNearCorner path
  pub straight : are_along (closed_steps path) ≡ true

-- a command has the numbers that a text can give it
abbrev pub IsSound : CifCommand → Type 0
IsSound (commands.Box long wide cx cy upright) = IsSize long × IsSize wide × IsCifNumber cx × IsCifNumber cy
IsSound (commands.Start n a b) = IsNatural n × IsPart a × IsPart b
IsSound (commands.Call n flip quarters dx dy) = IsNatural n × (quarters ≤ 3) × IsCifNumber dx × IsCifNumber dy
IsSound (commands.Wire width path) = IsSize width × IsPath path
IsSound (commands.Polygon path) = IsClosedPath path
IsSound _ = Unit {0}

-- sound commands whose definitions each start outside of others and finish, up to the one end command; the first argument says
-- whether a definition is open
abbrev pub AreSound : Bool → List CifCommand → Type 0
AreSound inside [] = ⊥
AreSound inside (commands.End ∷ cs) = (inside ≡ false) × (cs ≡ [])
AreSound inside (commands.Finish ∷ cs) = (inside ≡ true) × AreSound false cs
AreSound inside (commands.Start n a b ∷ cs) = (inside ≡ false) × IsSound (commands.Start n a b) × AreSound true cs
AreSound inside (c ∷ cs) = IsSound c × AreSound inside cs

-- a sound command that may stand inside a definition or outside; an end stands outside
pub record IsInPlace (inside : Bool) (c : CifCommand) : Type 0 where
  pub sound : IsSound c
  pub stands : may_stand inside c ≡ true
  pub last : is_end c ≡ true → inside ≡ false

-- the command of a form is sound and no end
pub record IsFormed (c : CifCommand) : Type 0 where
  pub sound : IsSound c
  pub more : is_end c ≡ false

abbrev pub FormIsSound : Result (Result CifCommand CifKind) Misfit → Type 0
FormIsSound (Ok (Ok c)) = IsFormed c
FormIsSound _ = Unit {0}
