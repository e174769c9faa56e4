-- the names of ports by their sides, as lists
use Rattle.std.specs.Prelude.{◌<◌, ◌^◌, ℕ, List, ◌++◌, length, map}
use Rattle.std.specs.Borrow.{Bor}
use Rattle.std.specs.List.{AllByRecursion, IsDistinct}
use Rattle.std.specs.Str.{bytes_eq}
use Rattle.geom_core.specs.Names.{IsName}
use Rattle.yal_reader.specs.declared.file.Line.{Line}
use Rattle.port_rows.specs.Ports.{north_ports, south_ports}

-- the names of ports at the lower and at the upper edge
pub record PortNames : Type 0 where
  pub south : List (List ℕ)
  pub north : List (List ℕ)

abbrev pub ports_in : List Line → PortNames
ports_in lines = record { south = south_ports lines; north = north_ports lines }

abbrev pub lent_lines : List (Bor Line) → List Line
lent_lines lent = map (λ (l : Bor Line). l.now) lent

-- fewer than 2 ^ 32 ports, with different names that can be written
pub record ArePorts (south north : List (List ℕ)) : Type 0 where
  pub different : IsDistinct bytes_eq (south ++ north)
  pub named : AllByRecursion IsName (south ++ north)
  pub few : length (south ++ north) < 2 ^ 32
