-- used modules with their numbers
use Rattle.std.specs.Prelude.{ℕ, ◌<◌, ◌^◌, length}
use Rattle.yal_reader.specs.Kept.{IsKeptModule}
use Rattle.yal_reader.specs.declared.file.Module.{Module}
use Rattle.netlist_core.specs.declared.numbered.Numbered.TheInside.{Inside}

abbrev pub numbered : Inside → ℕ × Module
numbered a = (a.number, a.«module».now)

-- a numbered module is one of a file that was read, with fewer than 2 ^ 32 lines
pub record IsNumbered (a : Inside) : Type 0 where
  pub kept : IsKeptModule a.«module».now
  pub few : length a.«module».now.lines < 2 ^ 32
