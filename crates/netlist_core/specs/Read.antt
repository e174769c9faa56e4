-- what the modules of a file and the calls of its PARENT have
use Rattle.std.specs.Prelude.{◌≤◌, ◌-◌, ◌^◌, List, length}
use Rattle.std.specs.List.{AllByRecursion, IsDistinct}
use Rattle.std.specs.Str.{bytes_eq}
use Rattle.limits.specs.declared.TheConstants.{MOST_INSTANCES}
use Rattle.yal_reader.specs.Kept.{IsKeptCall, IsKeptModule, IsShort, call_names, module_names}
use Rattle.yal_reader.specs.declared.file.Call.{Call}
use Rattle.yal_reader.specs.declared.file.Module.{Module}

-- what the modules of a file that was read have
pub record AreModules (modules : List Module) : Type 0 where
  pub kept : AllByRecursion IsKeptModule modules
  pub short : AllByRecursion (IsShort (2 ^ 32 - 1)) modules
  pub few : length modules ≤ 2 ^ 32 - 1
  pub different : IsDistinct bytes_eq (module_names modules)

-- what the calls of a module that was read have, where they are no more than a design may have instances
pub record AreCalls (calls : List Call) : Type 0 where
  pub kept : AllByRecursion IsKeptCall calls
  pub different : IsDistinct bytes_eq (call_names calls)
  pub few : length calls ≤ MOST_INSTANCES
