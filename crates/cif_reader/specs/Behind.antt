-- the progress that the program keeps
use Rattle.std.specs.Prelude.{◌≡◌, ◌≤◌, ℕ, [], length, Bool, is_some, Option, Some, None, option_map, IfSome}
use Rattle.cif_reader.specs.declared.inside.Open.{Open}
use Rattle.cif_reader.specs.declared.outside.Main.{Main}
use Rattle.cif_reader.specs.declared.standing.Standing.{Standing}
use Rattle.cif_reader.specs.Expansion.{Progress}
use Rattle.cif_reader.specs.Limits.{most_shapes}
use Rattle.cif_reader.specs.Standing.{definition_seen, main_seen, IsOpen}
use Rattle.cif_reader.specs.Tabled.{table_with}

-- the depth so far of the definition that is open, or of the main level
abbrev pub depth_seen : Main → Option Open → ℕ
depth_seen main None = main.depth
depth_seen main (Some definition) = definition.kept.depth

-- what stands behind some commands
unfoldable pub seen : Standing → Progress
seen s = record {
  state = record { main = main_seen s.main; symbols = s.table.symbols; inside = option_map (definition_seen s.table.symbols) s.definition };
  depths = s.table.depths;
  depth = depth_seen s.main s.definition;
}

-- the definition that is open is so, and the main level has not too many shapes
pub record IsStanding (s : Standing) : Type 0 where
  pub few : length s.main.shapes.items ≤ most_shapes
  pub definition_is : IfSome s.definition (IsOpen s.table.symbols)

-- this stands behind a command, with a definition open or not
pub record IsBehind (s : Standing) (inside : Bool) (p : Progress) : Type 0 where
  pub is_seen : seen s ≡ p
  pub is : IsStanding s
  pub is_open : is_some s.definition ≡ inside

-- the definition that was open has finished
pub record IsFinished (old new : Standing) (definition : Open) : Type 0 where
  pub main_is : new.main ≡ record old.main { depth = definition.kept.depth }
  pub table_is : new.table ≡ table_with old.table definition.kept
  pub outside : new.definition ≡ None

-- a definition of this number and this scale that has just started
pub record IsOpened (n a b : ℕ) (definition : Open) : Type 0 where
  pub number : definition.kept.number ≡ n
  pub name : definition.kept.name ≡ None
  pub items : definition.kept.items.items ≡ []
  pub count : definition.kept.count ≡ 0
  pub bounds : definition.kept.bounds ≡ None
  pub depth : definition.kept.depth ≡ 1
  pub a_is : definition.pen.scale.a ≡ a
  pub b_is : definition.pen.scale.b ≡ b
  pub layer : definition.pen.layer ≡ None
