-- bytes that go behind those that were buffered
use Rattle.std.specs.Prelude.{◌≡◌, ◌++◌, ◌*◌, ℕ, List, length, Option}
use Rattle.limits.specs.declared.TheConstants.{PIECE}
use Rattle.shelf_io.specs.Told.{Refines, appended}

-- Bytes went behind those that were buffered: what was put to a sink that is told, and what is buffered then, are what was buffered before and these
-- bytes; and what was put is whole pieces of 4,096 bytes.
pub record Appends (bytes before after : List ℕ) (old new : Option (List ℕ)) : Type 0 where
  pub put : List ℕ
  pub told : Refines new (appended old put)
  pub whole : put ++ after ≡ before ++ bytes
  pub pieces : ℕ
  pub many : length put ≡ PIECE * pieces
