-- what a sink has gained of a line: its front, or all of it where no write failed
use Rattle.std.specs.Prelude.{ℕ, List, Option}
use Rattle.shelf_io.specs.Count.{Still}
use Rattle.shelf_io.specs.Told.{EndsWithin, Refines, appended}

-- a sink that is told gained a front of a line, and all of it where the sink's count did not rise
pub record Gains (line : List ℕ) (before after : Option (List ℕ)) (old new : ℕ) : Type 0 where
  pub front : EndsWithin before line after
  pub whole : Still old new → Refines after (appended before line)
