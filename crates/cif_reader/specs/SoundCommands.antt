-- sound commands
use Rattle.std.proofs.Props.{props}
use Rattle.cif_text.specs.declared.command.CifCommand.{CifCommand}
use Rattle.cif_text.specs.declared.command.CifCommand.TheVariants as commands
use Rattle.cif_text.specs.Sound.{IsSound}

-- that a command is sound has one proof at most
pub is_sound-prop : (c : CifCommand) → IsProp (IsSound c)
is_sound-prop (commands.Box long wide cx cy upright) = hlevel props
is_sound-prop (commands.Wire width path) = hlevel props
is_sound-prop (commands.Polygon path) = hlevel props
is_sound-prop (commands.Start n a b) = hlevel props
is_sound-prop (commands.Call n flip quarters dx dy) = hlevel props
is_sound-prop (commands.Layer name) = hlevel props
is_sound-prop commands.Finish = hlevel props
is_sound-prop commands.Comment = hlevel props
is_sound-prop (commands.User kind text) = hlevel props
is_sound-prop commands.End = hlevel props
