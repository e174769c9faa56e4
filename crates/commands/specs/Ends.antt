-- which end of a command agrees with the verdict on it
use Rattle.std.specs.Prelude.{◌≡◌, List, Result, Ok, Err, IsOkAnd}
use Rattle.greedy_router.specs.declared.sweep.Routed.{Routed}
use Rattle.commands.specs.Done.{Does, Done, IsToWrite}
use Rattle.commands.specs.Accepted.{Accepted}
use Rattle.command_ends.specs.declared.refusal.Refusal.{Refusal}
use Rattle.command_ends.specs.declared.refusal.Refusal.TheVariants as refusals
use Rattle.command_ends.specs.declared.stop.Stop.{Stop}
use Rattle.command_ends.specs.declared.stop.Stop.TheVariants.{Refused, ReadFault, WriteFault}

-- a command that ended so and keeps these routed channels ended as is said, unless reading failed or memory ran out; it could not write a file
-- only where there is one to be written
abbrev pub Ends : List Routed → Result Done Stop → Result Accepted Refusal → Type 0
Ends kept (Ok done) said = IsOkAnd said (Does kept done)
Ends kept (Err (Refused refusals.Memory)) said = Unit {0}
Ends kept (Err (Refused refusal)) said = said ≡ Err refusal
Ends kept (Err ReadFault) said = Unit {0}
Ends kept (Err WriteFault) said = IsOkAnd said IsToWrite
