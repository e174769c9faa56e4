-- the commands as the names in them, and when a reading gives what the words say
use Rattle.std.specs.Prelude.{◌≡◌, Option, Some, None, Result, Ok, Err, option_map}
use Rattle.command_words.specs.Command.{CheckNames, Command, Names, Source, check, draw, from_file, from_seed, help, import, route}
use Rattle.command_words.specs.Drawing.{DrawNames}
use Rattle.command_words.specs.Importing.{ImportNames}
use Rattle.command_words.specs.declared.command.Check.{Check}
use Rattle.command_words.specs.declared.command.Command as asked
use Rattle.command_words.specs.declared.command.Command.TheVariants as commands
use Rattle.command_words.specs.declared.command.Route.{Route}
use Rattle.command_words.specs.declared.command.Source as asked_source
use Rattle.command_words.specs.declared.command.Source.TheVariants as sources
use Rattle.command_words.specs.declared.command.WordsFault.{WordsFault}
use Rattle.command_words.specs.declared.command.WordsFault.TheVariants.{Usage, Memory}
use Rattle.command_words.specs.declared.draw.Draw.{Draw}
use Rattle.command_words.specs.declared.import.Import.{Import}

-- where a design comes from
abbrev pub source_seen : asked_source.Source → Source
source_seen (sources.File name) = from_file name.now
source_seen (sources.Made seed count) = from_seed seed count

-- a command as its names and how the design is to be laid out
abbrev pub seen : Route → Names
seen names = record { design = source_seen names.design; rules = names.rules.now; out = names.out.now; wanted = names.wanted; style = names.style; quiet = names.quiet; progress = names.progress }

-- the same of a command to check
abbrev pub check_seen : Check → CheckNames
check_seen names = record {
  design = names.design.now;
  rules = names.rules.now;
  cif = names.cif.now;
  markers = option_map (λ name. name.now) names.markers;
  ports = names.ports;
  labels = names.labels;
  quiet = names.quiet;
}

abbrev pub draw_seen : Draw → DrawNames
draw_seen names = record {
  cif = names.cif.now;
  out = names.out.now;
  part = names.part;
  rules = option_map (λ name. name.now) names.rules;
  quiet = names.quiet;
}

abbrev pub import_seen : Import → ImportNames
import_seen names = record {
  netlist = names.netlist.now;
  cells = names.cells.now;
  out = names.out.now;
  decimals = names.decimals;
  quiet = names.quiet;
}

abbrev pub command_seen : asked.Command → Command
command_seen (commands.Route names) = route (seen names)
command_seen (commands.Check names) = check (check_seen names)
command_seen (commands.Draw names) = draw (draw_seen names)
command_seen (commands.Import names) = import (import_seen names)
command_seen (commands.Help topic) = help topic

-- what was read is what words give, seen so, both ways, want of memory aside
abbrev pub Reads : {X Y : Type 0} → (X → Y) → Result X WordsFault → Option Y → Type 0
Reads view (Ok x) said = said ≡ Some (view x)
Reads view (Err Usage) said = said ≡ None
Reads view (Err Memory) said = Unit {0}
