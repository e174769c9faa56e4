-- the texts of help
use Rattle.std.specs.Prelude.{ℕ, List}
use Rattle.command_words.specs.declared.topic.Topic.{Topic}
use Rattle.command_words.specs.declared.topic.Topic.TheVariants.{CheckCommand, DrawCommand, ImportCommand, MakeCommand, Overview, RouteCommand, Version}
use Rattle.command_help.specs.declared.texts.TheConstants.{CHECK_HELP, DRAW_HELP, IMPORT_HELP, MAKE_HELP, OVERVIEW, ROUTE_HELP, VERSION}

-- the text of help on a topic, as it stands in the source
unfoldable pub text_on : Topic → List ℕ
text_on Overview = OVERVIEW.now
text_on RouteCommand = ROUTE_HELP.now
text_on CheckCommand = CHECK_HELP.now
text_on MakeCommand = MAKE_HELP.now
text_on DrawCommand = DRAW_HELP.now
text_on ImportCommand = IMPORT_HELP.now
text_on Version = VERSION.now
