-- the signal words of pins
use Rattle.std.specs.Prelude.{List, ℕ, [], ◌∷◌, filter, Option, slice_get}
use Rattle.std.specs.Option.{option_and_then}
use Rattle.yal_reader.specs.declared.file.Call.{Call}
use Rattle.yal_reader.specs.declared.file.Module.{Module}
use Rattle.yal_reader.specs.declared.file.YalFile.{YalFile}
use Rattle.design_model.specs.declared.design.Pin.{Pin}
use Rattle.netlist_core.specs.Calls.{is_parent_module}

-- the signal word of a pin: the one that its instance's call has at its terminal
abbrev pub word_of : List Call → Pin → Option (List ℕ)
word_of calls pin = option_and_then (λ (call : Call). slice_get call.signals pin.terminal) (slice_get calls pin.instance)

abbrev pub first_calls : List Module → List Call
first_calls [] = []
first_calls (m ∷ ms) = m.calls

-- the calls of the first PARENT
abbrev pub parent_calls : YalFile → List Call
parent_calls file = first_calls (filter is_parent_module file.modules)
