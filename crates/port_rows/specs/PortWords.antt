-- the signal words of pins in a design with ports
use Rattle.std.specs.Prelude.{◌≡◌, ℕ, ◌-◌, List, length, nat_lt, if◌then◌else◌, Option, Some, slice_get}
use Rattle.yal_reader.specs.declared.file.Call.{Call}
use Rattle.yal_reader.specs.declared.file.YalFile.{YalFile}
use Rattle.design_model.specs.Netlist.{Netlist}
use Rattle.design_model.specs.declared.design.Pin.{Pin}
use Rattle.netlist_core.specs.SignalWords.{parent_calls, word_of}
use Rattle.port_rows.specs.Ports.{all_ports, parent_lines}

-- the signal word of a pin, where behind these calls stand these ports: a port's is its name
abbrev pub word_with : List Call → List (List ℕ) → Pin → Option (List ℕ)
word_with calls ports pin =
    if nat_lt pin.instance (length calls) then word_of calls pin else slice_get ports (pin.instance - length calls)

-- the signal word of a pin of a file's design with its ports
abbrev pub ported_word : YalFile → Pin → Option (List ℕ)
ported_word file pin = word_with (parent_calls file) (all_ports (parent_lines file)) pin

-- each pin's net bears the pin's signal word
abbrev pub BearWords : (Pin → Option (List ℕ)) → Netlist → Type 0
BearWords word_of d = (n : ℕ) (p : Pin) → slice_get d.pins n ≡ Some p → slice_get d.nets (p.net - 1) ≡ word_of p
