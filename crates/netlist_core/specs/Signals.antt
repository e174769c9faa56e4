-- the words at pins, and the nets that they make
use Rattle.std.specs.Prelude.{ℕ, ◌+◌, List, [], ◌∷◌, ◌++◌, map, if◌then◌else◌}
use Rattle.yal_reader.specs.declared.file.Call.{Call}
use Rattle.yal_reader.specs.declared.file.Module.{Module}
use Rattle.list_facts.specs.Names.{mentions, place_among}
use Rattle.netlist_core.specs.Calls.{module_named, terminals_in}
use Rattle.design_model.specs.declared.design.Pin.{Pin}
use Rattle.design_model.specs.declared.design.Terminal.{Terminal}

-- a signal word at a pin
pub record PinWord : Type 0 where
  pub instance : ℕ
  pub terminal : ℕ
  pub word : List ℕ

-- the words at the pins of an instance, whose terminals are these from number t on: power terminals have none
abbrev pub signals_from : ℕ → ℕ → List Terminal → List (List ℕ) → List PinWord
signals_from i t [] words = []
signals_from i t (x ∷ xs) [] = []
signals_from i t (x ∷ xs) (w ∷ ws) =
    if x.power then signals_from i (t + 1) xs ws else record { instance = i; terminal = t; word = w } ∷ signals_from i (t + 1) xs ws

-- the words at the pins of one call
abbrev pub call_signals : List Module → ℕ → Call → List PinWord
call_signals modules i call = signals_from i 0 (terminals_in (module_named modules call.«module»)) call.signals

-- the words at the pins of calls, the first of which is instance i
abbrev pub signals_of : List Module → ℕ → List Call → List PinWord
signals_of modules i [] = []
signals_of modules i (call ∷ calls) = call_signals modules i call ++ signals_of modules (i + 1) calls

unfoldable pub all_signals : List Module → List Call → List PinWord
all_signals modules calls = signals_of modules 0 calls

abbrev pub words_of : List PinWord → List (List ℕ)
words_of signals = map (λ (s : PinWord). s.word) signals

-- the nets: the different words, in the order of their first mention by a pin
unfoldable pub nets_of : List PinWord → List (List ℕ)
nets_of signals = mentions (words_of signals)

-- a pin with the number of its net, from 1
abbrev pub pin_in : List (List ℕ) → PinWord → Pin
pin_in nets s = record { instance = s.instance; terminal = s.terminal; net = place_among nets s.word + 1 }
