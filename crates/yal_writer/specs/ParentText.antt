-- the text of a PARENT
use Rattle.std.specs.Prelude.{ℕ, List, [], ◌∷◌, ◌++◌, map, codes}
use Rattle.yal_reader.specs.declared.file.Call.{Call}
use Rattle.yal_reader.specs.declared.file.Flow.{Flow}
use Rattle.yal_reader.specs.declared.file.Flow.TheVariants as flows
use Rattle.yal_reader.specs.declared.file.Line.{Line}
use Rattle.yal_reader.specs.declared.file.Module.{Module}

-- what stands after a word of a statement: a blank where more words follow, else its end
abbrev pub word_end : List (List ℕ) → List ℕ
word_end [] = codes ";\n"
word_end (word ∷ words) = codes " "

-- a statement of YAL on a line of its own
abbrev pub statement : List (List ℕ) → List ℕ
statement [] = []
statement (word ∷ words) = word ++ (word_end words ++ statement words)

-- statements one after another
abbrev pub statements : List (List (List ℕ)) → List ℕ
statements [] = []
statements (words ∷ more) = statement words ++ statements more

-- the word of a flow
abbrev pub flow_word : Flow → List ℕ
flow_word flows.I = codes "I"
flow_word flows.O = codes "O"
flow_word flows.B = codes "B"
flow_word flows.PI = codes "PI"
flow_word flows.PO = codes "PO"
flow_word flows.PB = codes "PB"
flow_word flows.F = codes "F"
flow_word flows.PWR = codes "PWR"
flow_word flows.GND = codes "GND"

-- the words of a terminal's line, and of a call
abbrev pub line_words : Line → List (List ℕ)
line_words l = l.name ∷ flow_word l.flow ∷ []

abbrev pub call_words : Call → List (List ℕ)
call_words c = c.name ∷ c.«module» ∷ c.signals

-- the statements before the lines, between them and the calls, and behind the calls
abbrev pub heading_words : List ℕ → List (List (List ℕ))
heading_words name = (codes "MODULE" ∷ name ∷ []) ∷ (codes "TYPE" ∷ codes "PARENT" ∷ []) ∷ (codes "IOLIST" ∷ []) ∷ []

abbrev pub middle_words : List (List (List ℕ))
middle_words = (codes "ENDIOLIST" ∷ []) ∷ (codes "NETWORK" ∷ []) ∷ []

abbrev pub end_words : List (List (List ℕ))
end_words = (codes "ENDNETWORK" ∷ []) ∷ (codes "ENDMODULE" ∷ []) ∷ []

-- the text of lines, and of calls
abbrev pub lines_text : List Line → List ℕ
lines_text lines = statements (map line_words lines)

abbrev pub calls_text : List Call → List ℕ
calls_text calls = statements (map call_words calls)

-- the text before the lines, on lines of its own behind any text
unfoldable pub heading_text : List ℕ → List ℕ
heading_text name = 10 ∷ statements (heading_words name)

-- all statements of a PARENT
abbrev pub parent_words : Module → List (List (List ℕ))
parent_words m = heading_words m.name ++ (map line_words m.lines ++ (middle_words ++ (map call_words m.calls ++ end_words)))

-- the text of a PARENT, on lines of its own behind any text
unfoldable pub parent_text : Module → List ℕ
parent_text m = 10 ∷ statements (parent_words m)
