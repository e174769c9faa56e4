-- the YAL text of a design made from a number: five cell kinds, and instances on nets drawn from a seed
use Rattle.std.specs.Prelude.{ℕ, zero, suc, ◌+◌, ◌*◌, ◌/◌, ◌%◌, ◌^◌, ◌==◌, ◌||◌, List, [], ◌∷◌, ◌++◌, codes, if◌then◌else◌}
use Rattle.std.specs.Fmt.{decimal}
use Rattle.tech_rules.specs.Rules.{RuleValues}
use Rattle.layout_report.specs.Words.{word}

-- what stands after a word of a statement: a blank where more words follow, else its end
abbrev pub word_end : List (List ℕ) → List ℕ
word_end [] = codes ";\n"
word_end (word ∷ words) = codes " "

-- a statement of YAL on a line of its own
abbrev pub statement : List (List ℕ) → List ℕ
statement [] = []
statement (word ∷ words) = word ++ word_end words ++ statement words

-- the middle of a column, and the least height of cells, in units
unfoldable pub middle : RuleValues → ℕ → ℕ
middle r column = column * r.grid.column + r.grid.column / 2

unfoldable pub made_height : RuleValues → ℕ
made_height r = 2 * r.grid.pin + r.vertical.space

-- the last so many digits of a number
unfoldable pub last_digits : ℕ → ℕ → List ℕ
last_digits zero n = []
last_digits (suc k) n = last_digits k (n / 10) ++ (48 + n % 10) ∷ []

-- a length in units as a number with so many decimals: a point stands before the last digits, if there are any; 0 is 0
unfoldable pub length_text : ℕ → ℕ → List ℕ
length_text decimals units =
    if decimals == 0 || units == 0 then decimal units else decimal (units / 10 ^ decimals) ++ codes "." ++ last_digits decimals units

-- the line of a position of a terminal
unfoldable pub position_text : RuleValues → List ℕ → ℕ → ℕ → List ℕ
position_text r name_and_flow column height =
    statement (name_and_flow ∷ length_text r.decimals (middle r column) ∷ length_text r.decimals height ∷ decimal r.vertical.width ∷ r.yal ∷ [])

-- the outline of cells of so many columns
unfoldable pub outline_text : RuleValues → ℕ → List ℕ
outline_text r columns =
    statement (codes "DIMENSIONS" ∷ codes "0" ∷ codes "0" ∷ length_text r.decimals (columns * r.grid.column) ∷ codes "0"
    ∷ length_text r.decimals (columns * r.grid.column) ∷ length_text r.decimals (made_height r) ∷ codes "0" ∷ length_text r.decimals (made_height r) ∷ [])

-- kind j of the five, of j + 2 columns: two pins below and two above, and in the last kind one of the upper ones is below too
unfoldable pub positions_text : RuleValues → ℕ → List ℕ
positions_text r j =
    position_text r (codes "a I") 0 0 ++ position_text r (codes "b I") (j + 1) 0
    ++ position_text r (codes "y O") 0 (made_height r) ++ position_text r (codes "z B") 1 (made_height r)
    ++ (if j == 4 then position_text r (codes "z B") 2 0 else [])

unfoldable pub kind_text : RuleValues → ℕ → List ℕ
kind_text r j =
    statement (codes "MODULE" ∷ (codes "M" ++ decimal j) ∷ []) ++ codes "TYPE STANDARD;\n" ++ outline_text r (j + 2) ++ codes "IOLIST;\n"
    ++ positions_text r j ++ codes "vdd PWR;\nvss GND;\nENDIOLIST;\nENDMODULE;\n"

-- the five kinds
unfoldable pub kinds_text : RuleValues → List ℕ
kinds_text r = kind_text r 0 ++ kind_text r 1 ++ kind_text r 2 ++ kind_text r 3 ++ kind_text r 4

-- instance i, of a kind in turn: its first two pins are on nets that are given, the third on one of its own number, and four in a row share the last
unfoldable pub call_text : ℕ → ℕ → ℕ → List ℕ
call_text i first second =
    statement ((codes "c" ++ decimal i) ∷ (codes "M" ++ decimal (i % 5)) ∷ (codes "n" ++ decimal first) ∷ (codes "n" ++ decimal second)
    ∷ (codes "n" ++ decimal i) ∷ (codes "z" ++ decimal (i / 4)) ∷ codes "VDD" ∷ codes "VSS" ∷ [])

-- the first so many instances of n, whose nets are drawn from the words of a seed, two for each
unfoldable pub calls_text : ℕ → ℕ → ℕ → List ℕ
calls_text seed n zero = []
calls_text seed n (suc i) = calls_text seed n i ++ call_text i (word seed (2 * i) % n) (word seed (2 * i + 1) % n)

-- the module of the network, up to its calls, and behind them
unfoldable pub network_text : List ℕ
network_text = codes "MODULE made;\nTYPE PARENT;\nDIMENSIONS 0 0 1 0 1 1 0 1;\nPROFILE 0 0;\nIOLIST;\nENDIOLIST;\nNETWORK;\n"

unfoldable pub last_text : List ℕ
last_text = codes "ENDNETWORK;\nPLACEMENT;\nENDPLACEMENT;\nENDMODULE;\n"

-- the design of n instances that is made from a seed, in YAL
unfoldable pub made_text : RuleValues → ℕ → ℕ → List ℕ
made_text r seed n = codes "/* made design */\n" ++ kinds_text r ++ network_text ++ calls_text seed n n ++ last_text
