-- the table of a rules file's text, and the number or text that stands at a key
use Rattle.std.specs.Prelude.{codes, ℕ, pos, List, length, Bool, ◌&&◌, ◌==◌, nat_le, if◌then◌else◌, Option, Some, None, Result, Ok, Err}
use Rattle.std.specs.Option.{option_and_then}
use Rattle.std.specs.Str.{bytes_eq}
use Rattle.std.specs.Str.Lossy.{utf8_valid_len}
use Rattle.limits.specs.declared.TheConstants.{MOST_DECIMALS}
use Rattle.toml.specs.Data.{Data, Members, integer, string, as_table, get_member}
use Rattle.toml.specs.Parse.{parse_document}
use Rattle.tech_rules.specs.Keys.{section_of, word_of}
use Rattle.tech_rules.specs.declared.fault.RulesFault.{RulesFault}
use Rattle.tech_rules.specs.declared.fault.RulesFault.TheVariants.{Missing, Range}
use Rattle.tech_rules.specs.declared.key.Key.{Key}
use Rattle.tech_rules.specs.declared.key.Key.TheVariants.{AnnealStart, Decimals}
use Rattle.tech_rules.specs.declared.sections.StartBy.{StartBy}
use Rattle.tech_rules.specs.declared.sections.StartBy.TheVariants.{Width, Count}

-- the table of a text, if the bytes are UTF-8 and TOML has a table for them
abbrev pub document_of : List ℕ → Option Members
document_of bytes = if utf8_valid_len bytes == length bytes then parse_document bytes else None

-- what stands under a word at the top, or in a table; none where the table is no table, too
abbrev pub data_in : Members → Option (List ℕ) → List ℕ → Option Data
data_in document None word = get_member word document
data_in document (Some section) word = option_and_then (get_member word) (option_and_then as_table (get_member section document))

abbrev pub data_of : Members → Key → Option Data
data_of document key = data_in document (section_of key) (word_of key)

-- an integer from low to high
abbrev pub number_within : ℕ → ℕ → Data → Option ℕ
number_within low high (integer (pos n)) = if nat_le low n && nat_le n high then Some n else None
number_within low high _ = None

-- a text that passes a test
abbrev pub text_where : (List ℕ → Bool) → Data → Option (List ℕ)
text_where test (string text) = if test text then Some text else None
text_where test _ = None

abbrev pub or_range : {A : Type 0} → Key → Option A → Result A RulesFault
or_range key (Some value) = Ok value
or_range key None = Err (Range key)

-- the value of a key: Missing where nothing stands there, Range where it is no such value
abbrev pub or_missing : {A : Type 0} → Key → (Data → Option A) → Option Data → Result A RulesFault
or_missing key value_of (Some found) = or_range key (value_of found)
or_missing key value_of None = Err (Missing key)

-- the number at a key
unfoldable pub number_of : Members → Key → ℕ → ℕ → Result ℕ RulesFault
number_of document key low high = or_missing key (number_within low high) (data_of document key)

-- how many decimals the numbers of a design have: the number at its key from version 2 on, and none before
unfoldable pub decimals_of : Members → ℕ → Result ℕ RulesFault
decimals_of document version = if version == 1 then Ok 0 else number_of document Decimals 0 MOST_DECIMALS

-- the text at a key
unfoldable pub string_of : Members → Key → (List ℕ → Bool) → Result (List ℕ) RulesFault
string_of document key test = or_missing key (text_where test) (data_of document key)

-- how start rows are filled, by a text
abbrev pub start_named : List ℕ → Option StartBy
start_named text = if bytes_eq text (codes "width") then Some Width else if bytes_eq text (codes "count") then Some Count else None

abbrev pub start_in : Data → Option StartBy
start_in (string text) = start_named text
start_in _ = None

-- by the key that may be absent: by width where nothing stands there
abbrev pub start_or_width : Option Data → Result StartBy RulesFault
start_or_width (Some found) = or_range AnnealStart (start_in found)
start_or_width None = Ok Width

unfoldable pub start_of : Members → Result StartBy RulesFault
start_of document = start_or_width (data_of document AnnealStart)
