-- comments and continued lines as blanks, and the bytes that may stand outside comments
use Rattle.std.specs.Prelude.{ℕ, Bool, false, List, [], ◌∷◌, length, Result, Ok, Err, not, ◌==◌, ◌&&◌, ◌||◌, if◌then◌else◌}
use Rattle.geom_core.specs.Names.{is_name_byte}
use Rattle.blif_reader.specs.declared.fault.BlifKind.TheVariants as kinds
use Rattle.blif_reader.specs.declared.plain.Within.{Within}
use Rattle.blif_reader.specs.declared.plain.Within.TheVariants.{Line, Comment, Break}
use Rattle.blif_reader.specs.Flaws.{Flaw}

-- whether this byte stands first
abbrev pub begins : ℕ → List ℕ → Bool
begins b [] = false
begins b (c ∷ cs) = c == b

-- whether a line ends here, by a line feed or by the two bytes CR and LF
abbrev pub ends_line : List ℕ → Bool
ends_line [] = false
ends_line (c ∷ cs) = c == 10 || (c == 13 && begins 10 cs)

-- a backslash at the end of a line, which goes on in the next
abbrev pub is_break : ℕ → List ℕ → Bool
is_break c cs = c == 92 && ends_line cs

-- a byte of a line as it is read: a blank for the first of a comment, for a backslash at the line's end, and for a CR before the LF
abbrev pub line_byte : ℕ → List ℕ → ℕ
line_byte c cs = if c == 35 then 32 else if is_break c cs then 32 else if c == 13 && begins 10 cs then 32 else c

-- a byte as it is read, behind which cs stands
abbrev pub shown : Within → ℕ → List ℕ → ℕ
shown Line c cs = line_byte c cs
shown Comment c cs = if c == 10 then 10 else 32
shown Break c cs = 32

-- where the text stands behind a byte of a line
abbrev pub after_line : ℕ → List ℕ → Within
after_line c cs = if c == 35 then Comment else if is_break c cs then Break else Line

-- where it stands behind a byte: a comment ends with its line, and a line that is continued goes on behind its line feed
abbrev pub within_after : Within → ℕ → List ℕ → Within
within_after Line c cs = after_line c cs
within_after Comment c cs = if c == 10 then Line else Comment
within_after Break c cs = if c == 10 then Line else Break

-- the text with blanks for comments and for the ends of lines that are continued; the first argument says where it stands
unfoldable pub cleaned : Within → List ℕ → List ℕ
cleaned within [] = []
cleaned within (c ∷ cs) = shown within c cs ∷ cleaned (within_after within c cs) cs

-- a byte that may stand outside comments: a blank, a tab, a line feed, or one of a name
abbrev pub may_stand : ℕ → Bool
may_stand c = c == 9 || c == 10 || c == 32 || is_name_byte c

-- no `/` stands before a `*`, which would begin a comment in YAL
abbrev pub opens_comment : ℕ → List ℕ → Bool
opens_comment c cs = c == 47 && begins 42 cs

-- each byte may stand
abbrev pub fitting : List ℕ → Result (Unit {0}) Flaw
fitting [] = Ok tt
fitting (c ∷ cs) = if may_stand c && not (opens_comment c cs) then fitting cs else Err (record { kind = kinds.Byte; left = length (c ∷ cs) })
