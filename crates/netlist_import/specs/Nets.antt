-- words that are one net, and the word that each net goes by
use Rattle.std.specs.Prelude.{◌≡◌, ℕ, List, [], ◌∷◌, ◌++◌, map, Bool, not, ◌&&◌, ◌||◌, if◌then◌else◌}
use Rattle.std.specs.List.{list_any}
use Rattle.std.specs.Str.{bytes_eq}
use Rattle.blif_reader.specs.declared.file.BlifFile.{BlifFile}
use Rattle.blif_reader.specs.declared.file.BlifWord.{BlifWord}
use Rattle.blif_reader.specs.declared.file.Join.{Join}
use Rattle.netlist_import.specs.declared.nets.Renaming.{Renaming}

-- words are one net by the least equivalence that holds the joins
pub data Joined (joins : List Join) : List ℕ → List ℕ → Type 0 where
  link : (before : List Join) (j : Join) (behind : List Join) → joins ≡ before ++ j ∷ behind → Joined joins j.first.text j.second.text
  itself : (w : List ℕ) → Joined joins w w
  turned : {v w : List ℕ} → Joined joins v w → Joined joins w v
  chained : {u v w : List ℕ} → Joined joins u v → Joined joins v w → Joined joins u w

-- one word in place of another
pub record Rename : Type 0 where
  pub from : List ℕ
  pub to : List ℕ

-- a word under one renaming, and under several, one after the other
abbrev pub renamed_by : Rename → List ℕ → List ℕ
renamed_by r w = if bytes_eq w r.from then r.to else w

unfoldable pub renamed : List Rename → List ℕ → List ℕ
renamed [] w = w
renamed (r ∷ rs) w = renamed rs (renamed_by r w)

-- whether a word is this one of the text
abbrev pub word_is : List ℕ → BlifWord → Bool
word_is w x = bytes_eq w x.text

-- whether a word is a terminal of the model
abbrev pub is_terminal : BlifFile → List ℕ → Bool
is_terminal b w = list_any (word_is w) b.inputs || list_any (word_is w) b.outputs

-- of the words that two joined nets go by, both then go by the first, or by the second where that alone is a terminal of the model
abbrev pub rename_of : BlifFile → List ℕ → List ℕ → Rename
rename_of b first second = if is_terminal b second && not (is_terminal b first) then record { from = first; to = second } else record { from = second; to = first }

-- the renamings that joins give behind those before
unfoldable pub renames_behind : BlifFile → List Rename → List Join → List Rename
renames_behind b before [] = before
renames_behind b before (j ∷ js) = renames_behind b (before ++ rename_of b (renamed before j.first.text) (renamed before j.second.text) ∷ []) js

-- the renamings of a netlist
abbrev pub renames_of : BlifFile → List Rename
renames_of b = renames_behind b [] b.joins

-- the word that the net of a word goes by: the terminal of the model on it, if there is one, else one of its words
abbrev pub signal : BlifFile → List ℕ → List ℕ
signal b w = renamed (renames_of b) w

-- a renaming of borrowed words
abbrev pub seen : Renaming → Rename
seen r = record { from = r.from.now; to = r.to.now }

abbrev pub all_seen : List Renaming → List Rename
all_seen rs = map seen rs
