-- words and modules that YAL can write
use Rattle.std.specs.Prelude.{◌≡◌, ℕ, List, [], ◌∷◌, Bool, false, ◌&&◌, ◌||◌, ◌==◌, None, codes}
use Rattle.std.specs.List.{AllByRecursion, IsDistinct}
use Rattle.std.specs.Str.{bytes_eq}
use Rattle.geom_core.specs.Names.{IsName}
use Rattle.yal_reader.specs.Kept.{call_names}
use Rattle.yal_reader.specs.Words.{spells}
use Rattle.yal_reader.specs.declared.file.Call.{Call}
use Rattle.yal_reader.specs.declared.file.Kind.TheVariants as kinds
use Rattle.yal_reader.specs.declared.file.Line.{Line}
use Rattle.yal_reader.specs.declared.file.Module.{Module}

-- whether a byte stands first
abbrev pub begins : ℕ → List ℕ → Bool
begins b [] = false
begins b (c ∷ cs) = c == b

-- whether a comment begins in a text
abbrev pub has_comment : List ℕ → Bool
has_comment [] = false
has_comment (c ∷ cs) = (c == 47 && begins 42 cs) || has_comment cs

-- a word of YAL: a name in which no comment begins
pub record IsWord (text : List ℕ) : Type 0 where
  pub name : IsName text
  pub plain : has_comment text ≡ false

-- a line of a PARENT, whose name does not end the list
pub record IsWritableLine (l : Line) : Type 0 where
  pub name : IsWord l.name
  pub open_list : spells (codes "ENDIOLIST") l.name ≡ false
  pub bare : l.spot ≡ None

-- a call, whose name does not end the network
pub record IsWritableCall (c : Call) : Type 0 where
  pub name : IsWord c.name
  pub open_network : spells (codes "ENDNETWORK") c.name ≡ false
  pub «module» : IsWord c.«module»
  pub signals : AllByRecursion IsWord c.signals

-- a PARENT without corners, whose calls have different names
pub record IsWritable (m : Module) : Type 0 where
  pub name : IsWord m.name
  pub kind : m.kind ≡ kinds.Parent
  pub corners : m.corners ≡ []
  pub lines : AllByRecursion IsWritableLine m.lines
  pub calls : AllByRecursion IsWritableCall m.calls
  pub distinct : IsDistinct bytes_eq (call_names m.calls)
