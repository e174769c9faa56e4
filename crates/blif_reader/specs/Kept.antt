-- what a file that was read always has
use Rattle.std.specs.Prelude.{◌≡◌, ℕ, List, [], ◌∷◌, Bool, false, ◌||◌, IfSome}
use Rattle.std.specs.List.{AllByRecursion}
use Rattle.geom_core.specs.Names.{IsName}
use Rattle.blif_reader.specs.Text.{opens_comment}
use Rattle.blif_reader.specs.declared.file.BlifWord.{BlifWord}
use Rattle.blif_reader.specs.declared.file.Pin.{Pin}
use Rattle.blif_reader.specs.declared.file.Gate.{Gate}
use Rattle.blif_reader.specs.declared.file.Join.{Join}
use Rattle.blif_reader.specs.declared.file.BlifFile.{BlifFile}

-- whether a `/` stands before a `*` in a text
abbrev pub has_comment : List ℕ → Bool
has_comment [] = false
has_comment (c ∷ cs) = opens_comment c cs || has_comment cs

-- a word that YAL can write: a name without a `/` before a `*`
pub record IsYalWord (text : List ℕ) : Type 0 where
  pub name : IsName text
  pub plain : has_comment text ≡ false

-- a word of the file is one
pub record IsKeptWord (w : BlifWord) : Type 0 where
  pub text : IsYalWord w.text

pub record IsKeptPin (p : Pin) : Type 0 where
  pub terminal : IsYalWord p.terminal
  pub net : IsYalWord p.net

pub record IsKeptGate (g : Gate) : Type 0 where
  pub «module» : IsYalWord g.«module»
  pub name : IfSome g.name IsKeptWord
  pub pins : AllByRecursion IsKeptPin g.pins

pub record IsKeptJoin (j : Join) : Type 0 where
  pub first : IsKeptWord j.first
  pub second : IsKeptWord j.second

-- what every file that was read has: each of its words can be written in YAL
pub record IsKept (file : BlifFile) : Type 0 where
  pub model : IsKeptWord file.model
  pub inputs : AllByRecursion IsKeptWord file.inputs
  pub outputs : AllByRecursion IsKeptWord file.outputs
  pub gates : AllByRecursion IsKeptGate file.gates
  pub joins : AllByRecursion IsKeptJoin file.joins
  pub constants : AllByRecursion IsKeptWord file.constants
