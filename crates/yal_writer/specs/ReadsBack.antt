-- a PARENT behind the text of its cells reads back
use Rattle.std.specs.Prelude.{◌≡◌, ℕ, List, [], ◌∷◌, ◌++◌, false, Ok}
use Rattle.yal_reader.specs.Kept.{module_names}
use Rattle.yal_reader.specs.Lists.{is_among}
use Rattle.yal_reader.specs.YalReads.{yal_reads}
use Rattle.yal_reader.specs.declared.file.Module.{Module}
use Rattle.yal_reader.specs.declared.file.YalFile.{YalFile}
use Rattle.yal_reader.specs.declared.notation.Numbers.{Numbers}
use Rattle.yal_writer.specs.ParentText.{parent_text}
use Rattle.yal_writer.specs.Writable.{IsWritable}

-- behind any text that reads as a file without a module of this name, the text of a PARENT that can be written reads as that file and the PARENT
abbrev pub ReadsBack : Module → Type 0
ReadsBack m = (cells : List ℕ) (numbers : Numbers) (file : YalFile) → yal_reads cells numbers ≡ Ok file → IsWritable m → is_among (module_names file.modules) m.name ≡ false
    → yal_reads (cells ++ parent_text m) numbers ≡ Ok (record { modules = file.modules ++ m ∷ [] })
