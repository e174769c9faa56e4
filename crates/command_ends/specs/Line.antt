-- the words of each fault and refusal, and the line that says what stopped a command
use Rattle.std.specs.Prelude.{ℕ, List, [], ◌∷◌, codes, Some, None}
use Rattle.std.specs.Fmt.{decimal}
use Rattle.shelf_io.specs.Lines.{line}
use Rattle.tech_rules.specs.Keys.{name_of}
use Rattle.yal_reader.specs.declared.fault.YalKind.{YalKind}
use Rattle.yal_reader.specs.declared.fault.YalKind.TheVariants as kinds
use Rattle.netlist_core.specs.declared.fault.DesignFault.{DesignFault}
use Rattle.netlist_core.specs.declared.fault.DesignFault.TheVariants as faults
use Rattle.blif_reader.specs.declared.fault.BlifKind.{BlifKind}
use Rattle.blif_reader.specs.declared.fault.BlifKind.TheVariants as netlists
use Rattle.netlist_import.specs.declared.fault.ImportKind.{ImportKind}
use Rattle.netlist_import.specs.declared.fault.ImportKind.TheVariants as imports
use Rattle.cif_text.specs.declared.fault.CifKind.{CifKind}
use Rattle.cif_text.specs.declared.fault.CifKind.TheVariants as texts
use Rattle.cif_reader.specs.declared.fault.ExpandKind.{ExpandKind}
use Rattle.cif_reader.specs.declared.fault.ExpandKind.TheVariants as meanings
use Rattle.command_ends.specs.declared.refusal.Limited.{Limited}
use Rattle.command_ends.specs.declared.refusal.Limited.TheVariants as limits
use Rattle.command_ends.specs.declared.refusal.Refusal.{Refusal}
use Rattle.command_ends.specs.declared.refusal.Refusal.TheVariants.{Usage, Toml, Missing, Range, Tight, Yal, Design, PortClash, Blif, Import, Cif, Meaning, Limit, Memory}
use Rattle.command_ends.specs.declared.stop.Stop.{Stop}
use Rattle.command_ends.specs.declared.stop.Stop.TheVariants.{Refused, ReadFault, WriteFault}

unfoldable pub kind_word : YalKind → List ℕ
kind_word kinds.NotAscii = codes "NotAscii"
kind_word kinds.OpenComment = codes "OpenComment"
kind_word kinds.Word = codes "Word"
kind_word kinds.Ends = codes "Ends"
kind_word kinds.Number = codes "Number"
kind_word kinds.Twice = codes "Twice"

unfoldable pub fault_word : DesignFault → List ℕ
fault_word faults.NoParent = codes "NoParent"
fault_word faults.ManyParents = codes "ManyParents"
fault_word (faults.UnknownModule i) = codes "UnknownModule"
fault_word (faults.NotStandard i) = codes "NotStandard"
fault_word (faults.SignalCount i) = codes "SignalCount"
fault_word (faults.NoShape m) = codes "NoShape"
fault_word (faults.OffGrid m) = codes "OffGrid"
fault_word (faults.TooLow m) = codes "TooLow"
fault_word (faults.PinClash m) = codes "PinClash"
fault_word (faults.WrongLayer m) = codes "WrongLayer"
fault_word (faults.Limit count n) = codes "Limit"
fault_word faults.Memory = codes "Memory"

-- the words of a fault of a netlist's text, and of a netlist for its cells
unfoldable pub netlist_word : BlifKind → List ℕ
netlist_word netlists.Byte = codes "Byte"
netlist_word netlists.Word = codes "Word"
netlist_word netlists.Ends = codes "Ends"
netlist_word netlists.Directive = codes "Directive"
netlist_word netlists.Model = codes "Model"
netlist_word netlists.Cname = codes "Cname"
netlist_word netlists.Pin = codes "Pin"
netlist_word netlists.Table = codes "Table"

unfoldable pub import_word : ImportKind → List ℕ
import_word imports.Parent = codes "Parent"
import_word imports.Model = codes "Model"
import_word imports.Keyword = codes "Keyword"
import_word imports.Net = codes "Net"
import_word imports.Power = codes "Power"
import_word imports.Constant = codes "Constant"
import_word imports.Name = codes "Name"
import_word imports.Cell = codes "Cell"
import_word imports.Pin = codes "Pin"
import_word imports.Twice = codes "Twice"
import_word imports.Missing = codes "Missing"

-- the words of a fault of a text of CIF and of its commands, without what they carry
unfoldable pub text_word : CifKind → List ℕ
text_word texts.NotAscii = codes "NotAscii"
text_word texts.Unclosed = codes "Unclosed"
text_word texts.BadCommand = codes "BadCommand"
text_word texts.Number = codes "Number"
text_word texts.NoEnd = codes "NoEnd"
text_word (texts.LeftOut byte) = codes "LeftOut"
text_word texts.Turned = codes "Turned"

unfoldable pub meaning_word : ExpandKind → List ℕ
meaning_word (meanings.Undefined n) = codes "Undefined"
meaning_word (meanings.Twice n) = codes "Twice"
meaning_word meanings.Inexact = codes "Inexact"
meaning_word (meanings.TooFar z) = codes "TooFar"
meaning_word meanings.LongPath = codes "LongPath"
meaning_word meanings.TooMany = codes "TooMany"
meaning_word meanings.NoLayer = codes "NoLayer"
meaning_word meanings.NoSymbolName = codes "NoSymbolName"
meaning_word meanings.TooDeep = codes "TooDeep"

unfoldable pub limited_word : Limited → List ℕ
limited_word limits.Rules = codes "Rules"
limited_word limits.Design = codes "Design"
limited_word limits.Cif = codes "Cif"
limited_word limits.Blif = codes "Blif"
limited_word limits.Cells = codes "Cells"
limited_word limits.Instances = codes "Instances"
limited_word limits.Pins = codes "Pins"
limited_word limits.Moves = codes "Moves"
limited_word limits.Grid = codes "Grid"
limited_word limits.Width = codes "Width"
limited_word limits.Height = codes "Height"
limited_word limits.Picture = codes "Picture"

-- the words of a refusal's line
unfoldable pub refusal_words : Refusal → List (List ℕ)
refusal_words Usage = codes "usage" ∷ []
refusal_words Toml = codes "rules" ∷ codes "Toml" ∷ []
refusal_words (Missing key) = codes "rules" ∷ codes "Missing" ∷ name_of key ∷ []
refusal_words (Range key) = codes "rules" ∷ codes "Range" ∷ name_of key ∷ []
refusal_words (Tight rule) = codes "rules" ∷ codes "Tight" ∷ decimal rule ∷ []
refusal_words (Yal kind place) = codes "yal" ∷ kind_word kind ∷ decimal place ∷ []
refusal_words (Design fault None) = codes "design" ∷ fault_word fault ∷ []
refusal_words (Design fault (Some name)) = codes "design" ∷ fault_word fault ∷ name ∷ []
refusal_words (PortClash name) = codes "design" ∷ codes "PortClash" ∷ name ∷ []
refusal_words (Blif kind place) = codes "blif" ∷ netlist_word kind ∷ decimal place ∷ []
refusal_words (Import flaw) = codes "import" ∷ import_word flaw.kind ∷ flaw.name ∷ decimal flaw.at ∷ []
refusal_words (Cif kind place) = codes "cif" ∷ text_word kind ∷ decimal place ∷ []
refusal_words (Meaning kind command) = codes "cif" ∷ meaning_word kind ∷ decimal command ∷ []
refusal_words (Limit what n) = codes "limit" ∷ limited_word what ∷ decimal n ∷ []
refusal_words Memory = codes "memory" ∷ []

-- the words of the line of what stopped a command
unfoldable pub stop_words : Stop → List (List ℕ)
stop_words (Refused refusal) = refusal_words refusal
stop_words ReadFault = codes "read" ∷ codes "fault" ∷ []
stop_words WriteFault = codes "write" ∷ codes "fault" ∷ []

-- the line of what stopped a command
abbrev pub line_of : Stop → List ℕ
line_of stop = line (stop_words stop)
