-- Whole texts, each with what it reads as.
use Rattle.std.specs.Prelude.{◌≡◌, ℕ, List, [], ◌∷◌, ◌++◌, take, pos, neg_ℤ, Ok, Err, None, Some, codes}
use Rattle.std.proofs.Common.{refl}
use Rattle.read_base.specs.Digits.{number_within}
use Rattle.yal_reader.specs.Lists.{a_spot, call_after, calls_of, io_list, items_until, line_after, lines_of, network, spot_after}
use Rattle.yal_reader.specs.Numbers.{a_number, in_units, magnitude, number, number_run, pointed}
use Rattle.yal_reader.specs.Sections.{calls_after, corners_after, dimensions, lines_after, passed_after, passed_until, section_after, sections}
use Rattle.yal_reader.specs.Text.{uncommented}
use Rattle.yal_reader.specs.Tokens.{tokens}
use Rattle.yal_reader.specs.Words.{a_flow, a_kind, after_stop, the_word, words}
use Rattle.yal_reader.specs.YalReads.{a_module, file_of, heading, modules, yal_reads}
use Rattle.yal_reader.specs.declared.fault.YalKind.{YalKind}
use Rattle.yal_reader.specs.declared.fault.YalKind.TheVariants as faults
use Rattle.yal_reader.specs.declared.file.Flow.TheVariants as flows
use Rattle.yal_reader.specs.declared.file.Kind.TheVariants as kinds
use Rattle.yal_reader.specs.declared.notation.Numbers.{Numbers}
use Rattle.yal_reader.specs.declared.notation.Numbers.TheVariants.{Whole, Decimal}

-- a module of one terminal
abbrev inverter : List ℕ
inverter = codes "MODULE INV;\nTYPE STANDARD;\nDIMENSIONS 0 0 8 0 8 40 0 40;\nIOLIST;\na I 4 0 3 POLY;\nENDIOLIST;\nENDMODULE;\n"

-- a module that calls it once
abbrev frame : List ℕ
frame = codes "MODULE top;\nTYPE PARENT;\nDIMENSIONS 0 0 8 0 8 40 0 40;\nIOLIST;\nENDIOLIST;\nNETWORK;\nu1 INV n1;\nENDNETWORK;\nENDMODULE;\n"

-- both together
abbrev design : List ℕ
design = inverter ++ frame

-- a text of whole numbers is no file, for this reason at this place
abbrev Fault : List ℕ → YalKind → ℕ → Type 0
Fault text kind place = yal_reads text Whole ≡ Err (kind, place)

-- the design is read whole
pub reads-design : yal_reads design Whole ≡ Ok (record {
  modules =
      record {
        name = codes "INV";
        kind = kinds.Standard;
        corners = pos 0 ∷ pos 0 ∷ pos 8 ∷ pos 0 ∷ pos 8 ∷ pos 40 ∷ pos 0 ∷ pos 40 ∷ [];
        lines = record { name = codes "a"; flow = flows.I; spot = Some (record { x = pos 4; y = pos 0; layer = codes "POLY" }) } ∷ [];
        calls = [];
      } ∷
      record { name = codes "top"; kind = kinds.Parent; corners = []; lines = []; calls = record { name = codes "u1"; «module» = codes "INV"; signals = codes "n1" ∷ [] } ∷ [] } ∷ [];
})
unfolding yal_reads file_of modules a_module heading a_kind sections section_after passed_after passed_until calls_after lines_after corners_after dimensions network calls_of call_after io_list lines_of line_after spot_after a_spot items_until number_run a_number number magnitude number_within a_flow after_stop the_word words tokens uncommented
reads-design = refl

-- the design, cut after so many bytes, and with an open comment or a byte above 127 in front
pub reads-cut : Fault (take 5 design) faults.Word 0 × Fault (take 6 design) faults.Ends 6 × Fault (take 102 design ++ codes "b") faults.Word 102 × Fault (take 185 design) faults.Ends 185
    × Fault (codes "/*" ++ design) faults.OpenComment 0 × Fault (200 ∷ design) faults.NotAscii 0
unfolding yal_reads file_of modules a_module heading a_kind sections section_after passed_after passed_until calls_after lines_after corners_after dimensions network calls_of call_after io_list lines_of line_after spot_after a_spot items_until number_run a_number number magnitude number_within a_flow after_stop the_word words tokens uncommented
reads-cut = (refl, refl, refl, refl, refl, refl)

-- each name, section and instance a second time, and words that are no numbers
pub reads-twice : Fault (inverter ++ inverter) faults.Twice 110 × Fault (codes "MODULE a;TYPE PAD;dimensions b;;DIMENSIONS") faults.Twice 32
    × Fault (codes "MODULE a;TYPE PARENT;NETWORK;b c;B c;b") faults.Twice 37 × Fault (codes "MODULE a;TYPE STANDARD;DIMENSIONS 100000001") faults.Number 34
    × Fault (codes "MODULE a;TYPE STANDARD;IOLIST;b I 0 +1") faults.Number 36
unfolding yal_reads file_of modules a_module heading a_kind sections section_after passed_after passed_until calls_after lines_after corners_after dimensions network calls_of call_after io_list lines_of line_after spot_after a_spot items_until number_run a_number number magnitude number_within a_flow after_stop the_word words tokens uncommented
reads-twice = (refl, refl, refl, refl, refl)

-- an END word ends its section only at the beginning of a statement; a comment parts words
pub reads-passed : yal_reads (codes "module Aa;type pad;PLACEMENT ENDPLACEMENT;b ENDPLACEMENT;ENDPLACEMENT;endmodule;/*;*/") Whole ≡ Ok (record {
  modules =
      record { name = codes "Aa"; kind = kinds.Pad; corners = []; lines = []; calls = [] } ∷ [];
})
    × Fault (codes "MO/**/DULE") faults.Word 0 × Fault (codes "/*/") faults.OpenComment 0
unfolding yal_reads file_of modules a_module heading a_kind sections section_after passed_after passed_until calls_after lines_after corners_after dimensions network calls_of call_after io_list lines_of line_after spot_after a_spot items_until number_run a_number number magnitude number_within a_flow after_stop the_word words tokens uncommented
reads-passed = (refl, refl, refl)

-- a word is no number that is written so
abbrev IsNone : Numbers → List ℕ → Type 0
IsNone numbers text = number numbers text ≡ None

-- words with a point as whole numbers and by no, two and four decimals
pub decimals-read : IsNone Whole (codes "5.0") × IsNone (Decimal 0) (codes "5.") × (number (Decimal 0) (codes "5.0") ≡ Some (pos 5)) × IsNone (Decimal 0) (codes "5.1")
    × (number (Decimal 0) (codes "-0.0") ≡ Some (pos 0)) × (number (Decimal 2) (codes "5") ≡ Some (pos 500)) × IsNone (Decimal 2) (codes "5.") × (number (Decimal 2) (codes "5.1") ≡ Some (pos 510))
    × (number (Decimal 2) (codes "0.0400") ≡ Some (pos 4)) × IsNone (Decimal 2) (codes "0.041") × IsNone (Decimal 2) (codes ".5") × IsNone (Decimal 2) (codes "-.5") × IsNone (Decimal 2) (codes "-")
    × IsNone (Decimal 4) (codes "1.2.3") × (number (Decimal 4) (codes "-10000.0000") ≡ Some (neg_ℤ (pos 100000000))) × IsNone (Decimal 4) (codes "10000.0001")
unfolding number magnitude pointed in_units number_within
decimals-read = (refl, refl, refl, refl, refl, refl, refl, refl, refl, refl, refl, refl, refl, refl, refl, refl)
