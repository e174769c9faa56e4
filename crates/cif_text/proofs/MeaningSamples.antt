use Rattle.std.specs.Prelude.{◌≡◌, refl, ℕ, ℤ, pos, negsuc, List, [], ◌∷◌, codes, Bool, true, false, Option, Some, None, Result, Ok, Err}
use Rattle.geom_core.specs.declared.layout.Shape.{Shape}
use Rattle.geom_core.specs.declared.layout.Cell.{Cell}
use Rattle.geom_core.specs.declared.layout.Layout.{Layout}
use Rattle.cif_text.specs.declared.command.CifCommand.{CifCommand}
use Rattle.cif_text.specs.declared.fault.CifKind.{CifKind}
use Rattle.cif_text.specs.Written.{WrittenSymbol, MainItem, alone, copy, layout_commands}
use Rattle.cif_text.proofs.WrittenLayout.{written_layout}
use Rattle.cif_text.proofs.Samples.{inverter}
use Rattle.read_base.specs.Digits.{number_within}
use Rattle.cif_text.specs.Numbers.{natural, positive, number}
use Rattle.cif_text.specs.Forms.{box_end, box_form, layer_form, start_form, definition_form, user_form}
use Rattle.cif_text.specs.Calls.{step_of, steps_of, call_form}
use Rattle.cif_text.specs.Commands.{after_comment}
use Rattle.cif_text.specs.CifReads.{commands_at, cif_reads}
use Rattle.cif_text.specs.Meaning.{Unmeant, undefined, twice, inexact, no_layer, no_symbol_name, step, run, meaning}

-- what a text means that reads
abbrev means : List ℕ → Option (Result Layout (Unmeant × ℕ))
means text = means_of (cif_reads text)
  where
    means_of : Result (List CifCommand) (CifKind × ℕ) → Option (Result Layout (Unmeant × ℕ))
    means_of (Ok found) = Some (meaning found)
    means_of (Err fault) = None

abbrev shape : List ℕ → ℤ → ℤ → ℤ → ℤ → Shape
shape layer x0 y0 x1 y1 = record { layer = layer; rect = record { x0 = x0; y0 = y0; x1 = x1; y1 = y1 } }

abbrev cell : List ℕ → List ℕ → Bool → ℕ → ℤ → ℤ → ℕ → ℕ → Cell
cell name symbol flip quarters dx dy first count =
    record { name = name; symbol = symbol; turn = record { flip = flip; quarters = quarters; dx = dx; dy = dy }; first = first; count = count }

abbrev layout : List Cell → List Shape → Option (Result Layout (Unmeant × ℕ))
layout cells shapes = Some (Ok (record { cells = cells; shapes = shapes }))

abbrev wrong : Unmeant → ℕ → Option (Result Layout (Unmeant × ℕ))
wrong fault at = Some (Err (fault, at))

-- a mirrored cell; and a call without a name
mirrored_cell : means (codes "DS 1; 9 INV; L NP; B 2 4 5 2; DF; 91 u; C 1 M X T 12 0; E") ≡ layout (cell (codes "u") (codes "INV") true 0 (pos 24) (pos 0) 0 1 ∷ []) (shape (codes "NP") (pos 12) (pos 0) (pos 16) (pos 8) ∷ [])
unfolding cif_reads commands_at after_comment box_end box_form layer_form start_form definition_form call_form user_form step_of steps_of natural positive number number_within meaning run step
mirrored_cell = refl

lower_case_words : means (codes "(a (b;) c);Define Start 1; Layer NM; Box 4 4 2 2; Define Finish; Call 1; End") ≡ layout [] (shape (codes "NM") (pos 0) (pos 0) (pos 8) (pos 8) ∷ [])
unfolding cif_reads commands_at after_comment box_end box_form layer_form start_form definition_form call_form user_form step_of steps_of natural positive number number_within meaning run step
lower_case_words = refl

turned_and_upright : means (codes "DS 1; L NM; B 2 4 0 1 0 1; DF; C 1 R 0 1 T 10 0; L NP; B 2 4 0 1 0 1; E") ≡ layout [] (shape (codes "NM") (pos 16) (negsuc 3) (pos 20) (pos 4) ∷ shape (codes "NP") (negsuc 3) (pos 0) (pos 4) (pos 4) ∷ [])
unfolding cif_reads commands_at after_comment box_end box_form layer_form start_form definition_form call_form user_form step_of steps_of natural positive number number_within meaning run step
turned_and_upright = refl

-- the scale of a definition, which is not applied again where the symbol is called
scaled_twice : means (codes "DS 1 2 1; L NM; B 2 2 0 0; DF; DS 2 3 1; C 1 T 1 0; DF; C 2; E") ≡ layout [] (shape (codes "NM") (pos 2) (negsuc 3) (pos 10) (pos 4) ∷ [])
unfolding cif_reads commands_at after_comment box_end box_form layer_form start_form definition_form call_form user_form step_of steps_of natural positive number number_within meaning run step
scaled_twice = refl

half_of_a_centimicron : means (codes "DS 1 1 2; L NM; B 4 4 1 1; DF; C 1; E") ≡ layout [] (shape (codes "NM") (negsuc 0) (negsuc 0) (pos 3) (pos 3) ∷ [])
unfolding cif_reads commands_at after_comment box_end box_form layer_form start_form definition_form call_form user_form step_of steps_of natural positive number number_within meaning run step
half_of_a_centimicron = refl

inexact_box : means (codes "DS 1 1 2; L NM; B 3 4 2 2; DF; C 1; E") ≡ wrong inexact 2
unfolding cif_reads commands_at after_comment box_end box_form layer_form start_form definition_form call_form user_form step_of steps_of natural positive number number_within meaning run step
inexact_box = refl

inexact_call : means (codes "DS 1; DF; DS 2 1 4; C 1 T 1 0; DF; E") ≡ wrong inexact 3
unfolding cif_reads commands_at after_comment box_end box_form layer_form start_form definition_form call_form user_form step_of steps_of natural positive number number_within meaning run step
inexact_call = refl

inexact_before_no_layer : means (codes "DS 1 1 2; B 3 4 2 2; DF; E") ≡ wrong inexact 1
unfolding cif_reads commands_at after_comment box_end box_form layer_form start_form definition_form call_form user_form step_of steps_of natural positive number number_within meaning run step
inexact_before_no_layer = refl

-- layers: a definition begins without one, and behind it the one before it counts again
no_layer_at_first : means (codes "B 2 2 0 0; E") ≡ wrong no_layer 0
unfolding cif_reads commands_at after_comment box_end box_form layer_form start_form definition_form call_form user_form step_of steps_of natural positive number number_within meaning run step
no_layer_at_first = refl

no_layer_inside : means (codes "L NM; DS 1; B 2 2 0 0; DF; E") ≡ wrong no_layer 2
unfolding cif_reads commands_at after_comment box_end box_form layer_form start_form definition_form call_form user_form step_of steps_of natural positive number number_within meaning run step
no_layer_inside = refl

layer_behind_definition : means (codes "L NM; DS 1; L NP; B 2 2 0 0; DF; B 2 2 0 0; C 1; E") ≡ layout [] (shape (codes "NM") (negsuc 1) (negsuc 1) (pos 2) (pos 2) ∷ shape (codes "NP") (negsuc 1) (negsuc 1) (pos 2) (pos 2) ∷ [])
unfolding cif_reads commands_at after_comment box_end box_form layer_form start_form definition_form call_form user_form step_of steps_of natural positive number number_within meaning run step
layer_behind_definition = refl

-- names: which call a name waits for
name_behind_comment : means (codes "DS 1; 9 S; DF; 91 u; (c); 4 x; C 1; C 1; E") ≡ layout (cell (codes "u") (codes "S") false 0 (pos 0) (pos 0) 0 0 ∷ []) []
unfolding cif_reads commands_at after_comment box_end box_form layer_form start_form definition_form call_form user_form step_of steps_of natural positive number number_within meaning run step
name_behind_comment = refl

name_before_layer : means (codes "DS 1; 9 S; DF; 91 u; L NM; C 1; E") ≡ layout [] []
unfolding cif_reads commands_at after_comment box_end box_form layer_form start_form definition_form call_form user_form step_of steps_of natural positive number number_within meaning run step
name_before_layer = refl

name_before_symbol_name : means (codes "DS 1; DF; 91 u; 9 x; C 1; E") ≡ layout [] []
unfolding cif_reads commands_at after_comment box_end box_form layer_form start_form definition_form call_form user_form step_of steps_of natural positive number number_within meaning run step
name_before_symbol_name = refl

second_name : means (codes "DS 1; 9 S; DF; 91 u; 91 v; C 1; E") ≡ layout (cell (codes "v") (codes "S") false 0 (pos 0) (pos 0) 0 0 ∷ []) []
unfolding cif_reads commands_at after_comment box_end box_form layer_form start_form definition_form call_form user_form step_of steps_of natural positive number number_within meaning run step
second_name = refl

name_inside : means (codes "DS 1; 9 S; L NM; B 2 2 0 0; 9 T; 91 u; DF; C 1; 91 w; C 1 T 0 1; E") ≡ layout (cell (codes "w") (codes "T") false 0 (pos 0) (pos 2) 1 1 ∷ []) (shape (codes "NM") (negsuc 1) (negsuc 1) (pos 2) (pos 2) ∷ shape (codes "NM") (negsuc 1) (pos 0) (pos 2) (pos 4) ∷ [])
unfolding cif_reads commands_at after_comment box_end box_form layer_form start_form definition_form call_form user_form step_of steps_of natural positive number number_within meaning run step
name_inside = refl

no_name_of_symbol : means (codes "DS 1; DF; 91 u; C 1; E") ≡ wrong no_symbol_name 3
unfolding cif_reads commands_at after_comment box_end box_form layer_form start_form definition_form call_form user_form step_of steps_of natural positive number number_within meaning run step
no_name_of_symbol = refl

-- calls of what is not defined yet, and a second definition
undefined_call : means (codes "C 2; E") ≡ wrong (undefined 2) 0
unfolding cif_reads commands_at after_comment box_end box_form layer_form start_form definition_form call_form user_form step_of steps_of natural positive number number_within meaning run step
undefined_call = refl

call_of_itself : means (codes "DS 5; C 5; DF; E") ≡ wrong (undefined 5) 1
unfolding cif_reads commands_at after_comment box_end box_form layer_form start_form definition_form call_form user_form step_of steps_of natural positive number number_within meaning run step
call_of_itself = refl

second_definition : means (codes "DS 1; DF; DS 1; DF; E") ≡ wrong (twice 1) 2
unfolding cif_reads commands_at after_comment box_end box_form layer_form start_form definition_form call_form user_form step_of steps_of natural positive number number_within meaning run step
second_definition = refl

-- one inverter as it is written: the commands of its text, and what they mean
abbrev inverter_drawn : List WrittenSymbol
inverter_drawn =
    record {
      name = Some (codes "INV");
      shapes = shape (codes "XP") (pos 0) (pos 0) (pos 1600) (pos 8000) ∷ shape (codes "NP") (pos 500) (pos 0) (pos 1100) (pos 800) ∷ [];
    } ∷ []

abbrev inverter_items : List MainItem
inverter_items = copy (Some (codes "u1")) 1 (record { dx = pos 0; dy = pos 1600; mirror = false }) ∷ []

inverter_written : layout_commands inverter_drawn inverter_items ≡ inverter
inverter_written = refl

inverter_layout : layout (cell (codes "u1") (codes "INV") false 0 (pos 0) (pos 1600) 0 2 ∷ [])
    (shape (codes "XP") (pos 0) (pos 1600) (pos 1600) (pos 9600) ∷ shape (codes "NP") (pos 500) (pos 1600) (pos 1100) (pos 2400) ∷ [])
    ≡ Some (Ok (written_layout inverter_drawn inverter_items))
inverter_layout = refl

-- two buffers and the wires that join them, as they are written, and the text that is to be written
abbrev buffers_drawn : List WrittenSymbol
buffers_drawn =
    record {
      name = Some (codes "BUF");
      shapes = shape (codes "XP") (pos 0) (pos 0) (pos 1600) (pos 8000) ∷ shape (codes "NP") (pos 500) (pos 7200) (pos 1100) (pos 8000) ∷ [];
    } ∷ []

abbrev buffers_items : List MainItem
buffers_items =
    copy (Some (codes "u1")) 1 (record { dx = pos 0; dy = pos 1600; mirror = false })
    ∷ copy (Some (codes "u2")) 1 (record { dx = pos 1600; dy = pos 1600; mirror = false })
    ∷ alone (shape (codes "NP") (pos 500) (pos 9600) (pos 1100) (pos 11600)) ∷ alone (shape (codes "NP") (pos 2100) (pos 9600) (pos 2700) (pos 11600))
    ∷ alone (shape (codes "NM") (pos 400) (pos 10900) (pos 2800) (pos 11500))
    ∷ alone (shape (codes "NM") (pos 400) (pos 10800) (pos 1200) (pos 11600)) ∷ alone (shape (codes "NP") (pos 400) (pos 10800) (pos 1200) (pos 11600)) ∷ alone (shape (codes "NC") (pos 600) (pos 11000) (pos 1000) (pos 11400))
    ∷ alone (shape (codes "NM") (pos 2000) (pos 10800) (pos 2800) (pos 11600)) ∷ alone (shape (codes "NP") (pos 2000) (pos 10800) (pos 2800) (pos 11600)) ∷ alone (shape (codes "NC") (pos 2200) (pos 11000) (pos 2600) (pos 11400))
    ∷ []

abbrev buffers_text : List ℕ
buffers_text = codes "(cellroute 1);\nDS 1 1 1;\n9 BUF;\nL XP;\nB 800 4000 400 2000;\nL NP;\nB 300 400 400 3800;\nDF;\n91 u1;\nC 1 T 0 800;\n91 u2;\nC 1 T 800 800;\nL NP;\nB 300 1000 400 5300;\nB 300 1000 1200 5300;\nL NM;\nB 1200 300 800 5600;\nB 400 400 400 5600;\nL NP;\nB 400 400 400 5600;\nL NC;\nB 200 200 400 5600;\nL NM;\nB 400 400 1200 5600;\nL NP;\nB 400 400 1200 5600;\nL NC;\nB 200 200 1200 5600;\nE\n"

buffers_read : cif_reads buffers_text ≡ Ok (layout_commands buffers_drawn buffers_items)
unfolding cif_reads commands_at after_comment box_end box_form layer_form start_form definition_form call_form user_form step_of steps_of natural positive number number_within
buffers_read = refl
