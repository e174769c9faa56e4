use Rattle.std.specs.Prelude.{◌≡◌, refl, ℕ, suc, zero, pos, negsuc, List, [], ◌∷◌, ◌++◌, codes, false, Option, Some, None, Result, Ok, Err}
use Rattle.geom_core.specs.declared.layout.Layout.{Layout}
use Rattle.cif_text.specs.declared.command.CifCommand.{CifCommand}
use Rattle.cif_text.specs.declared.command.CifCommand.TheVariants as commands
use Rattle.cif_text.specs.declared.fault.CifKind.{CifKind}
use Rattle.read_base.specs.Digits.{number_within}
use Rattle.cif_text.specs.Numbers.{natural, positive, number}
use Rattle.cif_text.specs.Forms.{box_end, box_form, layer_form, start_form, definition_form, user_form}
use Rattle.cif_text.specs.Calls.{step_of, steps_of, call_form}
use Rattle.cif_text.specs.Commands.{after_comment}
use Rattle.cif_text.specs.CifReads.{commands_at, cif_reads}
use Rattle.cif_text.specs.Meaning.{step}
use Rattle.cif_reader.specs.declared.fault.ExpandKind.{ExpandKind}
use Rattle.cif_reader.specs.declared.fault.ExpandKind.TheVariants as kinds
use Rattle.cif_reader.specs.Expansion.{advance, progress, expansion}

-- what a text gives that reads
abbrev pub gives : List ℕ → Option (Result Layout (ExpandKind × ℕ))
gives text = given_of (cif_reads text)
  where
    given_of : Result (List CifCommand) (CifKind × ℕ) → Option (Result Layout (ExpandKind × ℕ))
    given_of (Ok found) = Some (expansion found)
    given_of (Err fault) = None

abbrev refused : ExpandKind → ℕ → Option (Result Layout (ExpandKind × ℕ))
refused kind at = Some (Err (kind, at))

undefined_call : gives (codes "C 2; E") ≡ refused (kinds.Undefined 2) 0
unfolding cif_reads commands_at after_comment box_end box_form layer_form start_form definition_form call_form user_form step_of steps_of natural positive number number_within step advance progress expansion
undefined_call = refl

open_call : gives (codes "DS 5; C 5; DF; E") ≡ refused (kinds.Undefined 5) 1
unfolding cif_reads commands_at after_comment box_end box_form layer_form start_form definition_form call_form user_form step_of steps_of natural positive number number_within step advance progress expansion
open_call = refl

second_definition : gives (codes "DS 1; DF; DS 1; DF; E") ≡ refused (kinds.Twice 1) 2
unfolding cif_reads commands_at after_comment box_end box_form layer_form start_form definition_form call_form user_form step_of steps_of natural positive number number_within step advance progress expansion
second_definition = refl

inexact_box : gives (codes "DS 1 1 2; L NM; B 3 4 2 2; DF; C 1; E") ≡ refused kinds.Inexact 2
unfolding cif_reads commands_at after_comment box_end box_form layer_form start_form definition_form call_form user_form step_of steps_of natural positive number number_within step advance progress expansion
inexact_box = refl

far_offset : gives (codes "DS 1; L NM; B 2 2 0 0; DF; C 1 T 2000000001 0; E") ≡ refused (kinds.TooFar (pos 4000000002)) 4
unfolding cif_reads commands_at after_comment box_end box_form layer_form start_form definition_form call_form user_form step_of steps_of natural positive number number_within step advance progress expansion
far_offset = refl

-- the far side of a shape, under its call's turn; and the offset before it
far_shape : gives (codes "DS 1; L NM; B 2 2 0 0; DF; C 1 R 0 1 T 0 -2000000000; E") ≡ refused (kinds.TooFar (negsuc 4000000001)) 4
unfolding cif_reads commands_at after_comment box_end box_form layer_form start_form definition_form call_form user_form step_of steps_of natural positive number number_within step advance progress expansion
far_shape = refl

-- a far box without a layer is far first
far_box : gives (codes "B 2 2 0 2000000000; E") ≡ refused (kinds.TooFar (pos 4000000002)) 0
unfolding cif_reads commands_at after_comment box_end box_form layer_form start_form definition_form call_form user_form step_of steps_of natural positive number number_within step advance progress expansion
far_box = refl

box_without_layer : gives (codes "L NM; DS 1; B 2 2 0 0; DF; E") ≡ refused kinds.NoLayer 2
unfolding cif_reads commands_at after_comment box_end box_form layer_form start_form definition_form call_form user_form step_of steps_of natural positive number number_within step advance progress expansion
box_without_layer = refl

call_of_no_name : gives (codes "DS 1; DF; 91 u; C 1; E") ≡ refused kinds.NoSymbolName 3
unfolding cif_reads commands_at after_comment box_end box_form layer_form start_form definition_form call_form user_form step_of steps_of natural positive number number_within step advance progress expansion
call_of_no_name = refl

-- definitions from this number on, each of which calls the one before it
abbrev nested : ℕ → ℕ → List CifCommand
nested first zero = []
nested first (suc k) =
    commands.Start (suc first) 1 1 ∷ commands.Call first false 0 (pos 0) (pos 0) ∷ commands.Finish ∷ nested (suc first) k

-- 64 definitions are read, but the last of them cannot be called
abbrev deep_commands : ℕ → List CifCommand → List CifCommand
deep_commands k main = commands.Start 1 1 1 ∷ commands.Finish ∷ (nested 1 k ++ (main ++ (commands.End ∷ [])))

depth_of_64 : expansion (deep_commands 63 (commands.Call 63 false 0 (pos 0) (pos 0) ∷ [])) ≡ Ok (record { cells = []; shapes = [] })
unfolding step advance progress expansion
depth_of_64 = refl

call_of_depth_64 : expansion (deep_commands 63 (commands.Call 64 false 0 (pos 0) (pos 0) ∷ [])) ≡ Err (kinds.TooDeep, 191)
unfolding step advance progress expansion
call_of_depth_64 = refl

depth_of_65 : expansion (deep_commands 64 []) ≡ Err (kinds.TooDeep, 192)
unfolding step advance progress expansion
depth_of_65 = refl
