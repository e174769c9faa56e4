use Rattle.std.specs.Prelude.{◌≡◌, refl, ℕ, pos, negsuc, List, [], ◌∷◌, length, codes, true, false, Ok, Err}
use Rattle.cif_text.specs.declared.command.CifCommand.{CifCommand}
use Rattle.cif_text.specs.declared.command.CifCommand.TheVariants as commands
use Rattle.cif_text.specs.declared.command.UserKind.TheVariants as users
use Rattle.cif_text.specs.declared.fault.CifKind.TheVariants as kinds
use Rattle.read_base.specs.Digits.{number_within}
use Rattle.cif_text.specs.Numbers.{natural, positive, number}
use Rattle.cif_text.specs.Forms.{box_end, box_form, layer_form, start_form, definition_form, user_form}
use Rattle.cif_text.specs.Calls.{step_of, steps_of, call_form}
use Rattle.geom_core.specs.declared.corner.Corner.{Corner}
use Rattle.cif_text.specs.Paths.{corners_of, wire_form, polygon_form}
use Rattle.cif_text.specs.Commands.{after_comment}
use Rattle.cif_text.specs.CifReads.{commands_at, cif_reads}

abbrev corner : ℕ → ℕ → Corner
corner x y = record { x = pos x; y = pos y }

-- the text of one inverter
abbrev pub inverter_text : List ℕ
inverter_text = codes "(cellroute 1);\nDS 1 1 1;\n9 INV;\nL XP;\nB 800 4000 400 2000;\nL NP;\nB 300 400 400 200;\nDF;\n91 u1;\nC 1 T 0 800;\nE\n"

abbrev pub inverter : List CifCommand
inverter =
    commands.Comment ∷ commands.Start 1 1 1 ∷ commands.User users.SymbolName (codes "INV")
    ∷ commands.Layer (codes "XP") ∷ commands.Box (pos 800) (pos 4000) (pos 400) (pos 2000) false
    ∷ commands.Layer (codes "NP") ∷ commands.Box (pos 300) (pos 400) (pos 400) (pos 200) false
    ∷ commands.Finish ∷ commands.User users.InstanceName (codes "u1") ∷ commands.Call 1 false 0 (pos 0) (pos 800)
    ∷ commands.End ∷ []

inverter_length : length inverter_text ≡ 110
inverter_length = refl

inverter_read : cif_reads inverter_text ≡ Ok inverter
unfolding cif_reads commands_at after_comment box_end box_form layer_form start_form definition_form call_form user_form step_of steps_of natural positive number number_within
inverter_read = refl

-- comments and lower-case words
lower_case_words : cif_reads (codes "(a (b;) c);Define Start 1; Layer NM; Box 4 4 2 2; Define Finish; Call 1; End") ≡ Ok (commands.Comment ∷ commands.Start 1 1 1 ∷ commands.Layer (codes "NM") ∷ commands.Box (pos 4) (pos 4) (pos 2) (pos 2) false ∷ commands.Finish ∷ commands.Call 1 false 0 (pos 0) (pos 0) ∷ commands.End ∷ [])
unfolding cif_reads commands_at after_comment box_end box_form layer_form start_form definition_form call_form user_form step_of steps_of natural positive number number_within
lower_case_words = refl

bytes_behind_the_end : cif_reads (codes "E; what follows )(") ≡ Ok (commands.End ∷ [])
unfolding cif_reads commands_at after_comment box_end box_form layer_form start_form definition_form call_form user_form step_of steps_of natural positive number number_within
bytes_behind_the_end = refl

-- the refused and cut texts
call_of_an_undefined_symbol : cif_reads (codes "C 2; E") ≡ Ok (commands.Call 2 false 0 (pos 0) (pos 0) ∷ commands.End ∷ [])
unfolding cif_reads commands_at after_comment box_end box_form layer_form start_form definition_form call_form user_form step_of steps_of natural positive number number_within
call_of_an_undefined_symbol = refl

empty_text : cif_reads (codes "") ≡ Err (kinds.NoEnd, 0)
unfolding cif_reads commands_at after_comment box_end box_form layer_form start_form definition_form call_form user_form step_of steps_of natural positive number number_within
empty_text = refl

no_end : cif_reads (codes "C 2;") ≡ Err (kinds.NoEnd, 4)
unfolding cif_reads commands_at after_comment box_end box_form layer_form start_form definition_form call_form user_form step_of steps_of natural positive number number_within
no_end = refl

polygon : cif_reads (codes "P0 0 10 0 10 4 0,4;E") ≡ Ok (commands.Polygon (corner 0 0 ∷ corner 10 0 ∷ corner 10 4 ∷ corner 0 4 ∷ []) ∷ commands.End ∷ [])
unfolding cif_reads commands_at polygon_form corners_of natural positive number number_within
polygon = refl

polygon_of_two_points : cif_reads (codes "P 1 1 1 2;E") ≡ Err (kinds.BadCommand, 0)
unfolding cif_reads commands_at polygon_form corners_of natural positive number number_within
polygon_of_two_points = refl

-- each step is along an axis, but the one back to the first point
slanted_last_step : cif_reads (codes "L NM;P 0 0 4 0 4 4;E") ≡ Err (kinds.Turned, 5)
unfolding cif_reads commands_at layer_form polygon_form corners_of natural positive number number_within
slanted_last_step = refl

wire : cif_reads (codes "W 4 0 0 10,0X10 10;E") ≡ Ok (commands.Wire (pos 4) (corner 0 0 ∷ corner 10 0 ∷ corner 10 10 ∷ []) ∷ commands.End ∷ [])
unfolding cif_reads commands_at wire_form corners_of natural positive number number_within
wire = refl

wire_of_a_point : cif_reads (codes "W 4 5 5;E") ≡ Ok (commands.Wire (pos 4) (corner 5 5 ∷ []) ∷ commands.End ∷ [])
unfolding cif_reads commands_at wire_form corners_of natural positive number number_within
wire_of_a_point = refl

wire_without_points : cif_reads (codes "W 5;E") ≡ Err (kinds.BadCommand, 0)
unfolding cif_reads commands_at wire_form corners_of natural positive number number_within
wire_without_points = refl

odd_count_of_numbers : cif_reads (codes " W 1 1 2 2;E") ≡ Err (kinds.BadCommand, 1)
unfolding cif_reads commands_at wire_form corners_of natural positive number number_within
odd_count_of_numbers = refl

great_number_before_an_odd_count : cif_reads (codes "W 1 0 0 2000000000000;E") ≡ Err (kinds.Number, 8)
unfolding cif_reads commands_at wire_form corners_of natural positive number number_within
great_number_before_an_odd_count = refl

slanted_wire : cif_reads (codes "L NM;W 1 0 0 0 4 1 5;E") ≡ Err (kinds.Turned, 5)
unfolding cif_reads commands_at layer_form wire_form corners_of natural positive number number_within
slanted_wire = refl

round_flash : cif_reads (codes " R 1 1 2; E") ≡ Err (kinds.LeftOut 82, 1)
unfolding cif_reads commands_at after_comment box_end box_form layer_form start_form definition_form call_form user_form step_of steps_of natural positive number number_within
round_flash = refl

turned : cif_reads (codes "C 1 R 1 1; E") ≡ Err (kinds.Turned, 0)
unfolding cif_reads commands_at after_comment box_end box_form layer_form start_form definition_form call_form user_form step_of steps_of natural positive number number_within
turned = refl

-- a comment is only a command that begins with a parenthesis
parenthesis_in_user_command : cif_reads (codes "4 (a;b);E") ≡ Err (kinds.BadCommand, 6)
unfolding cif_reads commands_at after_comment box_end box_form layer_form start_form definition_form call_form user_form step_of steps_of natural positive number number_within
parenthesis_in_user_command = refl

parenthesis_in_name : cif_reads (codes "91 a(b; E") ≡ Ok (commands.User users.InstanceName (codes "a(b") ∷ commands.End ∷ [])
unfolding cif_reads commands_at after_comment box_end box_form layer_form start_form definition_form call_form user_form step_of steps_of natural positive number number_within
parenthesis_in_name = refl

-- a command without a semicolon, whatever it begins with; and a comment that is not closed
no_command_and_no_semicolon : cif_reads (codes "X") ≡ Err (kinds.NoEnd, 1)
unfolding cif_reads commands_at after_comment box_end box_form layer_form start_form definition_form call_form user_form step_of steps_of natural positive number number_within
no_command_and_no_semicolon = refl

polygon_without_semicolon : cif_reads (codes "P 1 1") ≡ Err (kinds.NoEnd, 5)
unfolding cif_reads commands_at after_comment box_end box_form layer_form start_form definition_form call_form user_form step_of steps_of natural positive number number_within
polygon_without_semicolon = refl

unclosed_comment : cif_reads (codes "(a") ≡ Err (kinds.Unclosed, 0)
unfolding cif_reads commands_at after_comment box_end box_form layer_form start_form definition_form call_form user_form step_of steps_of natural positive number number_within
unclosed_comment = refl

-- a number that is too great, and one that the form does not come to
zero_before_great_number : cif_reads (codes "B 0 2000000000000 0 0;E") ≡ Err (kinds.BadCommand, 0)
unfolding cif_reads commands_at after_comment box_end box_form layer_form start_form definition_form call_form user_form step_of steps_of natural positive number number_within
zero_before_great_number = refl

great_length : cif_reads (codes "B 2000000000000 0 0 0;E") ≡ Err (kinds.Number, 2)
unfolding cif_reads commands_at after_comment box_end box_form layer_form start_form definition_form call_form user_form step_of steps_of natural positive number number_within
great_length = refl

great_direction : cif_reads (codes "B 1 1 0 0 2000000000000;E") ≡ Err (kinds.Number, 10)
unfolding cif_reads commands_at after_comment box_end box_form layer_form start_form definition_form call_form user_form step_of steps_of natural positive number number_within
great_direction = refl

great_direction_without_separator : cif_reads (codes "B 1 1 0 0-2000000000000;E") ≡ Err (kinds.BadCommand, 0)
unfolding cif_reads commands_at after_comment box_end box_form layer_form start_form definition_form call_form user_form step_of steps_of natural positive number number_within
great_direction_without_separator = refl

great_negative_centre : cif_reads (codes "B 1 1 -1000000000001 0;E") ≡ Err (kinds.Number, 6)
unfolding cif_reads commands_at after_comment box_end box_form layer_form start_form definition_form call_form user_form step_of steps_of natural positive number number_within
great_negative_centre = refl

greatest_number : cif_reads (codes "B 1 1 -1000000000000 0;E") ≡ Ok (commands.Box (pos 1) (pos 1) (negsuc 999999999999) (pos 0) false ∷ commands.End ∷ [])
unfolding cif_reads commands_at after_comment box_end box_form layer_form start_form definition_form call_form user_form step_of steps_of natural positive number number_within
greatest_number = refl

-- a start inside a definition
great_start_inside : cif_reads (codes "DS 1;DS 2000000000000;E") ≡ Err (kinds.Number, 8)
unfolding cif_reads commands_at after_comment box_end box_form layer_form start_form definition_form call_form user_form step_of steps_of natural positive number number_within
great_start_inside = refl

start_inside : cif_reads (codes "DS 1;DS 2;DF;E") ≡ Err (kinds.BadCommand, 5)
unfolding cif_reads commands_at after_comment box_end box_form layer_form start_form definition_form call_form user_form step_of steps_of natural positive number number_within
start_inside = refl

finish_outside : cif_reads (codes "DF;E") ≡ Err (kinds.BadCommand, 0)
unfolding cif_reads commands_at after_comment box_end box_form layer_form start_form definition_form call_form user_form step_of steps_of natural positive number number_within
finish_outside = refl

-- directions are looked at behind the whole form
turned_and_no_form : cif_reads (codes "C 1 R 1 1 Q;E") ≡ Err (kinds.BadCommand, 0)
unfolding cif_reads commands_at after_comment box_end box_form layer_form start_form definition_form call_form user_form step_of steps_of natural positive number number_within
turned_and_no_form = refl

turned_and_great : cif_reads (codes "C 1 R 1 1 T 0 2000000000000;E") ≡ Err (kinds.Number, 14)
unfolding cif_reads commands_at after_comment box_end box_form layer_form start_form definition_form call_form user_form step_of steps_of natural positive number number_within
turned_and_great = refl

turned_box : cif_reads (codes "B 1 1 0 0 1 1;E") ≡ Err (kinds.Turned, 0)
unfolding cif_reads commands_at after_comment box_end box_form layer_form start_form definition_form call_form user_form step_of steps_of natural positive number number_within
turned_box = refl

upright_box : cif_reads (codes "B 1 2 3 4 0 -1;E") ≡ Ok (commands.Box (pos 1) (pos 2) (pos 3) (pos 4) true ∷ commands.End ∷ [])
unfolding cif_reads commands_at after_comment box_end box_form layer_form start_form definition_form call_form user_form step_of steps_of natural positive number number_within
upright_box = refl

box_along_x : cif_reads (codes "B1X2Y3 4 -1 0 ;E") ≡ Ok (commands.Box (pos 1) (pos 2) (pos 3) (pos 4) false ∷ commands.End ∷ [])
unfolding cif_reads commands_at after_comment box_end box_form layer_form start_form definition_form call_form user_form step_of steps_of natural positive number number_within
box_along_x = refl

-- a scale of one number, a direction of one number
half_a_scale : cif_reads (codes "DS 1 2;E") ≡ Err (kinds.BadCommand, 0)
unfolding cif_reads commands_at after_comment box_end box_form layer_form start_form definition_form call_form user_form step_of steps_of natural positive number number_within
half_a_scale = refl

half_a_direction : cif_reads (codes "B 1 1 0 0 1;E") ≡ Err (kinds.BadCommand, 0)
unfolding cif_reads commands_at after_comment box_end box_form layer_form start_form definition_form call_form user_form step_of steps_of natural positive number number_within
half_a_direction = refl

-- what may follow a `D`
no_definition : cif_reads (codes "D X;E") ≡ Err (kinds.BadCommand, 0)
unfolding cif_reads commands_at after_comment box_end box_form layer_form start_form definition_form call_form user_form step_of steps_of natural positive number number_within
no_definition = refl

deletion_inside : cif_reads (codes "DS 1;D d D 1;DF;E") ≡ Err (kinds.LeftOut 68, 5)
unfolding cif_reads commands_at after_comment box_end box_form layer_form start_form definition_form call_form user_form step_of steps_of natural positive number number_within
deletion_inside = refl

-- behind the parenthesis of a comment
comment_without_semicolon : cif_reads (codes "(a) E") ≡ Err (kinds.NoEnd, 5)
unfolding cif_reads commands_at after_comment box_end box_form layer_form start_form definition_form call_form user_form step_of steps_of natural positive number number_within
comment_without_semicolon = refl

comment_and_layer : cif_reads (codes "(a) L NM;E") ≡ Err (kinds.BadCommand, 0)
unfolding cif_reads commands_at after_comment box_end box_form layer_form start_form definition_form call_form user_form step_of steps_of natural positive number number_within
comment_and_layer = refl

comment_and_word : cif_reads (codes "(a) b ;E") ≡ Ok (commands.Comment ∷ commands.End ∷ [])
unfolding cif_reads commands_at after_comment box_end box_form layer_form start_form definition_form call_form user_form step_of steps_of natural positive number number_within
comment_and_word = refl

-- user commands
name_of_digits : cif_reads (codes "9 1x;E") ≡ Ok (commands.User users.SymbolName (codes "1x") ∷ commands.End ∷ [])
unfolding cif_reads commands_at after_comment box_end box_form layer_form start_form definition_form call_form user_form step_of steps_of natural positive number number_within
name_of_digits = refl

no_symbol_name : cif_reads (codes "9;E") ≡ Err (kinds.BadCommand, 0)
unfolding cif_reads commands_at after_comment box_end box_form layer_form start_form definition_form call_form user_form step_of steps_of natural positive number number_within
no_symbol_name = refl

no_instance_name : cif_reads (codes "91  ;E") ≡ Err (kinds.BadCommand, 0)
unfolding cif_reads commands_at after_comment box_end box_form layer_form start_form definition_form call_form user_form step_of steps_of natural positive number number_within
no_instance_name = refl

no_text : cif_reads (codes "5;E") ≡ Ok (commands.User users.Other (codes "") ∷ commands.End ∷ [])
unfolding cif_reads commands_at after_comment box_end box_form layer_form start_form definition_form call_form user_form step_of steps_of natural positive number number_within
no_text = refl

white_at_both_ends : cif_reads (codes "912  a b  ;E") ≡ Ok (commands.User users.Other (codes "a b") ∷ commands.End ∷ [])
unfolding cif_reads commands_at after_comment box_end box_form layer_form start_form definition_form call_form user_form step_of steps_of natural positive number number_within
white_at_both_ends = refl

-- a label, with a text or without
label_of_net : cif_reads (codes "94 a 1 -2;E") ≡ Ok (commands.User users.Label (codes "a 1 -2") ∷ commands.End ∷ [])
unfolding cif_reads commands_at after_comment box_end box_form layer_form start_form definition_form call_form user_form step_of steps_of natural positive number number_within
label_of_net = refl

label_alone : cif_reads (codes "94;E") ≡ Ok (commands.User users.Label (codes "") ∷ commands.End ∷ [])
unfolding cif_reads commands_at after_comment box_end box_form layer_form start_form definition_form call_form user_form step_of steps_of natural positive number number_within
label_alone = refl

-- the parts of calls
call_without_blanks : cif_reads (codes "C 1T5 6MX;E") ≡ Ok (commands.Call 1 true 0 (negsuc 4) (pos 6) ∷ commands.End ∷ [])
unfolding cif_reads commands_at after_comment box_end box_form layer_form start_form definition_form call_form user_form step_of steps_of natural positive number number_within
call_without_blanks = refl

call_with_a_comma : cif_reads (codes "C 1 T 5,6;E") ≡ Ok (commands.Call 1 false 0 (pos 5) (pos 6) ∷ commands.End ∷ [])
unfolding cif_reads commands_at after_comment box_end box_form layer_form start_form definition_form call_form user_form step_of steps_of natural positive number number_within
call_with_a_comma = refl

separator_behind_the_number : cif_reads (codes "C 1 Q T 5 6;E") ≡ Err (kinds.BadCommand, 0)
unfolding cif_reads commands_at after_comment box_end box_form layer_form start_form definition_form call_form user_form step_of steps_of natural positive number number_within
separator_behind_the_number = refl

mirrored_and_turned : cif_reads (codes "C 1 M Y R 0 1 T 3 4;E") ≡ Ok (commands.Call 1 true 3 (pos 3) (pos 4) ∷ commands.End ∷ [])
unfolding cif_reads commands_at after_comment box_end box_form layer_form start_form definition_form call_form user_form step_of steps_of natural positive number number_within
mirrored_and_turned = refl

moved_and_turned : cif_reads (codes "C 1 T 3 4 R -1 0 M X R 0 -5;E") ≡ Ok (commands.Call 1 true 1 (negsuc 3) (negsuc 2) ∷ commands.End ∷ [])
unfolding cif_reads commands_at after_comment box_end box_form layer_form start_form definition_form call_form user_form step_of steps_of natural positive number number_within
moved_and_turned = refl

-- the end inside a definition, and the end of the text there
end_inside : cif_reads (codes "DS 1; E") ≡ Err (kinds.NoEnd, 6)
unfolding cif_reads commands_at after_comment box_end box_form layer_form start_form definition_form call_form user_form step_of steps_of natural positive number number_within
end_inside = refl

text_ends_inside : cif_reads (codes "DS 1;L NM;") ≡ Err (kinds.NoEnd, 10)
unfolding cif_reads commands_at after_comment box_end box_form layer_form start_form definition_form call_form user_form step_of steps_of natural positive number number_within
text_ends_inside = refl

-- the whole offset of a call
great_part_of_offset : cif_reads (codes "C 1 T 1000000000000 0 T 1 0 T -1 0;E") ≡ Ok (commands.Call 1 false 0 (pos 1000000000000) (pos 0) ∷ commands.End ∷ [])
unfolding cif_reads commands_at after_comment box_end box_form layer_form start_form definition_form call_form user_form step_of steps_of natural positive number number_within
great_part_of_offset = refl

great_offset : cif_reads (codes " C 1 T 1000000000000 0 T 1 0;E") ≡ Err (kinds.Number, 1)
unfolding cif_reads commands_at after_comment box_end box_form layer_form start_form definition_form call_form user_form step_of steps_of natural positive number number_within
great_offset = refl

great_offset_and_turned : cif_reads (codes " C 1 T 1000000000000 0 T 1 0 R 0 0;E") ≡ Err (kinds.Turned, 1)
unfolding cif_reads commands_at after_comment box_end box_form layer_form start_form definition_form call_form user_form step_of steps_of natural positive number number_within
great_offset_and_turned = refl

-- leading zeros and the negative zero
leading_zeros : cif_reads (codes "C 00000000000000001 T -0 -007;E") ≡ Ok (commands.Call 1 false 0 (pos 0) (negsuc 6) ∷ commands.End ∷ [])
unfolding cif_reads commands_at after_comment box_end box_form layer_form start_form definition_form call_form user_form step_of steps_of natural positive number number_within
leading_zeros = refl

-- a byte above 127, wherever it stands
byte_above_127 : cif_reads (69 ∷ 59 ∷ 200 ∷ []) ≡ Err (kinds.NotAscii, 2)
unfolding cif_reads commands_at after_comment box_end box_form layer_form start_form definition_form call_form user_form step_of steps_of natural positive number number_within
byte_above_127 = refl
