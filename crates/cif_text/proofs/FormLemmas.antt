use Rattle.read_base.specs.Digits.{number_within}
use Rattle.cif_text.specs.declared.command.CifCommand.TheVariants as commands
use Rattle.cif_text.specs.declared.command.UserKind.TheVariants as users
use Rattle.std.proofs.Common.{◌≡◌, refl, ap, ◌∙◌, ℕ, zero, suc, ◌≤◌, List, [], ◌∷◌, ◌++◌, length, length-append, Bool, true, false, ℤ, pos, negsuc, arith, decimal}
use Rattle.std.proofs.lemmas.Bool.{le-leb, leb-true, and_parts}
use Rattle.std.proofs.lemmas.List.{append-nil}
use Rattle.std.proofs.lemmas.Int.{ints}
use Rattle.std.proofs.Math.IntN.{+ℤ_idl}
use Rattle.std.specs.Char.{is_ascii_digit}
use Rattle.std.specs.Fmt.{signed_decimal}
use Rattle.std.specs.List.{list_all}
use Rattle.std.specs.Prelude.{codes, Ok, ◌+ℤ◌, nat_le, nat_abs, ◌&&◌}
use Rattle.geom_core.specs.LayerText.{is_layer_code, is_layer_text}
use Rattle.cif_text.specs.declared.command.UserKind.{UserKind}
use Rattle.cif_text.specs.Printing.{blanked, upright_parts, flip_parts, quarter_parts}
use Rattle.cif_text.specs.Bytes.{is_blank, is_separator, span, skip, begins, ends, trimmed}
use Rattle.read_base.specs.Steps.{◌>>=◌}
use Rattle.cif_text.specs.Numbers.{greatest, natural, number}
use Rattle.cif_text.specs.Forms.{box_end, box_form, layer_of, layer_form, start_form, definition_form, naming, user_form}
use Rattle.cif_text.specs.Calls.{Step, translate, point_of, step_of, steps_of, after_all, at_rest, call_of, call_form}
use Rattle.cif_text.specs.Printable.{IsCifNumber, IsSize, IsNatural, IsPart}
use Rattle.cif_text.proofs.PrintableTexts.{IsNameText}
use Rattle.cif_text.proofs.SpanLemmas.{begins-other, ends-other, span-all, skip-blank}
use Rattle.cif_text.proofs.NumberLemmas.{blank-gap, separator-gap, begins-decimal, number-apart, number-skipped, positive-apart, positive-skipped, natural-skipped}

-- what a box's line holds behind the centre
upright-stops : (upright : Bool) → begins is_ascii_digit (blanked (upright_parts upright)) ≡ false
upright-stops true = refl
upright-stops false = refl

upright-is : (n m : ℕ) (cx cy : ℤ) (upright : Bool)
    → box_end n m cx cy (blanked (upright_parts upright)) ≡ Ok (Ok (commands.Box (pos n) (pos m) cx cy upright))
unfolding box_end number natural number_within
upright-is n m cx cy true = refl
upright-is n m cx cy false = refl

size-part : (n : ℕ) → IsSize (pos n) → IsPart n
size-part n size = record { low = omega (arith, ints); high = omega (arith, ints) }

pub box-is : (long wide cx cy : ℤ) (upright : Bool) → IsSize long → IsSize wide → IsCifNumber cx → IsCifNumber cy
    → box_form (blanked (signed_decimal long ∷ signed_decimal wide ∷ signed_decimal cx ∷ signed_decimal cy ∷ upright_parts upright))
    ≡ Ok (Ok (commands.Box long wide cx cy upright))
unfolding box_form
box-is (negsuc n) wide cx cy upright long_size wide_size cx_near cy_near = absurd (omega (arith, ints))
box-is (pos n) (negsuc m) cx cy upright long_size wide_size cx_near cy_near = absurd (omega (arith, ints))
box-is (pos n) (pos m) cx cy upright long_size wide_size cx_near cy_near =
    rw (
      positive-skipped is_separator separator-gap n (blanked (decimal m ∷ signed_decimal cx ∷ signed_decimal cy ∷ upright_parts upright)) (size-part n long_size) refl,
      positive-apart is_separator separator-gap m (blanked (signed_decimal cx ∷ signed_decimal cy ∷ upright_parts upright)) (size-part m wide_size) refl,
      number-apart is_separator separator-gap cx (blanked (signed_decimal cy ∷ upright_parts upright)) cx_near refl,
      number-apart is_separator separator-gap cy (blanked (upright_parts upright)) cy_near (upright-stops upright),
    )
    (upright-is n m cx cy upright)

-- a layer's byte is no blank
layer-no-blank : (c : ℕ) → is_layer_code c ≡ true → is_blank c ≡ false
layer-no-blank c code = rw code refl

pub layer-is : (text : List ℕ) → is_layer_text text ≡ true → layer_form (blanked (text ∷ [])) ≡ Ok (Ok (commands.Layer text))
unfolding layer_form
layer-is text valid =
    let parts = and_parts (nat_le 1 (length text) && nat_le (length text) 4) (list_all is_layer_code text) valid in
    let some : 1 ≤ length text = leb-true 1 (length text) (and_parts (nat_le 1 (length text)) (nat_le (length text) 4) parts.0).0 in
    let stop : begins is_blank text ≡ false =
    rw append-nil at (begins-other is_blank is_layer_code layer-no-blank text [] some parts.1) in
    ap (λ (bytes : List ℕ). layer_form (32 ∷ bytes)) (append-nil text)
    ∙ ap (λ (bytes : List ℕ). layer_of (span is_layer_code bytes)) (skip-blank is_blank text refl stop)
    ∙ ap layer_of (span-all is_layer_code text parts.1)
    ∙ rw valid refl

pub start-is : (n a b : ℕ) → IsNatural n → IsPart a → IsPart b
    → definition_form (83 ∷ blanked (decimal n ∷ decimal a ∷ decimal b ∷ [])) ≡ Ok (Ok (commands.Start n a b))
unfolding definition_form start_form
start-is n a b n_near a_part b_part =
    let some : 1 ≤ length (decimal a ++ blanked (decimal b ∷ [])) = omega (arith, length-append {A = ℕ}) in
    let more : ends is_separator (blanked (decimal a ∷ decimal b ∷ [])) ≡ false =
    ends-other is_separator (decimal a ++ blanked (decimal b ∷ [])) some (begins-decimal is_separator separator-gap a (blanked (decimal b ∷ [])) a_part.high) in
    rw (
      natural-skipped is_separator separator-gap n (blanked (decimal a ∷ decimal b ∷ [])) n_near refl,
      more,
      positive-apart is_separator separator-gap a (blanked (decimal b ∷ [])) a_part refl,
      positive-apart is_separator separator-gap b [] b_part refl,
    )
    refl

pub finish-is : definition_form (70 ∷ []) ≡ Ok (Ok commands.Finish)
unfolding definition_form
finish-is = refl

-- a name that is not empty
naming-some : (kind : UserKind) (text : List ℕ) → 1 ≤ length text → naming kind text ≡ Ok (Ok (commands.User kind text))
naming-some kind [] some = absurd (omega arith)
naming-some kind (c ∷ cs) some = refl

pub symbol-is : (text : List ℕ) → IsNameText text → user_form 57 (blanked (text ∷ [])) ≡ Ok (Ok (commands.User users.SymbolName text))
unfolding user_form
symbol-is text name =
    let bare : trimmed (blanked (text ∷ [])) ≡ text = ap trimmed (append-nil text) ∙ name.bare in
    ap (naming users.SymbolName) bare ∙ naming-some users.SymbolName text name.some

pub instance-is : (text : List ℕ) → IsNameText text → user_form 57 (49 ∷ blanked (text ∷ [])) ≡ Ok (Ok (commands.User users.InstanceName text))
unfolding user_form
instance-is text name =
    let bare : trimmed (blanked (text ∷ [])) ≡ text = ap trimmed (append-nil text) ∙ name.bare in
    ap (naming users.InstanceName) bare ∙ naming-some users.InstanceName text name.some

pub label-is : (text : List ℕ) → IsNameText text → user_form 57 (52 ∷ blanked (text ∷ [])) ≡ Ok (Ok (commands.User users.Label text))
unfolding user_form
label-is text name = ap (λ (t : List ℕ). Ok (Ok (commands.User users.Label t))) (ap trimmed (append-nil text) ∙ name.bare)

-- two numbers, of which a step is made
point-is : (step : ℤ → ℤ → Step) (dx dy : ℤ) → IsCifNumber dx → IsCifNumber dy
    → point_of step (blanked (signed_decimal dx ∷ signed_decimal dy ∷ [])) ≡ Ok (step dx dy, [])
point-is step dx dy dx_near dy_near =
    rw (number-skipped is_blank blank-gap dx (blanked (signed_decimal dy ∷ [])) dx_near refl, number-apart is_blank blank-gap dy [] dy_near refl) refl

near-abs : (z : ℤ) → IsCifNumber z → nat_le (nat_abs z) greatest ≡ true
near-abs (pos n) near = le-leb n greatest (omega (arith, ints))
near-abs (negsuc n) near = le-leb (suc n) greatest (omega (arith, ints))

-- a call whose offset is near is one
call-of-is : (n quarters : ℕ) (flip : Bool) (dx dy : ℤ) → IsCifNumber dx → IsCifNumber dy
    → call_of n (record { flip = flip; quarters = quarters; dx = pos 0 +ℤ dx; dy = pos 0 +ℤ dy }) ≡ Ok (commands.Call n flip quarters dx dy)
call-of-is n quarters flip dx dy dx_near dy_near =
    rw (+ℤ_idl dx, +ℤ_idl dy, near-abs dx dx_near, near-abs dy dy_near) refl

-- the bytes behind the number in a call's line
abbrev turning_text : Bool → ℕ → ℤ → ℤ → List ℕ
turning_text flip quarters dx dy = blanked (flip_parts flip (quarter_parts quarters (codes "T" ∷ signed_decimal dx ∷ signed_decimal dy ∷ [])))

turning-stops : (flip : Bool) (quarters : ℕ) (dx dy : ℤ) → quarters ≤ 3 → begins is_ascii_digit (turning_text flip quarters dx dy) ≡ false
turning-stops true quarters dx dy few = refl
turning-stops false zero dx dy few = refl
turning-stops false (suc zero) dx dy few = refl
turning-stops false (suc (suc zero)) dx dy few = refl
turning-stops false (suc (suc (suc k))) dx dy few = refl

turning-is : (n : ℕ) (flip : Bool) (quarters : ℕ) (dx dy : ℤ) → quarters ≤ 3 → IsCifNumber dx → IsCifNumber dy
    → (steps_of (length (turning_text flip quarters dx dy)) (skip is_blank (turning_text flip quarters dx dy))
    >>= λ steps. Ok (after_all steps at_rest >>= call_of n))
    ≡ Ok (Ok (commands.Call n flip quarters dx dy))
unfolding steps_of step_of number natural number_within
turning-is n true zero dx dy few dx_near dy_near =
    rw (point-is translate dx dy dx_near dy_near) (ap Ok (call-of-is n 0 true dx dy dx_near dy_near))
turning-is n true (suc zero) dx dy few dx_near dy_near =
    rw (point-is translate dx dy dx_near dy_near) (ap Ok (call-of-is n 1 true dx dy dx_near dy_near))
turning-is n true (suc (suc zero)) dx dy few dx_near dy_near =
    rw (point-is translate dx dy dx_near dy_near) (ap Ok (call-of-is n 2 true dx dy dx_near dy_near))
turning-is n true (suc (suc (suc zero))) dx dy few dx_near dy_near =
    rw (point-is translate dx dy dx_near dy_near) (ap Ok (call-of-is n 3 true dx dy dx_near dy_near))
turning-is n true (suc (suc (suc (suc k)))) dx dy few dx_near dy_near = absurd (omega arith)
turning-is n false zero dx dy few dx_near dy_near =
    rw (point-is translate dx dy dx_near dy_near) (ap Ok (call-of-is n 0 false dx dy dx_near dy_near))
turning-is n false (suc zero) dx dy few dx_near dy_near =
    rw (point-is translate dx dy dx_near dy_near) (ap Ok (call-of-is n 1 false dx dy dx_near dy_near))
turning-is n false (suc (suc zero)) dx dy few dx_near dy_near =
    rw (point-is translate dx dy dx_near dy_near) (ap Ok (call-of-is n 2 false dx dy dx_near dy_near))
turning-is n false (suc (suc (suc zero))) dx dy few dx_near dy_near =
    rw (point-is translate dx dy dx_near dy_near) (ap Ok (call-of-is n 3 false dx dy dx_near dy_near))
turning-is n false (suc (suc (suc (suc k)))) dx dy few dx_near dy_near = absurd (omega arith)

pub call-is : (n : ℕ) (flip : Bool) (quarters : ℕ) (dx dy : ℤ) → IsNatural n → quarters ≤ 3 → IsCifNumber dx → IsCifNumber dy
    → call_form (32 ∷ decimal n ++ turning_text flip quarters dx dy) ≡ Ok (Ok (commands.Call n flip quarters dx dy))
unfolding call_form
call-is n flip quarters dx dy n_near few dx_near dy_near =
    rw (natural-skipped is_separator separator-gap n (turning_text flip quarters dx dy) n_near (turning-stops flip quarters dx dy few))
    (turning-is n flip quarters dx dy few dx_near dy_near)
