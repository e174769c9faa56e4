use Rattle.std.proofs.Common.{ℕ, zero, suc, ◌+◌, ◌≤◌, ℤ, List, [], ◌∷◌, length, Bool, true, false, cond, IfErr, Option, Some, None, Result, Ok, Err, arith}
use Rattle.std.specs.Char.{is_ascii_digit}
use Rattle.std.specs.Prelude.{◌==◌, ◌&&◌, codes}
use Rattle.std.specs.Str.{bytes_eq}
use Rattle.geom_core.specs.LayerText.{is_layer_code, is_layer_text}
use Rattle.cif_text.specs.declared.command.CifCommand.{CifCommand}
use Rattle.cif_text.specs.declared.command.UserKind.{UserKind}
use Rattle.cif_text.specs.declared.command.UserKind.TheVariants as users
use Rattle.cif_text.specs.declared.fault.CifKind.{CifKind}
use Rattle.cif_text.specs.Answers.{HasPlaceWithin}
use Rattle.cif_text.specs.Bytes.{is_blank, is_separator, span, skip, begins, ends, trimmed}
use Rattle.read_base.specs.Digits.{number_within}
use Rattle.read_base.specs.Steps.{◌>>=◌}
use Rattle.cif_text.specs.declared.misfit.Misfit.{Misfit}
use Rattle.cif_text.specs.declared.misfit.Misfit.TheVariants.{TooGreat, Malformed}
use Rattle.cif_text.specs.Numbers.{greatest, unless_great, value_at, natural, number, above_zero, positive, apart}
use Rattle.cif_text.specs.Forms.{finished, box_end, box_form, layer_form, start_form, definition_of, definition_form, naming, user_form}
use Rattle.geom_core.specs.declared.corner.Corner.{Corner}
use Rattle.cif_text.specs.Paths.{corner_of, corners_of, wire_of, wire_form, first_corner_of, polygon_of, polygon_form}
use Rattle.cif_text.specs.Calls.{Step, translate, rotate, point_of, mirror_of, step_of, steps_of, after_all, at_rest, call_of, call_form}
use Rattle.cif_text.specs.Commands.{form_of}
use Rattle.cif_text.proofs.FuelLaws.{Leaves, next-leaves, either-leaves, fewer-leaves, span-rest, value-leaves, natural-leaves, number-leaves, step-leaves, corner-leaves, first-leaves}

-- a number that is too great begins at most so many bytes before the semicolon
abbrev pub IsPlace : ℕ → Misfit → Type 0
IsPlace most (TooGreat left) = left ≤ most
IsPlace most Malformed = Unit {0}

pub record Places {A : Type 0} (most : ℕ) (r : Result A Misfit) : Type 0 where
  pub holds : IfErr r (IsPlace most)

found-places : {A : Type 0} (most : ℕ) (x : A) → Places most (Ok x)
found-places most x = record { holds = tt }

bad-places : {x : Type 0} (most : ℕ) → Places {A = x} most (Err Malformed)
bad-places most = record { holds = tt }

next-places : {A B : Type 0} (n : ℕ) (r : Result (A × List ℕ) Misfit) (f : A × List ℕ → Result B Misfit)
    → Leaves n r → Places n r → ((x : A × List ℕ) → length x.1 ≤ n → Places n (f x)) → Places n (r >>= f)
next-places n (Ok x) f left first onward = onward x left.holds
next-places n (Err e) f left first onward = record { holds = first.holds }

either-places : {A : Type 0} (n : ℕ) (b : Bool) (r s : Result A Misfit) → Places n r → Places n s → Places n (cond b r s)
either-places n true r s first second = first
either-places n false r s first second = second

more-places : {A : Type 0} (n m : ℕ) (r : Result A Misfit) → n ≤ m → Places n r → Places m r
more-places n m (Ok x) le h = record { holds = tt }
more-places n m (Err (TooGreat left)) le h = let few : left ≤ n = h.holds in record { holds = omega arith }
more-places n m (Err Malformed) le h = record { holds = tt }

value-places : (place : ℕ) (found : List ℕ × List ℕ) → Places place (value_at place found)
value-places place ([], rest) = record { holds = tt }
value-places place (d ∷ ds, rest) = by (number_within greatest (d ∷ ds))
  where
    by : (n : Option ℕ) → Places place (unless_great place rest n)
    by (Some n) = record { holds = tt }
    by None = record { holds = omega arith }

natural-places : (bytes : List ℕ) → Places (length bytes) (natural bytes)
unfolding natural
natural-places bytes = value-places (length bytes) (span is_ascii_digit bytes)

minus-leaves : (c : ℕ) (cs : List ℕ) → Leaves (length (c ∷ cs)) (value_at (length (c ∷ cs)) (span is_ascii_digit cs))
minus-leaves c cs =
    let few = span-rest is_ascii_digit cs in
    fewer-leaves _ _ (value_at (length (c ∷ cs)) (span is_ascii_digit cs)) (omega arith) (value-leaves (length (c ∷ cs)) (span is_ascii_digit cs))

number-places : (bytes : List ℕ) → Places (length bytes) (number bytes)
unfolding number
number-places [] = record { holds = tt }
number-places (c ∷ cs) =
    either-places (length (c ∷ cs)) (c == 45) _ _
    (next-places (length (c ∷ cs)) (value_at (length (c ∷ cs)) (span is_ascii_digit cs)) _
    (minus-leaves c cs) (value-places (length (c ∷ cs)) (span is_ascii_digit cs)) (λ n few. found-places _ _))
    (next-places (length (c ∷ cs)) (natural (c ∷ cs)) _ (natural-leaves (c ∷ cs)) (natural-places (c ∷ cs)) (λ n few. found-places _ _))

above-places : (most n : ℕ) (rest : List ℕ) → Places most (above_zero n rest)
above-places most zero rest = record { holds = tt }
above-places most (suc n) rest = record { holds = tt }

above-leaves : (n : ℕ) (rest : List ℕ) → Leaves (length rest) (above_zero n rest)
above-leaves zero rest = record { holds = tt }
above-leaves (suc n) rest = record { holds = omega arith }

positive-places : (bytes : List ℕ) → Places (length bytes) (positive bytes)
unfolding positive
positive-places bytes = next-places (length bytes) (natural bytes) _ (natural-leaves bytes) (natural-places bytes) (λ n few. above-places (length bytes) n.0 n.1)

positive-leaves : (bytes : List ℕ) → Leaves (length bytes) (positive bytes)
unfolding positive
positive-leaves bytes = next-leaves (length bytes) (length bytes) (natural bytes) _ (natural-leaves bytes) (λ n few. fewer-leaves _ _ _ few (above-leaves n.0 n.1))

-- a reading of numbers: what it leaves, and where it is at fault
record Reader {A : Type 0} (read : List ℕ → Result (A × List ℕ) Misfit) : Type 0 where
  left : (bytes : List ℕ) → Leaves (length bytes) (read bytes)
  place : (bytes : List ℕ) → Places (length bytes) (read bytes)

naturals : Reader natural
naturals = record { left = natural-leaves; place = natural-places }

positives : Reader positive
positives = record { left = positive-leaves; place = positive-places }

numbers : Reader number
numbers = record { left = number-leaves; place = number-places }

-- behind bytes that are passed over
skipped : {A : Type 0} (p : ℕ → Bool) (read : List ℕ → Result (A × List ℕ) Misfit) → Reader read → Reader (λ bytes. read (skip p bytes))
skipped p read r = record {
  left = λ bytes. fewer-leaves _ _ (read (skip p bytes)) (span-rest p bytes) (r.left (skip p bytes));
  place = λ bytes. more-places _ _ (read (skip p bytes)) (span-rest p bytes) (r.place (skip p bytes));
}

parted : {A : Type 0} (p : ℕ → Bool) (read : List ℕ → Result (A × List ℕ) Misfit) → Reader read → Reader (apart p read)
parted p read r = record {
  left = λ bytes. either-leaves (length bytes) (begins p bytes) _ _ ((skipped p read r).left bytes) (record { holds = tt });
  place = λ bytes. either-places (length bytes) (begins p bytes) _ _ ((skipped p read r).place bytes) (record { holds = tt });
}

-- a reading, and then others of what it leaves
onward : {A B : Type 0} (most : ℕ) (read : List ℕ → Result (A × List ℕ) Misfit) (bytes : List ℕ) (f : A × List ℕ → Result B Misfit)
    → Reader read → length bytes ≤ most → ((x : A × List ℕ) → length x.1 ≤ most → Places most (f x)) → Places most (read bytes >>= f)
onward most read bytes f r few more =
    next-places most (read bytes) f (fewer-leaves _ _ _ few (r.left bytes)) (more-places _ _ _ few (r.place bytes)) more

-- the forms
finished-places : (most : ℕ) (p : ℕ → Bool) (rest : List ℕ) (found : CifCommand) → Places most (finished p rest found)
finished-places most p rest found = either-places most (ends p rest) _ _ (found-places most _) (bad-places most)

box_end-places : (most long wide : ℕ) (cx cy : ℤ) (bytes : List ℕ) → length bytes ≤ most → Places most (box_end long wide cx cy bytes)
unfolding box_end
box_end-places most long wide cx cy bytes few =
    either-places most (ends is_separator bytes) _ _ (found-places most _)
    (onward most (apart is_separator number) bytes _ (parted is_separator number numbers) few (λ dx less.
    onward most (apart is_separator number) dx.1 _ (parted is_separator number numbers) less (λ dy least.
    either-places most (ends is_separator dy.1) _ _ (found-places most _) (bad-places most))))

box-places : (body : List ℕ) → Places (length body) (box_form body)
unfolding box_form
box-places body =
    onward (length body) (λ bytes. positive (skip is_separator bytes)) body _ (skipped is_separator positive positives) (omega arith) (λ long a.
    onward (length body) (apart is_separator positive) long.1 _ (parted is_separator positive positives) a (λ wide b.
    onward (length body) (apart is_separator number) wide.1 _ (parted is_separator number numbers) b (λ cx c.
    onward (length body) (apart is_separator number) cx.1 _ (parted is_separator number numbers) c (λ cy d.
    box_end-places (length body) long.0 wide.0 cx.0 cy.0 cy.1 d))))

layer-places : (body : List ℕ) → Places (length body) (layer_form body)
unfolding layer_form
layer-places body =
    let found = span is_layer_code (skip is_blank body) in
    either-places (length body) (is_layer_text found.0) _ _ (finished-places (length body) is_blank found.1 _) (bad-places (length body))

start-places : (body : List ℕ) → Places (length body) (start_form body)
unfolding start_form
start-places body =
    onward (length body) (λ bytes. natural (skip is_separator bytes)) body _ (skipped is_separator natural naturals) (omega arith) (λ n a.
    either-places (length body) (ends is_separator n.1) _ _ (found-places (length body) _)
    (onward (length body) (apart is_separator positive) n.1 _ (parted is_separator positive positives) a (λ x b.
    onward (length body) (apart is_separator positive) x.1 _ (parted is_separator positive positives) b (λ y c.
    finished-places (length body) is_separator y.1 _))))

definition_of-places : (bytes : List ℕ) → Places (length bytes) (definition_of bytes)
definition_of-places [] = record { holds = tt }
definition_of-places (c ∷ cs) =
    either-places (length (c ∷ cs)) (c == 83) _ _ (more-places _ _ (start_form cs) (omega arith) (start-places cs))
    (either-places (length (c ∷ cs)) (c == 70) _ _ (finished-places (length (c ∷ cs)) is_blank cs _) (bad-places (length (c ∷ cs))))

definition-places : (body : List ℕ) → Places (length body) (definition_form body)
unfolding definition_form
definition-places body = more-places _ _ (definition_of (skip is_blank body)) (span-rest is_blank body) (definition_of-places (skip is_blank body))

naming-places : (most : ℕ) (kind : UserKind) (text : List ℕ) → Places most (naming kind text)
naming-places most kind [] = record { holds = tt }
naming-places most kind (c ∷ cs) = record { holds = tt }

user-places : (first : ℕ) (body : List ℕ) → Places (length body) (user_form first body)
unfolding user_form
user-places first body =
    let digits = (span is_ascii_digit body).0 in
    let text = trimmed (span is_ascii_digit body).1 in
    either-places (length body) (first == 57 && bytes_eq digits []) _ _ (naming-places (length body) users.SymbolName text)
    (either-places (length body) (first == 57 && bytes_eq digits (codes "1")) _ _ (naming-places (length body) users.InstanceName text)
    (either-places (length body) (first == 57 && bytes_eq digits (codes "4")) _ _ (found-places (length body) _) (found-places (length body) _)))

point-places : (step : ℤ → ℤ → Step) (bytes : List ℕ) → Places (length bytes) (point_of step bytes)
point-places step bytes =
    onward (length bytes) (λ bytes. number (skip is_blank bytes)) bytes _ (skipped is_blank number numbers) (omega arith) (λ x a.
    onward (length bytes) (apart is_blank number) x.1 _ (parted is_blank number numbers) a (λ y b. found-places (length bytes) _))

mirror-places : (most : ℕ) (bytes : List ℕ) → Places most (mirror_of bytes)
mirror-places most [] = record { holds = tt }
mirror-places most (c ∷ cs) = either-places most (c == 88) _ _ (found-places most _) (either-places most (c == 89) _ _ (found-places most _) (bad-places most))

step-places : (c : ℕ) (bytes : List ℕ) → Places (length bytes) (step_of c bytes)
unfolding step_of
step-places c bytes =
    either-places (length bytes) (c == 84) _ _ (point-places translate bytes)
    (either-places (length bytes) (c == 77) _ _ (mirror-places (length bytes) (skip is_blank bytes))
    (either-places (length bytes) (c == 82) _ _ (point-places rotate bytes) (bad-places (length bytes))))

steps-places : (n most : ℕ) (bytes : List ℕ) → length bytes ≤ most → Places most (steps_of n bytes)
unfolding steps_of
steps-places n most [] few = record { holds = tt }
steps-places zero most (c ∷ cs) few = record { holds = tt }
steps-places (suc n) most (c ∷ cs) few =
    next-places most (step_of c cs) _ (fewer-leaves _ _ _ (omega arith) (step-leaves c cs)) (more-places _ _ _ (omega arith) (step-places c cs)) (λ step less.
    let shorter = span-rest is_blank step.1 in
    joined (steps_of n (skip is_blank step.1)) step.0 (steps-places n most (skip is_blank step.1) (omega arith)))
  where
    joined : (r : Result (List Step) Misfit) (step : Step) → Places most r → Places most (r >>= λ others. Ok (step ∷ others))
    joined (Ok others) step h = record { holds = tt }
    joined (Err e) step h = record { holds = h.holds }

call-places : (body : List ℕ) → Places (length body) (call_form body)
unfolding call_form
call-places body =
    onward (length body) (λ bytes. natural (skip is_separator bytes)) body _ (skipped is_separator natural naturals) (omega arith) (λ n few.
    let shorter = span-rest is_blank n.1 in
    whole n.0 (steps_of (length n.1) (skip is_blank n.1))
    (steps-places (length n.1) (length body) (skip is_blank n.1) (omega arith)))
  where
    whole : (n : ℕ) (r : Result (List Step) Misfit) → Places (length body) r → Places (length body) (r >>= λ steps. Ok (after_all steps at_rest >>= call_of n))
    whole n (Ok steps) h = record { holds = tt }
    whole n (Err e) h = record { holds = h.holds }

-- the points of a path
corner-places : (bytes : List ℕ) → Places (length bytes) (corner_of bytes)
corner-places bytes =
    onward (length bytes) (apart is_separator number) bytes _ (parted is_separator number numbers) (omega arith) (λ x a.
    onward (length bytes) (apart is_separator number) x.1 _ (parted is_separator number numbers) a (λ y b. found-places (length bytes) _))

corners-places : (n most : ℕ) (bytes : List ℕ) → length bytes ≤ most → Places most (corners_of n bytes)
unfolding corners_of
corners-places zero most bytes few = either-places most (ends is_separator bytes) _ _ (found-places most _) (bad-places most)
corners-places (suc n) most bytes few =
    either-places most (ends is_separator bytes) _ _ (found-places most _)
    (next-places most (corner_of bytes) _ (fewer-leaves _ _ _ few (corner-leaves bytes)) (more-places _ _ _ few (corner-places bytes)) (λ first less.
    joined (corners_of n first.1) first.0 (corners-places n most first.1 less)))
  where
    joined : (r : Result (List Corner) Misfit) (first : Corner) → Places most r → Places most (r >>= λ others. Ok (first ∷ others))
    joined (Ok others) first h = record { holds = tt }
    joined (Err e) first h = record { holds = h.holds }

wire-places : (body : List ℕ) → Places (length body) (wire_form body)
unfolding wire_form
wire-places body =
    onward (length body) (λ bytes. positive (skip is_separator bytes)) body _ (skipped is_separator positive positives) (omega arith) (λ width few.
    whole width.0 (corners_of (length width.1) width.1) (corners-places (length width.1) (length body) width.1 few))
  where
    kind : (width : ℕ) (path : List Corner) → Places (length body) (wire_of width path)
    kind width [] = record { holds = tt }
    kind width (c ∷ cs) = record { holds = tt }

    whole : (width : ℕ) (r : Result (List Corner) Misfit) → Places (length body) r → Places (length body) (r >>= wire_of width)
    whole width (Ok path) h = kind width path
    whole width (Err e) h = record { holds = h.holds }

first-places : (bytes : List ℕ) → Places (length bytes) (first_corner_of bytes)
first-places bytes =
    onward (length bytes) (λ bytes. number (skip is_separator bytes)) bytes _ (skipped is_separator number numbers) (omega arith) (λ x a.
    onward (length bytes) (apart is_separator number) x.1 _ (parted is_separator number numbers) a (λ y b. found-places (length bytes) _))

polygon-places : (body : List ℕ) → Places (length body) (polygon_form body)
unfolding polygon_form
polygon-places body =
    next-places (length body) (first_corner_of body) _ (first-leaves body) (first-places body) (λ first few.
    whole first.0 (corners_of (length first.1) first.1) (corners-places (length first.1) (length body) first.1 few))
  where
    kind : (path : List Corner) → Places (length body) (polygon_of path)
    kind [] = record { holds = tt }
    kind (a ∷ []) = record { holds = tt }
    kind (a ∷ b ∷ []) = record { holds = tt }
    kind (a ∷ b ∷ c ∷ cs) = record { holds = tt }

    whole : (first : Corner) (r : Result (List Corner) Misfit) → Places (length body) r → Places (length body) (r >>= λ others. polygon_of (first ∷ others))
    whole first (Ok others) h = kind (first ∷ others)
    whole first (Err e) h = record { holds = h.holds }

-- a command's form
pub form-places : (c : ℕ) (body : List ℕ) → Places (length body) (form_of c body)
form-places c body =
    either-places (length body) (is_ascii_digit c) _ _ (user-places c body)
    (either-places (length body) (c == 66) _ _ (box-places body)
    (either-places (length body) (c == 76) _ _ (layer-places body)
    (either-places (length body) (c == 68) _ _ (definition-places body)
    (either-places (length body) (c == 67) _ _ (call-places body)
    (either-places (length body) (c == 87) _ _ (wire-places body)
    (either-places (length body) (c == 80) _ _ (polygon-places body) (bad-places (length body))))))))

-- a program's form
pub has-place : (left behind most : ℕ) (form : Result (Result CifCommand CifKind) Misfit) → most + 1 + behind ≤ left → Places most form
    → HasPlaceWithin left behind form
has-place left behind most (Ok found) le h = tt
has-place left behind most (Err (TooGreat before)) le h = let few : before ≤ most = h.holds in omega arith
has-place left behind most (Err Malformed) le h = tt
