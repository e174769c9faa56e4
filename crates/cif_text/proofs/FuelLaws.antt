use Rattle.std.proofs.Common.{◌≡◌, refl, ap, sym, subst, ℕ, zero, suc, ◌<◌, ◌≤◌, ℤ, List, [], ◌∷◌, length, Bool, true, false, cond, IfOk, IfSome, Result, Ok, Err, Option, Some, None, arith}
use Rattle.std.specs.Char.{is_ascii_digit}
use Rattle.std.specs.Prelude.{◌&&◌, ◌==◌, if◌then◌else◌}
use Rattle.cif_text.specs.declared.fault.CifKind.TheVariants as kinds
use Rattle.cif_text.specs.Bytes.{is_between, is_blank, is_separator, not_semicolon, span, skip, begins, ends}
use Rattle.read_base.specs.Digits.{number_within}
use Rattle.read_base.specs.Steps.{◌>>=◌}
use Rattle.cif_text.specs.declared.misfit.Misfit.{Misfit}
use Rattle.cif_text.specs.declared.misfit.Misfit.TheVariants.{TooGreat, Malformed}
use Rattle.cif_text.specs.Numbers.{greatest, unless_great, value_at, natural, number, apart}
use Rattle.cif_text.specs.Forms.{Form}
use Rattle.geom_core.specs.declared.corner.Corner.{Corner}
use Rattle.cif_text.specs.Paths.{corner_of, corners_of, first_corner_of}
use Rattle.cif_text.specs.Calls.{Step, translate, mirror_x, mirror_y, rotate, point_of, mirror_of, step_of, steps_of}
use Rattle.cif_text.specs.Commands.{fails, open_behind, after_comment, is_left_out, form_of, may_stand, reading_of, cut_of, comment_end, comment_of, command_at}
use Rattle.cif_text.specs.CifReads.{is_end, is_open_behind, commands_at}
use Rattle.cif_text.specs.Answers.{commands_of}

-- what is left behind a reading is at most so many bytes
pub record Leaves {A E : Type 0} (most : ℕ) (r : Result (A × List ℕ) E) : Type 0 where
  pub holds : IfOk r (λ x. length x.1 ≤ most)

-- one reading behind another
pub next-leaves : {A B E : Type 0} (n m : ℕ) (r : Result (A × List ℕ) E) (f : A × List ℕ → Result (B × List ℕ) E)
    → Leaves n r → ((x : A × List ℕ) → length x.1 ≤ n → Leaves m (f x)) → Leaves m (r >>= f)
next-leaves n m (Ok x) f first onward = onward x first.holds
next-leaves n m (Err e) f first onward = record { holds = tt }

pub either-leaves : {A E : Type 0} (n : ℕ) (b : Bool) (r s : Result (A × List ℕ) E) → Leaves n r → Leaves n s → Leaves n (cond b r s)
either-leaves n true r s first second = first
either-leaves n false r s first second = second

pub fewer-leaves : {A E : Type 0} (n m : ℕ) (r : Result (A × List ℕ) E) → n ≤ m → Leaves n r → Leaves m r
fewer-leaves n m (Ok x) le h = let few : length x.1 ≤ n = h.holds in record { holds = omega arith }
fewer-leaves n m (Err e) le h = record { holds = tt }

-- bytes that are passed over
pub span-rest : (p : ℕ → Bool) (bytes : List ℕ) → length (span p bytes).1 ≤ length bytes
span-rest p [] = omega arith
span-rest p (c ∷ cs) = by (p c) (span-rest p cs)
  where
    by : (b : Bool) → length (span p cs).1 ≤ length cs
        → length (if◌then◌else◌ {A = List ℕ × List ℕ} b (c ∷ (span p cs).0, (span p cs).1) ([], c ∷ cs)).1 ≤ length (c ∷ cs)
    by true h = omega arith
    by false h = omega arith

-- numbers
pub value-leaves : (place : ℕ) (found : List ℕ × List ℕ) → Leaves (length found.1) (value_at place found)
value-leaves place ([], rest) = record { holds = tt }
value-leaves place (d ∷ ds, rest) = by (number_within greatest (d ∷ ds))
  where
    by : (n : Option ℕ) → Leaves (length rest) (unless_great place rest n)
    by (Some n) = record { holds = omega arith }
    by None = record { holds = tt }

pub natural-leaves : (bytes : List ℕ) → Leaves (length bytes) (natural bytes)
unfolding natural
natural-leaves bytes =
    fewer-leaves _ _ (value_at (length bytes) (span is_ascii_digit bytes)) (span-rest is_ascii_digit bytes) (value-leaves (length bytes) (span is_ascii_digit bytes))

pub number-leaves : (bytes : List ℕ) → Leaves (length bytes) (number bytes)
unfolding number
number-leaves [] = record { holds = tt }
number-leaves (c ∷ cs) =
    either-leaves (length (c ∷ cs)) (c == 45) _ _
    (next-leaves (length cs) (length (c ∷ cs)) (value_at (length (c ∷ cs)) (span is_ascii_digit cs)) _
    (fewer-leaves _ _ _ (span-rest is_ascii_digit cs) (value-leaves (length (c ∷ cs)) (span is_ascii_digit cs)))
    (λ n few. record { holds = omega arith }))
    (next-leaves (length (c ∷ cs)) (length (c ∷ cs)) (natural (c ∷ cs)) _ (natural-leaves (c ∷ cs)) (λ n few. record { holds = few }))

skipped-number-leaves : (p : ℕ → Bool) (bytes : List ℕ) → Leaves (length bytes) (number (skip p bytes))
skipped-number-leaves p bytes = fewer-leaves _ _ (number (skip p bytes)) (span-rest p bytes) (number-leaves (skip p bytes))

apart-leaves : (p : ℕ → Bool) (bytes : List ℕ) → Leaves (length bytes) (apart p number bytes)
apart-leaves p bytes = either-leaves (length bytes) (begins p bytes) _ _ (skipped-number-leaves p bytes) (record { holds = tt })

-- the steps of a call
point-leaves : (step : ℤ → ℤ → Step) (bytes : List ℕ) → Leaves (length bytes) (point_of step bytes)
point-leaves step bytes =
    next-leaves (length bytes) (length bytes) (number (skip is_blank bytes)) _ (skipped-number-leaves is_blank bytes) (λ x few.
    next-leaves (length bytes) (length bytes) (apart is_blank number x.1) _ (fewer-leaves _ _ _ few (apart-leaves is_blank x.1)) (λ y less.
    record { holds = less }))

mirror-leaves : (bytes : List ℕ) → Leaves (length bytes) (mirror_of bytes)
mirror-leaves [] = record { holds = tt }
mirror-leaves (c ∷ cs) =
    either-leaves (length (c ∷ cs)) (c == 88) (Ok (mirror_x, cs)) _ (record { holds = omega arith })
    (either-leaves (length (c ∷ cs)) (c == 89) (Ok (mirror_y, cs)) (Err Malformed) (record { holds = omega arith }) (record { holds = tt }))

pub step-leaves : (c : ℕ) (bytes : List ℕ) → Leaves (length bytes) (step_of c bytes)
unfolding step_of
step-leaves c bytes =
    either-leaves (length bytes) (c == 84) _ _ (point-leaves translate bytes)
    (either-leaves (length bytes) (c == 77) _ _ (fewer-leaves _ _ (mirror_of (skip is_blank bytes)) (span-rest is_blank bytes) (mirror-leaves (skip is_blank bytes)))
    (either-leaves (length bytes) (c == 82) _ _ (point-leaves rotate bytes) (record { holds = tt })))

-- the rest is the same for both
bind-same : {A B E : Type 0} (n : ℕ) (r : Result (A × List ℕ) E) (f g : A × List ℕ → Result B E) → Leaves n r
    → ((x : A × List ℕ) → length x.1 ≤ n → f x ≡ g x) → (r >>= f) ≡ (r >>= g)
bind-same n (Ok x) f g few same = same x few.holds
bind-same n (Err e) f g few same = refl

-- a call's steps are the same for every count that is enough
pub steps-enough : (n m : ℕ) (bytes : List ℕ) → length bytes ≤ n → length bytes ≤ m → steps_of n bytes ≡ steps_of m bytes
unfolding steps_of
steps-enough n m [] enough_n enough_m = refl
steps-enough zero m (c ∷ cs) enough_n enough_m = absurd (omega arith)
steps-enough (suc n) zero (c ∷ cs) enough_n enough_m = absurd (omega arith)
steps-enough (suc n) (suc m) (c ∷ cs) enough_n enough_m =
    bind-same (length cs) (step_of c cs) _ _ (step-leaves c cs) (λ step few.
    let less : length (skip is_blank step.1) ≤ length step.1 = span-rest is_blank step.1 in
    ap (λ (r : Result (List Step) Misfit). r >>= λ others. Ok (step.0 ∷ others))
    (steps-enough n m (skip is_blank step.1) (omega arith) (omega arith)))

-- the points of a path
pub corner-leaves : (bytes : List ℕ) → Leaves (length bytes) (corner_of bytes)
corner-leaves bytes =
    next-leaves (length bytes) (length bytes) (apart is_separator number bytes) _ (apart-leaves is_separator bytes) (λ x few.
    next-leaves (length bytes) (length bytes) (apart is_separator number x.1) _ (fewer-leaves _ _ _ few (apart-leaves is_separator x.1)) (λ y less.
    record { holds = less }))

pub first-leaves : (bytes : List ℕ) → Leaves (length bytes) (first_corner_of bytes)
first-leaves bytes =
    next-leaves (length bytes) (length bytes) (number (skip is_separator bytes)) _ (skipped-number-leaves is_separator bytes) (λ x few.
    next-leaves (length bytes) (length bytes) (apart is_separator number x.1) _ (fewer-leaves _ _ _ few (apart-leaves is_separator x.1)) (λ y less.
    record { holds = less }))

-- a number behind a separator leaves fewer bytes than there are
apart-fewer : (p : ℕ → Bool) (c : ℕ) (cs : List ℕ) → Leaves (length cs) (apart p number (c ∷ cs))
apart-fewer p c cs = by (p c) refl
  where
    more : p c ≡ true → skip p (c ∷ cs) ≡ skip p cs
    more is = rw (is, skip) refl

    by : (b : Bool) → p c ≡ b → Leaves (length cs) (if b then number (skip p (c ∷ cs)) else Err Malformed)
    by true is = subst (λ (bytes : List ℕ). Leaves (length cs) (number bytes)) (sym (more is)) (skipped-number-leaves p cs)
    by false is = record { holds = tt }

pub corner-fewer : (c : ℕ) (cs : List ℕ) → Leaves (length cs) (corner_of (c ∷ cs))
corner-fewer c cs =
    next-leaves (length cs) (length cs) (apart is_separator number (c ∷ cs)) _ (apart-fewer is_separator c cs) (λ x few.
    next-leaves (length cs) (length cs) (apart is_separator number x.1) _ (fewer-leaves _ _ _ few (apart-leaves is_separator x.1)) (λ y less.
    record { holds = less }))

-- the points are the same for every count that is enough
pub corners-enough : (n m : ℕ) (bytes : List ℕ) → length bytes ≤ n → length bytes ≤ m → corners_of n bytes ≡ corners_of m bytes
unfolding corners_of
corners-enough zero zero bytes enough_n enough_m = refl
corners-enough (suc n) zero [] enough_n enough_m = refl
corners-enough (suc n) zero (c ∷ cs) enough_n enough_m = absurd (omega arith)
corners-enough zero (suc m) [] enough_n enough_m = refl
corners-enough zero (suc m) (c ∷ cs) enough_n enough_m = absurd (omega arith)
corners-enough (suc n) (suc m) [] enough_n enough_m = refl
corners-enough (suc n) (suc m) (c ∷ cs) enough_n enough_m =
    ap (λ (r : Result (List Corner) Misfit). if ends is_separator (c ∷ cs) then Ok [] else r)
    (bind-same (length cs) (corner_of (c ∷ cs)) _ _ (corner-fewer c cs) (λ first few.
    ap (λ (r : Result (List Corner) Misfit). r >>= λ others. Ok (first.0 ∷ others)) (corners-enough n m first.1 (omega arith) (omega arith))))

-- a comment
comment-rest : (inner : ℕ) (bytes : List ℕ) → IfSome (after_comment inner bytes) (λ rest. length rest < length bytes)
unfolding after_comment
comment-rest inner [] = tt
comment-rest inner (c ∷ cs) = by (c == 41 && inner == 0) (after_comment (open_behind c inner) cs) (comment-rest (open_behind c inner) cs)
  where
    by : (b : Bool) (more : Option (List ℕ)) → IfSome more (λ rest. length rest < length cs)
        → IfSome (if b then Some cs else more) (λ rest. length rest < length (c ∷ cs))
    by true more h = omega arith
    by false None h = tt
    by false (Some rest) h = omega arith

comment_end-leaves : (left : ℕ) (body rest : List ℕ) → Leaves (length rest) (comment_end left body rest)
comment_end-leaves left body [] = record { holds = tt }
comment_end-leaves left body (semicolon ∷ rest) =
    either-leaves (suc (length rest)) (ends is_blank body) (Ok (_, rest)) (fails kinds.BadCommand left) (record { holds = omega arith }) (record { holds = tt })

comment-leaves : (left most : ℕ) (found : Option (List ℕ)) → IfSome found (λ rest. length rest ≤ most) → Leaves most (comment_of left found)
comment-leaves left most None h = record { holds = tt }
comment-leaves left most (Some bytes) h =
    let few : length bytes ≤ most = h in
    fewer-leaves _ _ (comment_end left (span not_semicolon bytes).0 (span not_semicolon bytes).1)
    (let less = span-rest not_semicolon bytes in omega arith) (comment_end-leaves left (span not_semicolon bytes).0 (span not_semicolon bytes).1)

-- a command leaves fewer bytes than there are
reading-leaves : (inside : Bool) (left : ℕ) (rest : List ℕ) (form : Form) → Leaves (length rest) (reading_of inside left rest form)
reading-leaves inside left rest (Ok (Ok command)) =
    either-leaves (length rest) (may_stand inside command) (Ok (command, rest)) (fails kinds.BadCommand left) (record { holds = omega arith }) (record { holds = tt })
reading-leaves inside left rest (Ok (Err kind)) = record { holds = tt }
reading-leaves inside left rest (Err (TooGreat before)) = record { holds = tt }
reading-leaves inside left rest (Err Malformed) = record { holds = tt }

cut-leaves : (inside : Bool) (left c : ℕ) (body rest : List ℕ) → Leaves (length rest) (cut_of inside left c body rest)
cut-leaves inside left c body [] = record { holds = tt }
cut-leaves inside left c body (semicolon ∷ rest) =
    either-leaves (suc (length rest)) (is_left_out c body) (fails (kinds.LeftOut c) left) _ (record { holds = tt })
    (fewer-leaves _ _ (reading_of inside left rest (form_of c body)) (omega arith) (reading-leaves inside left rest (form_of c body)))

weaker-some : (found : Option (List ℕ)) (n : ℕ) → IfSome found (λ rest. length rest < n) → IfSome found (λ rest. length rest ≤ n)
weaker-some None n h = tt
weaker-some (Some rest) n h = let less : length rest < n = h in omega arith

pub command-leaves : (inside : Bool) (c : ℕ) (cs : List ℕ) → Leaves (length cs) (command_at inside (c ∷ cs))
command-leaves inside c cs =
    either-leaves (length cs) (c == 40) _ _ (comment-leaves _ (length cs) (after_comment 0 cs) (weaker-some (after_comment 0 cs) (length cs) (comment-rest 0 cs)))
    (either-leaves (length cs) (c == 69) _ _ (either-leaves (length cs) inside (fails kinds.NoEnd (length (c ∷ cs))) (Ok (_, [])) (record { holds = tt }) (record { holds = omega arith }))
    (fewer-leaves _ _ _ (span-rest not_semicolon cs) (cut-leaves inside (length (c ∷ cs)) c (span not_semicolon cs).0 (span not_semicolon cs).1)))

-- the commands of a text are the same for every count that is enough
pub commands-enough : (n m : ℕ) (inside : Bool) (bytes : List ℕ) → length bytes < n → length bytes < m → commands_at n inside bytes ≡ commands_at m inside bytes
unfolding commands_at
commands-enough zero m inside bytes enough_n enough_m = absurd (omega arith)
commands-enough (suc n) zero inside bytes enough_n enough_m = absurd (omega arith)
commands-enough (suc n) (suc m) inside bytes enough_n enough_m =
    let few : length (skip is_between bytes) ≤ length bytes = span-rest is_between bytes in
    by (skip is_between bytes) (omega arith) (omega arith) (λ inside rest below. commands-enough n m inside rest (omega arith) (omega arith))
  where
    by : (rest : List ℕ) → length rest ≤ n → length rest ≤ m
        → ((inside : Bool) (left : List ℕ) → length left < length rest → commands_at n inside left ≡ commands_at m inside left)
        → (command_at inside rest >>= λ first. if is_end first.0 then Ok (first.0 ∷ []) else (commands_at n (is_open_behind inside first.0) first.1 >>= λ others. Ok (first.0 ∷ others)))
        ≡ (command_at inside rest >>= λ first. if is_end first.0 then Ok (first.0 ∷ []) else (commands_at m (is_open_behind inside first.0) first.1 >>= λ others. Ok (first.0 ∷ others)))
    by [] some_n some_m more = refl
    by (c ∷ cs) some_n some_m more =
        bind-same (length cs) (command_at inside (c ∷ cs)) _ _ (command-leaves inside c cs) (λ first left.
        let others = more (is_open_behind inside first.0) first.1 (omega arith) in rw others refl)

-- a text reads as its first command, and then as the text behind it reads
pub commands-in-order : (inside : Bool) (bytes : List ℕ)
    → commands_of inside bytes
    ≡ (command_at inside (skip is_between bytes) >>= λ first.
    if is_end first.0 then Ok (first.0 ∷ []) else (commands_of (is_open_behind inside first.0) first.1 >>= λ others. Ok (first.0 ∷ others)))
unfolding commands_at
commands-in-order inside bytes = by (skip is_between bytes) (span-rest is_between bytes)
  where
    by : (rest : List ℕ) → length rest ≤ length bytes
        → (command_at inside rest >>= λ first. if is_end first.0 then Ok (first.0 ∷ []) else (commands_at (length bytes) (is_open_behind inside first.0) first.1 >>= λ others. Ok (first.0 ∷ others)))
        ≡ (command_at inside rest >>= λ first. if is_end first.0 then Ok (first.0 ∷ []) else (commands_of (is_open_behind inside first.0) first.1 >>= λ others. Ok (first.0 ∷ others)))
    by [] few = refl
    by (c ∷ cs) few =
        bind-same (length cs) (command_at inside (c ∷ cs)) _ _ (command-leaves inside c cs) (λ first left.
        let others = commands-enough (length bytes) (suc (length first.1)) (is_open_behind inside first.0) first.1 (omega arith) (omega arith) in rw others refl)
