use Rattle.cif_text.specs.declared.command.CifCommand.TheVariants as commands
use Rattle.cif_text.specs.declared.command.UserKind.TheVariants as users
use Rattle.std.proofs.Common.{◌≡◌, refl, ℕ, zero, suc, ◌≤◌, List, [], ◌∷◌, ◌++◌, length, Bool, true, false, ℤ, pos, negsuc, arith, decimal}
use Rattle.std.proofs.lemmas.Bool.Decides.{nat_tests}
use Rattle.std.proofs.lemmas.Int.{ints}
use Rattle.std.specs.Char.{is_ascii_digit}
use Rattle.std.specs.Fmt.{signed_decimal}
use Rattle.std.specs.List.{AllByRecursion, list_all}
use Rattle.geom_core.specs.LayerText.{is_layer_code}
use Rattle.geom_core.specs.Reach.{IsInReach}
use Rattle.std.specs.Prelude.{codes, nat_le, ◌&&◌}
use Rattle.cif_text.specs.declared.command.CifCommand.{CifCommand}
use Rattle.cif_text.specs.Numbers.{greatest}
use Rattle.cif_text.specs.Printing.{blanked, bytes_of, upright_parts, flip_parts, quarter_parts}
use Rattle.cif_text.specs.Printable.{IsCifNumber, IsSize}
use Rattle.cif_text.proofs.PrintableTexts.{is_plain_byte, IsPrintable}
use Rattle.cif_text.proofs.NumberLemmas.{decimal-all, decimal-digits}
use Rattle.std.proofs.lemmas.Bool.{and_parts}
use Rattle.std_laws.proofs.Searches.{list_all-weaker, list_all-joined}

-- the bytes of a printed line before its semicolon are of ASCII and no semicolon
abbrev pub Plain : List ℕ → Type 0
Plain bytes = list_all is_plain_byte bytes ≡ true

plain-digit : (c : ℕ) → is_ascii_digit c ≡ true → is_plain_byte c ≡ true
plain-digit c digit = grind (arith, nat_tests)

plain-layer : (c : ℕ) → is_layer_code c ≡ true → is_plain_byte c ≡ true
plain-layer c code = grind (arith, nat_tests)

pub plain-joined : (xs ys : List ℕ) → Plain xs → Plain ys → Plain (xs ++ ys)
plain-joined xs ys first second = list_all-joined is_plain_byte xs ys first second

plain-decimal : (n : ℕ) → n ≤ greatest → Plain (decimal n)
plain-decimal n small = list_all-weaker is_ascii_digit is_plain_byte plain-digit (decimal n) (decimal-all n small)

plain-signed : (z : ℤ) → IsCifNumber z → Plain (signed_decimal z)
plain-signed (pos n) near = plain-decimal n (omega (arith, ints))
plain-signed (negsuc n) near = plain-decimal (suc n) (omega (arith, ints))

-- a number within reach, which may be greater than those that can be read
pub plain-reach : (z : ℤ) → IsInReach z → Plain (signed_decimal z)
plain-reach (pos n) near = list_all-weaker is_ascii_digit is_plain_byte plain-digit (decimal n) (decimal-digits n (omega (arith, ints)))
plain-reach (negsuc n) near = list_all-weaker is_ascii_digit is_plain_byte plain-digit (decimal (suc n)) (decimal-digits (suc n) (omega (arith, ints)))

size-near : (z : ℤ) → IsSize z → IsCifNumber z
size-near z size = record { low = omega (arith, ints); high = size.high }

-- parts that are plain, each behind a blank
pub plain-blanked : (parts : List (List ℕ)) → AllByRecursion Plain parts → Plain (blanked parts)
plain-blanked [] h = refl
plain-blanked (part ∷ parts) h = plain-joined part (blanked parts) h.0 (plain-blanked parts h.1)

plain-upright : (upright : Bool) → AllByRecursion Plain (upright_parts upright)
plain-upright true = (refl, (refl, tt))
plain-upright false = tt

plain-flip : (flip : Bool) (parts : List (List ℕ)) → AllByRecursion Plain parts → AllByRecursion Plain (flip_parts flip parts)
plain-flip true parts h = (refl, (refl, h))
plain-flip false parts h = h

plain-quarter : (quarters : ℕ) (parts : List (List ℕ)) → AllByRecursion Plain parts → AllByRecursion Plain (quarter_parts quarters parts)
plain-quarter zero parts h = h
plain-quarter (suc zero) parts h = (refl, (refl, (refl, h)))
plain-quarter (suc (suc zero)) parts h = (refl, (refl, (refl, h)))
plain-quarter (suc (suc (suc k))) parts h = (refl, (refl, (refl, h)))

pub bytes-plain : (c : CifCommand) → IsPrintable c → list_all is_plain_byte (bytes_of c).1 ≡ true
bytes-plain (commands.Box long wide cx cy upright) h =
    plain-blanked (signed_decimal long ∷ signed_decimal wide ∷ signed_decimal cx ∷ signed_decimal cy ∷ upright_parts upright)
    (plain-signed long (size-near long h.0), (plain-signed wide (size-near wide h.1), (plain-signed cx h.2, (plain-signed cy h.3, plain-upright upright))))
bytes-plain (commands.Layer text) h =
    let every : list_all is_layer_code text ≡ true = (and_parts (nat_le 1 (length text) && nat_le (length text) 4) (list_all is_layer_code text) h).1 in
    plain-blanked (text ∷ []) (list_all-weaker is_layer_code is_plain_byte plain-layer text every, tt)
bytes-plain (commands.Start n a b) h =
    plain-blanked (decimal n ∷ decimal a ∷ decimal b ∷ []) (plain-decimal n h.0.high, (plain-decimal a h.1.high, (plain-decimal b h.2.high, tt)))
bytes-plain commands.Finish h = refl
bytes-plain (commands.Call n flip quarters dx dy) h =
    let offset : List (List ℕ) = codes "T" ∷ signed_decimal dx ∷ signed_decimal dy ∷ [] in
    plain-blanked (decimal n ∷ flip_parts flip (quarter_parts quarters offset)) (
      plain-decimal n h.0.high,
      plain-flip flip (quarter_parts quarters offset)
          (plain-quarter quarters offset (refl, (plain-signed dx h.2, (plain-signed dy h.3, tt)))),
    )
bytes-plain (commands.Wire width path) h = absurd h
bytes-plain (commands.Polygon path) h = absurd h
bytes-plain commands.Comment h = refl
bytes-plain (commands.User users.SymbolName text) h = plain-blanked (text ∷ []) (h.plain, tt)
bytes-plain (commands.User users.InstanceName text) h = plain-blanked (text ∷ []) (h.plain, tt)
bytes-plain (commands.User users.Label text) h = plain-blanked (text ∷ []) (h.plain, tt)
bytes-plain (commands.User users.Other text) h = absurd h
bytes-plain commands.End h = refl
