use Rattle.std.proofs.Common.{◌≡◌, refl, ap, sym, ◌∙◌, append_assoc, ℕ, zero, suc, ◌+◌, ◌≤◌, List, [], ◌∷◌, ◌++◌, length, Bool, true, false, not, arith}
use Rattle.std.proofs.lemmas.Bool.Decides.{nat_tests}
use Rattle.std.specs.List.{list_all}
use Rattle.std.specs.Prelude.{Option, Some, slice_get, ◌&&◌, ◌==◌, nat_le}
use Rattle.cif_text.specs.declared.command.CifCommand.{CifCommand}
use Rattle.cif_text.specs.Bytes.{is_white, begins, without_tail}
use Rattle.cif_text.specs.Printing.{line, text_of}
use Rattle.cif_text.proofs.PrintableTexts.{is_plain_byte, IsNameText}
use Rattle.cif_text.specs.Symbols.{symbol_of}
use Rattle.cif_text.specs.Written.{WrittenSymbol, MainItem, alone, copy, label, label_commands, shape_commands, copy_commands, items_commands, layer_after}
use Rattle.cif_text.proofs.WrittenLayout.{symbol_at, symbols_from}
use Rattle.cif_text.proofs.SpanLemmas.{skip-stop}
use Rattle.std.proofs.lemmas.Bool.{and_parts}
use Rattle.std_laws.proofs.Searches.{list_all-weaker}

-- the text of commands in two parts
pub text_of-append : (xs ys : List CifCommand) → text_of (xs ++ ys) ≡ text_of xs ++ text_of ys
text_of-append [] ys = refl
text_of-append (c ∷ xs) ys = ap (λ (text : List ℕ). line c ++ text) (text_of-append xs ys) ∙ sym (append_assoc (line c) (text_of xs) (text_of ys))

-- a byte that shows, and is no semicolon
abbrev pub is_shown : ℕ → Bool
is_shown c = nat_le 33 c && nat_le c 126 && not (c == 59)

shown-plain : (c : ℕ) → is_shown c ≡ true → is_plain_byte c ≡ true
shown-plain c shown = grind (arith, nat_tests)

pub shown-bare : (c : ℕ) → is_shown c ≡ true → is_white c ≡ false
shown-bare c shown = grind (arith, nat_tests)

shown-begins : (text : List ℕ) → list_all is_shown text ≡ true → begins is_white text ≡ false
shown-begins [] shown = refl
shown-begins (c ∷ cs) shown = shown-bare c (and_parts (is_shown c) (list_all is_shown cs) shown).0

pub shown-ends : (text : List ℕ) → list_all is_shown text ≡ true → without_tail text ≡ text
shown-ends [] shown = refl
shown-ends (c ∷ cs) shown =
    let parts : (is_shown c ≡ true) × (list_all is_shown cs ≡ true) = and_parts (is_shown c) (list_all is_shown cs) shown in
    rw (shown-bare c parts.0) (ap (λ (rest : List ℕ). c ∷ rest) (shown-ends cs parts.1))

-- a word of bytes that show can be a name
pub name-shown : (text : List ℕ) → 1 ≤ length text → list_all is_shown text ≡ true → IsNameText text
name-shown text some shown = record {
  some = some;
  plain = list_all-weaker is_shown is_plain_byte shown-plain text shown;
  bare = ap without_tail (skip-stop is_white text (shown-begins text shown)) ∙ shown-ends text shown;
}

-- the symbol of a number is the one that was written with it
symbol_of-from : (first k m : ℕ) (ds : List WrittenSymbol) (d : WrittenSymbol) → m ≡ first + k → slice_get ds k ≡ Some d
    → symbol_of m (symbols_from first ds) ≡ Some (symbol_at m d)
symbol_of-from first zero m [] d at there = cc
symbol_of-from first (suc k) m [] d at there = cc
symbol_of-from first zero m (e ∷ ds) d at there =
    let test : (first == m) ≡ true = grind (arith, nat_tests) in
    let same : first ≡ m = omega arith in
    let drawn : e ≡ d = cc in
    rw (test, same, drawn) refl
symbol_of-from first (suc k) m (e ∷ ds) d at there =
    let test : (first == m) ≡ false = grind (arith, nat_tests) in
    rw test (symbol_of-from (suc first) k m ds d (omega arith) there)

pub symbol_of-written : (k : ℕ) (ds : List WrittenSymbol) (d : WrittenSymbol) → slice_get ds k ≡ Some d → symbol_of (suc k) (symbols_from 1 ds) ≡ Some (symbol_at (suc k) d)
symbol_of-written k ds d there = symbol_of-from 1 k (suc k) ds d (omega arith) there

-- the main level in two parts
pub items-append : (layer : Option (List ℕ)) (xs ys : List MainItem)
    → items_commands layer (xs ++ ys) ≡ items_commands layer xs ++ items_commands (layer_after layer xs) ys
items-append layer [] ys = refl
items-append layer (alone s ∷ xs) ys =
    ap (λ (cs : List CifCommand). shape_commands layer s ++ cs) (items-append (Some s.layer) xs ys)
    ∙ sym (append_assoc (shape_commands layer s) (items_commands (Some s.layer) xs) (items_commands (layer_after (Some s.layer) xs) ys))
items-append layer (copy name n place ∷ xs) ys =
    ap (λ (cs : List CifCommand). copy_commands name n place ++ cs) (items-append layer xs ys)
    ∙ sym (append_assoc (copy_commands name n place) (items_commands layer xs) (items_commands (layer_after layer xs) ys))
items-append layer (label name s ∷ xs) ys =
    ap (λ (cs : List CifCommand). label_commands layer name s ++ cs) (items-append (Some s.layer) xs ys)
    ∙ sym (append_assoc (label_commands layer name s) (items_commands (Some s.layer) xs) (items_commands (layer_after (Some s.layer) xs) ys))
