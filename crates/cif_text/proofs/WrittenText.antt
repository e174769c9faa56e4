use Rattle.cif_text.specs.declared.command.CifCommand.TheVariants as commands
use Rattle.cif_text.specs.declared.command.UserKind.TheVariants as users
use Rattle.std.proofs.Common.{◌≡◌, refl, ap, sym, subst, ◌∙◌, append_assoc, ℕ, suc, ◌+◌, ◌*◌, ◌/◌, ◌≤◌, List, [], ◌∷◌, ◌++◌, length, Bool, true, false, ℤ, pos, negsuc, arith}
use Rattle.std.proofs.lemmas.Int.{ints}
use Rattle.std.specs.List.{AllByRecursion}
use Rattle.std.specs.Str.{bytes_eq}
use Rattle.std.specs.Prelude.{Ok, Option, Some, None, int_div, ◌+ℤ◌, ◌-ℤ◌, neg_ℤ, IfSome, if◌then◌else◌}
use Rattle.geom_core.specs.declared.layout.Shape.{Shape}
use Rattle.geom_core.specs.declared.turn.Place.{Place}
use Rattle.geom_core.specs.Extent.{Extent}
use Rattle.geom_core.specs.LayerText.{is_layer_text}
use Rattle.cif_text.specs.declared.command.CifCommand.{CifCommand}
use Rattle.cif_text.specs.Numbers.{greatest}
use Rattle.cif_text.specs.Printing.{text_of}
use Rattle.cif_text.specs.Printable.{IsNatural, IsPart}
use Rattle.cif_text.proofs.PrintableTexts.{IsText, IsNameText}
use Rattle.cif_text.specs.CifReads.{cif_reads}
use Rattle.cif_text.specs.Scales.{doubled, around}
use Rattle.cif_text.specs.Symbols.{Symbol}
use Rattle.cif_text.specs.Written.{WrittenSymbol, MainItem, alone, copy, label, label_command, label_commands, box_of, call_to, change, name_commands, shape_commands, shapes_commands, symbol_commands, symbols_commands, copy_commands, items_commands, layout_commands}
use Rattle.cif_text.proofs.WrittenLayout.{IsBox, IsShape, IsWhole, IsDrawn, IsItem, IsWritable, symbols_from}
use Rattle.cif_text.proofs.LabelLemmas.{label-named}
use Rattle.cif_text.proofs.ReadBack.{reads-text}
use Rattle.std_laws.proofs.Integers.{quarter-of}

-- half of twice a number, and a quarter of four times one
pub half-doubled : (z : ℤ) → int_div (doubled z) (pos 2) ≡ z
half-doubled (pos n) = ap pos (omega arith)
half-doubled (negsuc n) =
    let whole : doubled (negsuc n) ≡ negsuc (2 * n + 1) = omega (arith, ints) in
    let count : suc (2 * n + 1) / 2 ≡ suc n = omega arith in
    rw whole (ap (λ (k : ℕ). neg_ℤ (pos k)) count)

half-of : (a z : ℤ) → a ≡ doubled z → int_div a (pos 2) ≡ z
half-of a z twice = ap (λ (x : ℤ). int_div x (pos 2)) twice ∙ half-doubled z

pub box-around : (long wide cx cy : ℤ) → box_of (around long wide cx cy) ≡ commands.Box long wide cx cy false
box-around long wide cx cy =
    let first = half-of ((doubled cx +ℤ long) -ℤ (doubled cx -ℤ long)) long (omega (arith, ints)) in
    let second = half-of ((doubled cy +ℤ wide) -ℤ (doubled cy -ℤ wide)) wide (omega (arith, ints)) in
    let third = quarter-of ((doubled cx -ℤ long) +ℤ (doubled cx +ℤ long)) cx (omega (arith, ints)) in
    let fourth = quarter-of ((doubled cy -ℤ wide) +ℤ (doubled cy +ℤ wide)) cy (omega (arith, ints)) in
    cc

-- the box and the call that are written
pub box-drawn : (e : Extent) (box : IsBox e) → box_of e ≡ commands.Box box.long box.wide box.cx box.cy false
box-drawn e box = ap box_of (sym box.drawn) ∙ box-around box.long box.wide box.cx box.cy

pub call-whole : (n : ℕ) (place : Place) (whole : IsWhole place) → call_to n place ≡ commands.Call n place.mirror 0 whole.across whole.up
call-whole n place whole =
    let across = half-of place.dx whole.across (sym whole.across_is) in
    let up = half-of place.dy whole.up (sym whole.up_is) in
    cc

-- commands that may stand before a text, and leave a definition open or none
abbrev Before : Bool → List CifCommand → Bool → Type 0
Before inside cs behind = (rest : List CifCommand) → IsText behind rest → IsText inside (cs ++ rest)

before-both : (a b c : Bool) (xs ys : List CifCommand) → Before a xs b → Before b ys c → Before a (xs ++ ys) c
before-both a b c xs ys first second = λ (rest : List CifCommand) (h : IsText c rest). rw append_assoc (first (ys ++ rest) (second rest h))

-- the commands of the written forms
box-before : (inside : Bool) (e : Extent) → IsBox e → Before inside (box_of e ∷ []) inside
box-before inside e box = λ (rest : List CifCommand) (h : IsText inside rest).
    subst (λ (c : CifCommand). IsText inside (c ∷ rest)) (sym (box-drawn e box)) ((box.long_size, box.wide_size, box.cx_near, box.cy_near), h)

change-before : (inside : Bool) (old : Option (List ℕ)) (layer : List ℕ) → is_layer_text layer ≡ true → Before inside (change old layer) inside
change-before inside None layer valid = λ (rest : List CifCommand) (h : IsText inside rest). (valid, h)
change-before inside (Some old) layer valid = λ (rest : List CifCommand) (h : IsText inside rest).
    changed (bytes_eq old layer) rest h
  where
    changed : (b : Bool) (rest : List CifCommand) → IsText inside rest → IsText inside ((if b then [] else commands.Layer layer ∷ []) ++ rest)
    changed true rest h = h
    changed false rest h = (valid, h)

shape-before : (inside : Bool) (layer : Option (List ℕ)) (s : Shape) → IsShape s → Before inside (shape_commands layer s) inside
shape-before inside layer s h =
    before-both inside inside inside (change layer s.layer) (box_of s.rect ∷ []) (change-before inside layer s.layer h.layer) (box-before inside s.rect h.box)

shapes-before : (inside : Bool) (layer : Option (List ℕ)) (ss : List Shape) → AllByRecursion IsShape ss → Before inside (shapes_commands layer ss) inside
shapes-before inside layer [] h = λ (rest : List CifCommand) (text : IsText inside rest). text
shapes-before inside layer (s ∷ ss) h =
    before-both inside inside inside (shape_commands layer s) (shapes_commands (Some s.layer) ss) (shape-before inside layer s h.0) (shapes-before inside (Some s.layer) ss h.1)

symbol-name-before : (inside : Bool) (name : Option (List ℕ)) → IfSome name IsNameText → Before inside (name_commands users.SymbolName name) inside
symbol-name-before inside None h = λ (rest : List CifCommand) (text : IsText inside rest). text
symbol-name-before inside (Some name) h = λ (rest : List CifCommand) (text : IsText inside rest). (h, text)

copy-name-before : (inside : Bool) (name : Option (List ℕ)) → IfSome name IsNameText → Before inside (name_commands users.InstanceName name) inside
copy-name-before inside None h = λ (rest : List CifCommand) (text : IsText inside rest). text
copy-name-before inside (Some name) h = λ (rest : List CifCommand) (text : IsText inside rest). (h, text)

symbol-before : (n : ℕ) (d : WrittenSymbol) → n ≤ greatest → IsDrawn d → Before false (symbol_commands n d) false
symbol-before n d small h = λ (rest : List CifCommand) (text : IsText false rest).
    let one : IsPart 1 = record { low = omega arith; high = omega arith } in
    let inner : IsText true ((name_commands users.SymbolName d.name ++ (shapes_commands None d.shapes ++ (commands.Finish ∷ []))) ++ rest) =
    before-both true true false (name_commands users.SymbolName d.name) (shapes_commands None d.shapes ++ (commands.Finish ∷ []))
    (symbol-name-before true d.name h.name)
    (before-both true true false (shapes_commands None d.shapes) (commands.Finish ∷ [])
    (shapes-before true None d.shapes h.shapes)
    (λ (others : List CifCommand) (more : IsText false others). (refl, more)))
    rest text in
    (refl, (record { high = small }, one, one), inner)

symbols-before : (n : ℕ) (ds : List WrittenSymbol) → n + length ds ≤ suc greatest → AllByRecursion IsDrawn ds → Before false (symbols_commands n ds) false
symbols-before n [] few h = λ (rest : List CifCommand) (text : IsText false rest). text
symbols-before n (d ∷ ds) few h =
    before-both false false false (symbol_commands n d) (symbols_commands (suc n) ds)
    (symbol-before n d (omega arith) h.0) (symbols-before (suc n) ds (omega arith) h.1)

call-before : (n : ℕ) (place : Place) → IsNatural n → IsWhole place → Before false (call_to n place ∷ []) false
call-before n place near whole = λ (rest : List CifCommand) (text : IsText false rest).
    subst (λ (c : CifCommand). IsText false (c ∷ rest)) (sym (call-whole n place whole)) ((near, omega arith, whole.across_near, whole.up_near), text)

items-before : (symbols : List Symbol) (layer : Option (List ℕ)) (is : List MainItem) → AllByRecursion (IsItem symbols) is
    → Before false (items_commands layer is) false
items-before symbols layer [] h = λ (rest : List CifCommand) (text : IsText false rest). text
items-before symbols layer (alone s ∷ is) h =
    before-both false false false (shape_commands layer s) (items_commands (Some s.layer) is) (shape-before false layer s h.0) (items-before symbols (Some s.layer) is h.1)
items-before symbols layer (copy name n place ∷ is) h =
    before-both false false false (copy_commands name n place) (items_commands layer is)
    (before-both false false false (name_commands users.InstanceName name) (call_to n place ∷ []) (copy-name-before false name h.0.named) (call-before n place h.0.number h.0.whole))
    (items-before symbols layer is h.1)
items-before symbols layer (label name s ∷ is) h =
    before-both false false false (label_commands layer name s) (items_commands (Some s.layer) is)
    (before-both false false false (change layer s.layer) (label_command name s ∷ []) (change-before false layer s.layer h.0.layer)
    (λ (rest : List CifCommand) (text : IsText false rest). (label-named name s h.0, text)))
    (items-before symbols (Some s.layer) is h.1)

-- the commands of a written layout are a text
pub written-text : (ds : List WrittenSymbol) (is : List MainItem) → IsWritable ds is → IsText false (layout_commands ds is)
written-text ds is h = (
  tt,
  symbols-before 1 ds (omega arith) h.symbols (items_commands None is ++ (commands.End ∷ []))
      (items-before (symbols_from 1 ds) None is h.items (commands.End ∷ []) (refl, refl)),
)

-- what is written reads as the commands that were written
pub written-reads : (ds : List WrittenSymbol) (is : List MainItem) → IsWritable ds is → cif_reads (text_of (layout_commands ds is)) ≡ Ok (layout_commands ds is)
written-reads ds is h = reads-text (layout_commands ds is) (written-text ds is h)
