use Rattle.std.proofs.Common.{◌≡◌, refl, sym, subst, ℕ, suc, ◌+◌, ◌≤◌, List, [], ◌∷◌, length, Bool, true, false, Option, Ok, arith}
use Rattle.std.specs.List.{AllByRecursion}
use Rattle.std.specs.Prelude.{if◌then◌else◌}
use Rattle.geom_core.specs.declared.layout.Layout.{Layout}
use Rattle.cif_text.specs.CifReads.{is_open_behind}
use Rattle.cif_text.specs.declared.command.CifCommand.{CifCommand}
use Rattle.cif_text.specs.Meaning.{layout_of}
use Rattle.cif_text.specs.Sound.{IsSound, AreSound}
use Rattle.cif_text.specs.Symbols.{Main}
use Rattle.cif_text.proofs.BodyLaws.{given}
use Rattle.cif_reader.specs.Expanders.{at_scale}
use Rattle.cif_reader.specs.Expansion.{Progress, advance, at_first, refused_at}
use Rattle.cif_reader.specs.Limits.{deepest}
use Rattle.cif_reader.specs.Within.{IsLayoutWithin}
use Rattle.cif_reader.proofs.WithinLaws.{MainWithin, still-within, advance-within, refused-ok, sound-each}
use Rattle.label_reader.specs.declared.definitions.DefinitionPlace.{DefinitionPlace}
use Rattle.label_reader.specs.declared.labels.PlacedName.{PlacedName}
use Rattle.label_reader.specs.Defining.{in_order, stays}
use Rattle.label_reader.specs.Definitions.{definitions}
use Rattle.label_reader.specs.Labelled.{labelled, labels, top_command, top_scale, top_taken}
use Rattle.label_reader.specs.Naming.{named}
use Rattle.label_reader.specs.Tops.{is_at_top, top}
use Rattle.label_reader.proofs.KeepLaws.{passes-keep}

-- the shapes and the cells alone count
same-within : (most : ℕ) (m n : Main) → MainWithin most m → n.level.shapes ≡ m.level.shapes → n.cells ≡ m.cells → MainWithin most n
same-within most m n h shapes cells = record { few = rw shapes h.few; shapes = rw shapes h.shapes; cells = rw (shapes, cells) h.cells; few_cells = rw cells h.few_cells }

named-within : (most : ℕ) (outline : List ℕ) (found : List PlacedName) (p : Progress) (c : CifCommand) → MainWithin most p.state.main
    → MainWithin most (named outline found p c).state.main
named-within most outline [] p c h = h
named-within most outline (label ∷ others) p c h = same-within most p.state.main (named outline (label ∷ others) p c).state.main h refl refl

command-within : (most : ℕ) (outline : List ℕ) (found : List PlacedName) (i : ℕ) (p q : Progress) (c : CifCommand) → MainWithin most p.state.main → IsSound c
    → top_command outline found i p c ≡ Ok q → MainWithin (suc most) q.state.main
command-within most outline found i p q c h sound is = by (stays c) is
  where
    by : (b : Bool) → (if b then refused_at i (advance (named outline found p c) c) else Ok p) ≡ Ok q → MainWithin (suc most) q.state.main
    by true is = advance-within most (named outline found p c) q c (named-within most outline found p c h) sound (refused-ok i (advance (named outline found p c) c) q is)
    by false is = let same : p ≡ q = cc is in subst (λ (r : Progress). MainWithin (suc most) r.state.main) same (still-within most p.state.main p.state.main h refl refl)

top-within : (cs : List CifCommand) (at : Option DefinitionPlace) (outline : List ℕ) (found : List PlacedName) (i most : ℕ) (inside : Bool) (p q : Progress)
    → MainWithin most p.state.main → AllByRecursion IsSound cs → top_taken at outline found i inside p cs ≡ Ok q → MainWithin (length cs + most) q.state.main
top-within [] at outline found i most inside p q h sound is =
    let same : p ≡ q = cc is in
    let count : most ≡ 0 + most = omega arith in
    subst (λ (n : ℕ). MainWithin n q.state.main) count (subst (λ (x : Progress). MainWithin most x.state.main) same h)
top-within (c ∷ cs) at outline found i most inside p q h sound is =
    let first = given (if is_at_top at i inside then top_command outline found i p c else Ok p) (λ r. top_taken at outline found (i + 1) (is_open_behind inside c) r cs) q is in
    let one = by (is_at_top at i inside) first.0 first.1 in
    let all = top-within cs at outline found (i + 1) (suc most) (is_open_behind inside c) first.0 q one sound.1 first.2 in
    let count : length cs + suc most ≡ length (c ∷ cs) + most = omega arith in
    subst (λ (n : ℕ). MainWithin n q.state.main) count all
  where
    by : (b : Bool) (r : Progress) → (if b then top_command outline found i p c else Ok p) ≡ Ok r → MainWithin (suc most) r.state.main
    by true r is = command-within most outline found i p r c h sound.0 is
    by false r is = let same : p ≡ r = cc is in subst (λ (x : Progress). MainWithin (suc most) x.state.main) same (still-within most p.state.main p.state.main h refl refl)

-- what is drawn at the top, at any scale and with any labels, is within the limits of the reader, and has no more cells than there are commands
pub run-within : (cs : List CifCommand) (at : Option DefinitionPlace) (a b : ℕ) (outline : List ℕ) (found : List PlacedName) (p q : Progress) (l : Layout) → AreSound false cs
    → in_order cs at_first ≡ Ok p → top_taken at outline found 0 false (at_scale a b p) cs ≡ Ok q → l ≡ layout_of q.state.main → IsLayoutWithin (length cs) l
unfolding in_order
run-within cs at a b outline found p q l sound defines draws is =
    let start : MainWithin 0 at_first.state.main = record { few = omega arith; shapes = tt; cells = tt; few_cells = omega arith } in
    let keeps = passes-keep deepest cs (definitions cs) at_first p defines in
    let before : MainWithin 0 p.state.main = same-within 0 at_first.state.main p.state.main start keeps.shapes keeps.cells in
    let scaled : MainWithin 0 (at_scale a b p).state.main = same-within 0 p.state.main (at_scale a b p).state.main before refl refl in
    let all = top-within cs at outline found 0 0 false (at_scale a b p) q scaled (sound-each false cs sound) draws in
    let few : length q.state.main.cells ≤ length cs + 0 = all.few_cells in
    subst (IsLayoutWithin (length cs)) (sym is) (record { few = all.few; shapes = all.shapes; cells = all.cells; few_cells = omega arith })

-- and so is a layout that sound commands give by their labels
pub labelled-within : (outline : List ℕ) (cs : List CifCommand) (l : Layout) → AreSound false cs → labelled outline cs ≡ Ok l → IsLayoutWithin (length cs) l
unfolding labelled
labelled-within outline cs l sound is =
    let first = given (in_order cs at_first) _ l is in
    let scale : ℕ × ℕ = top_scale cs (top cs) in
    let found : List PlacedName = labels (top cs) scale outline cs in
    let whole = given (top_taken (top cs) outline found 0 false (at_scale scale.0 scale.1 first.0) cs) _ l first.2 in
    let same : l ≡ layout_of whole.0.state.main = cc whole.2 in
    run-within cs (top cs) scale.0 scale.1 outline found first.0 whole.0 l sound first.1 whole.1 same
