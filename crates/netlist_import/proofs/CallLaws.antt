use Rattle.std.proofs.Common.{◌≡◌, ℕ, zero, suc, ◌+◌, Bool, true, false, cond, not, ◌||◌, List, [], ◌∷◌, ◌++◌, length, find, refl, sym, ap, subst, ◌∙◌, Option, None, Some, is_some, Result, Ok, Err, codes, arith}
use Rattle.std.proofs.lemmas.List.Folds.{list_any-append}
use Rattle.std.specs.List.{AllByRecursion, enumerate_from, slice_get}
use Rattle.std.specs.Str.{bytes_eq}
use Rattle.std_laws.proofs.Bytes.{bytes_one, bytes_same}
use Rattle.std_laws.proofs.Every.{every-get}
use Rattle.std_laws.proofs.Tests.{or-first-false, or-second-false}
use Rattle.list_facts.proofs.Mentioned.{get-place}
use Rattle.list_facts.specs.Names.{place_among}
use Rattle.read_base.specs.Steps.{◌>>=◌}
use Rattle.blif_reader.specs.declared.file.BlifFile.{BlifFile}
use Rattle.blif_reader.specs.declared.file.BlifWord.{BlifWord}
use Rattle.blif_reader.specs.declared.file.Gate.{Gate}
use Rattle.blif_reader.specs.declared.file.Pin.{Pin}
use Rattle.yal_reader.specs.Lists.{is_among}
use Rattle.yal_reader.specs.Words.{spells}
use Rattle.yal_reader.specs.declared.file.Call.{Call}
use Rattle.yal_reader.specs.declared.file.Line.{Line}
use Rattle.yal_reader.specs.declared.file.Module.{Module}
use Rattle.yal_reader.specs.declared.file.YalFile.{YalFile}
use Rattle.netlist_import.proofs.EachLaws.{each-at, each-length, enumerate-at}
use Rattle.netlist_import.proofs.NetLaws.{signals-one}
use Rattle.netlist_import.specs.Calls.{call_of, calls_of, fitting_pins, found_cell, is_power_word, name_of, net_word, pin_at, terminal_word, words_of}
use Rattle.netlist_import.specs.Carries.{Carries, IsCall, IsPin, IsTerminal, input, output, terminals_in, word_for}
use Rattle.netlist_import.specs.Cells.{cell_named, power_word, terminal_names}
use Rattle.netlist_import.specs.Constants.{undriven_of}
use Rattle.netlist_import.specs.Nets.{Rename, renamed, renames_of, signal}
use Rattle.netlist_import.specs.Parent.{all_terminals, fitting_terminal, fitting_terminals, free_model, is_parent_module, no_parent, parent_in, parent_of, parent_with, tested}
use Rattle.netlist_import.specs.declared.fault.ImportFlaw.{ImportFlaw}

-- a step that gave something
pub bind-ok : {A B : Type 0} (r : Result A ImportFlaw) (f : A → Result B ImportFlaw) (z : B) → (r >>= f) ≡ Ok z → (x : A) × (r ≡ Ok x) × (f x ≡ Ok z)
bind-ok (Ok x) f z is = (x, refl, is)
bind-ok (Err e) f z is = let never : ⊥ = cc in absurd never

-- a test that let something through
pub passed : {A : Type 0} (b : Bool) (e : ImportFlaw) (r : Result A ImportFlaw) (z : A) → cond b (Err e) r ≡ Ok z → (b ≡ false) × (r ≡ Ok z)
passed true e r z is = let never : ⊥ = cc in absurd never
passed false e r z is = (refl, is)

-- equal answers give equal values
pub same-ok : {A : Type 0} (x y : A) → ◌≡◌ {A = Result A ImportFlaw} (Ok x) (Ok y) → x ≡ y
same-ok x y e = cc

-- the word of a net that was let through
pub net-is : (undriven : List (List ℕ)) (word net : List ℕ) (at : ℕ) (w : List ℕ) → net_word undriven word net at ≡ Ok w → net ≡ w
unfolding net_word
net-is undriven word net at w is =
    let one = passed (is_power_word net) _ _ w is in
    let two = passed (is_among undriven net) _ _ w one.1 in
    same-ok net w two.1

-- a pin that fits: its terminal is one of the module's, no power terminal, and the pin is found there
pub record FitsAt (terminals : List (List ℕ)) (lines : List Line) (pins : List Pin) (p : Pin) : Type 0 where
  pub among : is_among terminals p.terminal ≡ true
  pub signal : power_word lines p.terminal ≡ None
  pub found : pin_at pins p.terminal ≡ Some p

-- a test that is false one way round
not-true : (b : Bool) → not b ≡ false → b ≡ true
not-true true h = refl
not-true false h = cc

is-none : {A : Type 0} (o : Option A) → is_some o ≡ false → o ≡ None
is-none None h = refl
is-none (Some x) h = cc

-- each of the pins fits, and none of their terminals was seen before
fits-each : (terminals : List (List ℕ)) (lines : List Line) (seen : List (List ℕ)) (pins : List Pin) (k : ℕ) (p : Pin) → fitting_pins terminals lines seen pins ≡ Ok tt
    → slice_get pins k ≡ Some p → FitsAt terminals lines pins p × (is_among seen p.terminal ≡ false)
unfolding fitting_pins
fits-each terminals lines seen [] k p is at = let never : ⊥ = cc in absurd never
fits-each terminals lines seen (q ∷ qs) zero p is at =
    let same : q ≡ p = there at in
    let one = passed (not (is_among terminals q.terminal)) _ _ tt is in
    let two = passed (is_some (power_word lines q.terminal)) _ _ tt one.1 in
    let three = passed (is_among seen q.terminal) _ _ tt two.1 in
    let here : FitsAt terminals lines (q ∷ qs) q × (is_among seen q.terminal ≡ false) =
    (record { among = not-true (is_among terminals q.terminal) one.0; signal = is-none (power_word lines q.terminal) two.0; found = rw (bytes_same q.terminal) refl }, three.0) in
    subst (λ (r : Pin). FitsAt terminals lines (q ∷ qs) r × (is_among seen r.terminal ≡ false)) same here
  where
    there : Some q ≡ Some p → q ≡ p
    there h = cc
fits-each terminals lines seen (q ∷ qs) (suc k) p is at =
    let one = passed (not (is_among terminals q.terminal)) _ _ tt is in
    let two = passed (is_some (power_word lines q.terminal)) _ _ tt one.1 in
    let three = passed (is_among seen q.terminal) _ _ tt two.1 in
    let rest = fits-each terminals lines (seen ++ q.terminal ∷ []) qs k p three.1 at in
    let free : (is_among seen p.terminal || (bytes_eq p.terminal q.terminal || false)) ≡ false = sym (list_any-append (bytes_eq p.terminal) seen (q.terminal ∷ [])) ∙ rest.1 in
    let other : bytes_eq p.terminal q.terminal ≡ false = or-first-false (bytes_eq p.terminal q.terminal) false (or-second-false (is_among seen p.terminal) (bytes_eq p.terminal q.terminal || false) free) in
    (record { among = rest.0.among; signal = rest.0.signal; found = rw other rest.0.found }, or-first-false (is_among seen p.terminal) (bytes_eq p.terminal q.terminal || false) free)

-- the word at a pin that fits
pin-word : (rs : List Rename) (undriven : List (List ℕ)) (lines : List Line) (g : Gate) (p : Pin) (w : List ℕ) → FitsAt (terminal_names lines) lines g.pins p
    → terminal_word rs undriven lines g p.terminal ≡ Ok w → renamed rs p.net ≡ w
unfolding terminal_word
pin-word rs undriven lines g p w fits is = net-is undriven p.net (renamed rs p.net) p.at w (rw (fits.signal, fits.found) at is)

-- the words of a gate have the word of the net of each of its pins, at the place of the terminal
pub words-have : (rs : List Rename) (undriven : List (List ℕ)) (lines : List Line) (g : Gate) (ws : List (List ℕ)) (k : ℕ) (p : Pin) → words_of rs undriven lines g ≡ Ok ws
    → slice_get g.pins k ≡ Some p → slice_get ws (place_among (terminal_names lines) p.terminal) ≡ Some (renamed rs p.net)
unfolding words_of
words-have rs undriven lines g ws k p is at =
    let one = bind-ok (fitting_pins (terminal_names lines) lines [] g.pins) _ ws is in
    let fits = (fits-each (terminal_names lines) lines [] g.pins k p one.1 at).0 in
    let found = each-at (terminal_word rs undriven lines g) (terminal_names lines) ws (place_among (terminal_names lines) p.terminal) p.terminal one.2 (get-place (terminal_names lines) p.terminal fits.among) in
    found.1 ∙ ap (λ (w : List ℕ). Some w) (sym (pin-word rs undriven lines g p found.0 fits found.2))

-- a call that a gate became
pub record Became (modules : List Module) (rs : List Rename) (n : ℕ) (g : Gate) (c : Call) : Type 0 where
  pub is : IsCall n g c
  pub words : (k : ℕ) (p : Pin) → slice_get g.pins k ≡ Some p → word_for modules c p.terminal ≡ Some (renamed rs p.net)

cell-is : (g : Gate) (o : Option Module) (m : Module) → found_cell g o ≡ Ok m → o ≡ Some m
cell-is g None m is = let never : ⊥ = cc in absurd never
cell-is g (Some x) m is = ap (λ (y : Module). Some y) (same-ok x m is)

pub became : (modules : List Module) (rs : List Rename) (undriven : List (List ℕ)) (n : ℕ) (g : Gate) (c : Call) → call_of modules rs undriven (n, g) ≡ Ok c → Became modules rs n g c
unfolding call_of
became modules rs undriven n g c is =
    let one = bind-ok (found_cell g (cell_named modules g.«module»)) _ c is in
    let two = bind-ok (words_of rs undriven one.0.lines g) _ c one.2 in
    let call : Call = record { name = name_of n g; «module» = g.«module»; signals = two.0 } in
    let same : call ≡ c = same-ok call c two.2 in
    let cell = cell-is g (cell_named modules g.«module») one.0 one.1 in
    subst (Became modules rs n g) same
    (record {
      is = record { name = refl; «module» = refl };
      words = λ k p at.
          ap (λ (o : Option Module). slice_get two.0 (place_among (terminals_in o) p.terminal)) cell ∙ words-have rs undriven one.0.lines g two.0 k p two.1 at;
    })

-- the call of a number
pub call-at : (modules : List Module) (rs : List Rename) (undriven : List (List ℕ)) (gates : List Gate) (calls : List Call) (n : ℕ) (g : Gate) (c : Call)
    → calls_of modules rs undriven gates ≡ Ok calls → slice_get gates n ≡ Some g → slice_get calls n ≡ Some c → Became modules rs n g c
call-at modules rs undriven gates calls n g c is gate call =
    let zero_plus : 0 + n ≡ n = omega arith in
    let numbered = enumerate-at 0 gates n g gate ∙ ap (λ (k : ℕ). Some (k, g)) zero_plus in
    let found = each-at (call_of modules rs undriven) (enumerate_from 0 gates) calls n (n, g) is numbered in
    let same : found.0 ≡ c = there found.0 c (sym found.1 ∙ call) in
    became modules rs undriven n g c (found.2 ∙ ap (λ (x : Call). Ok x) same)
  where
    there : (x y : Call) → Some x ≡ Some y → x ≡ y
    there x y h = cc

-- as many numbers as items
enumerate-length : {A : Type 0} (n : ℕ) (xs : List A) → length (enumerate_from n xs) ≡ length xs
enumerate-length n [] = refl
enumerate-length n (x ∷ xs) = ap (λ (k : ℕ). suc k) (enumerate-length (n + 1) xs)

-- each terminal of the model goes by its own word
own-word : (rs : List Rename) (undriven seen : List (List ℕ)) (t : BlifWord) (w : List ℕ) → fitting_terminal rs undriven seen t ≡ Ok w → renamed rs t.text ≡ t.text
unfolding fitting_terminal
own-word rs undriven seen t w is =
    let one = passed (spells (codes "ENDIOLIST") t.text) _ _ w is in
    let two = passed (is_among seen t.text) _ _ w one.1 in
    let three = passed (not (bytes_eq (renamed rs t.text) t.text)) _ _ w two.1 in
    bytes_one (renamed rs t.text) t.text (not-true (bytes_eq (renamed rs t.text) t.text) three.0)

own-words : (rs : List Rename) (undriven seen : List (List ℕ)) (ts : List BlifWord) (all : List (List ℕ)) → fitting_terminals rs undriven seen ts ≡ Ok all
    → AllByRecursion (λ (t : BlifWord). renamed rs t.text ≡ t.text) ts
unfolding fitting_terminals
own-words rs undriven seen [] all is = tt
own-words rs undriven seen (t ∷ ts) all is =
    let one = bind-ok (fitting_terminal rs undriven seen t) _ all is in
    (own-word rs undriven seen t one.0 one.1, own-words rs undriven (seen ++ one.0 ∷ []) ts all one.2)

-- what the tests before the calls let through
pub record Tested (b : BlifFile) (rs : List Rename) : Type 0 where
  pub inputs : AllByRecursion (λ (t : BlifWord). renamed rs t.text ≡ t.text) b.inputs
  pub outputs : AllByRecursion (λ (t : BlifWord). renamed rs t.text ≡ t.text) b.outputs

terminals-tested : (rs : List Rename) (undriven : List (List ℕ)) (b : BlifFile) (all : List (List ℕ)) → all_terminals rs undriven b ≡ Ok all → Tested b rs
unfolding all_terminals
terminals-tested rs undriven b all is =
    let one = bind-ok (fitting_terminals rs undriven [] b.inputs) _ all is in
    record { inputs = own-words rs undriven [] b.inputs one.0 one.1; outputs = own-words rs undriven one.0 b.outputs all one.2 }

pub all-tested : (rs : List Rename) (undriven : List (List ℕ)) (b : BlifFile) (modules : List Module) → tested rs undriven b modules ≡ Ok tt → Tested b rs
unfolding tested
all-tested rs undriven b modules is =
    let one = bind-ok (no_parent b.model.at (find is_parent_module modules)) _ tt is in
    let two = bind-ok (free_model modules b.model) _ tt one.2 in
    let three = bind-ok (all_terminals rs undriven b) _ tt two.2 in
    terminals-tested rs undriven b three.0 three.1

-- a terminal goes by its own word
terminal-own : (b : BlifFile) (rs : List Rename) (t : BlifWord) → Tested b rs → IsTerminal b t → renamed rs t.text ≡ t.text
terminal-own b rs t h (input n at) = every-get (λ (x : BlifWord). renamed rs x.text ≡ x.text) b.inputs n t h.inputs at
terminal-own b rs t h (output n at) = every-get (λ (x : BlifWord). renamed rs x.text ≡ x.text) b.outputs n t h.outputs at

-- words that some agree
some-same : (v w : List ℕ) → Some v ≡ Some w → v ≡ w
some-same v w h = cc

-- a PARENT that was made carries its netlist
carries : (b : BlifFile) (modules : List Module) (calls : List Call) (undriven : List (List ℕ)) → Tested b (renames_of b) → calls_of modules (renames_of b) undriven b.gates ≡ Ok calls
    → Carries b modules (parent_with b calls)
carries b modules calls undriven h is = record {
  count = each-length (call_of modules (renames_of b) undriven) (enumerate_from 0 b.gates) calls is ∙ enumerate-length 0 b.gates;
  calls = λ n g c gate call. (call-at modules (renames_of b) undriven b.gates calls n g c is gate call).is;
  words = λ n c p pin. (signal b p.net, has n c p pin);
  nets = λ i j c d p q one other. (
    λ same. (signals-one b p.net q.net).0 (some-same (signal b p.net) (signal b q.net) (sym (has i c p one) ∙ same ∙ has j d q other)),
    λ joined. has i c p one ∙ ap (λ (w : List ℕ). Some w) ((signals-one b p.net q.net).1 joined) ∙ sym (has j d q other),
  );
  terminals = λ n c p t pin terminal. (
    λ same. (signals-one b p.net t.text).0 (some-same (signal b p.net) t.text (sym (has n c p pin) ∙ same) ∙ sym (terminal-own b (renames_of b) t h terminal)),
    λ joined. has n c p pin ∙ ap (λ (w : List ℕ). Some w) ((signals-one b p.net t.text).1 joined ∙ terminal-own b (renames_of b) t h terminal),
  );
}
  where
    has : (n : ℕ) (c : Call) (p : Pin) → IsPin b (parent_with b calls) n c p → word_for modules c p.terminal ≡ Some (signal b p.net)
    has n c p pin = (call-at modules (renames_of b) undriven b.gates calls n pin.gate c is pin.there pin.call).words pin.place p pin.stands

pub parent-carries : (b : BlifFile) (cells : YalFile) (m : Module) → parent_of b cells ≡ Ok m → Carries b cells.modules m
unfolding parent_of parent_in
parent-carries b cells m is =
    let one = bind-ok (tested (renames_of b) (undriven_of b cells.modules) b cells.modules) _ m is in
    let two = bind-ok (calls_of cells.modules (renames_of b) (undriven_of b cells.modules) b.gates) _ m one.2 in
    subst (Carries b cells.modules) (same-ok (parent_with b two.0) m two.2)
    (carries b cells.modules two.0 (undriven_of b cells.modules) (all-tested (renames_of b) (undriven_of b cells.modules) b cells.modules one.1) two.1)
