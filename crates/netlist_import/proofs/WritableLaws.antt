use Rattle.std.proofs.Common.{◌≡◌, ℕ, ◌+◌, ◌^◌, ◌<◌, Bool, true, false, cond, not, ◌&&◌, ◌||◌, List, [], ◌∷◌, ◌++◌, find, length, map, append_assoc, append-nil, refl, sym, ap, ap₂, subst, ◌∙◌, Option, None, Some, IfSome, Result, Ok, codes, arith, nat_le, ◌==◌}
use Rattle.std.proofs.lemmas.Bool.{and_from, and_parts}
use Rattle.std.proofs.lemmas.Bool.Decides.{nat_tests}
use borrow.Author.Tests.{le-leb}
use Rattle.std.specs.Char.{is_ascii_digit}
use Rattle.std.specs.Fmt.{decimal}
use Rattle.std.proofs.lemmas.Fmt.{decimal_is_IsNumeral}
use Rattle.std.proofs.lemmas.Str.Parse.{digit_from_value}
use Rattle.std.specs.Str.Parse.{AllDigits}
use Rattle.std.specs.List.{AllByRecursion, IsDistinct, enumerate_from, list_all, list_any}
use Rattle.std.specs.Str.{bytes_eq}
use Rattle.std_laws.proofs.Distinct.{distinct-none, distinct-push}
use Rattle.std_laws.proofs.Searches.{list_all-weaker}
use Rattle.geom_core.specs.Names.{is_name_byte}
use Rattle.std_laws.proofs.Every.{every-append, every-push}
use Rattle.blif_reader.specs.Kept as kept
use Rattle.blif_reader.specs.declared.file.BlifFile.{BlifFile}
use Rattle.blif_reader.specs.declared.file.BlifWord.{BlifWord}
use Rattle.blif_reader.specs.declared.file.Gate.{Gate}
use Rattle.blif_reader.specs.declared.file.Join.{Join}
use Rattle.blif_reader.specs.declared.file.Pin.{Pin}
use Rattle.yal_reader.specs.Kept.{call_names, module_names}
use Rattle.yal_reader.specs.Lists.{is_among}
use Rattle.yal_reader.specs.Words.{spells}
use Rattle.yal_reader.specs.declared.file.Call.{Call}
use Rattle.yal_reader.specs.declared.file.Flow.{Flow}
use Rattle.yal_reader.specs.declared.file.Flow.TheVariants as flows
use Rattle.yal_reader.specs.declared.file.Line.{Line}
use Rattle.yal_reader.specs.declared.file.Module.{Module}
use Rattle.yal_reader.specs.declared.file.YalFile.{YalFile}
use Rattle.yal_writer.specs.Writable.{IsWord, IsWritable, IsWritableCall, IsWritableLine, has_comment}
use Rattle.netlist_import.proofs.CallLaws.{bind-ok, net-is, passed, same-ok}
use Rattle.netlist_import.specs.Calls.{call_of, calls_of, fitting_pins, found_cell, name_in, name_of, pin_at, pin_word, terminal_word, word_at, words_of}
use Rattle.netlist_import.specs.Cells.{cell_named, ground_word, is_ground_line, is_supply_line, power_word, supply_word, terminal_names}
use Rattle.netlist_import.specs.Constants.{undriven_of}
use Rattle.netlist_import.specs.Faults.{each}
use Rattle.netlist_import.specs.Nets.{Rename, rename_of, renamed, renamed_by, renames_behind, renames_of, is_terminal}
use Rattle.netlist_import.specs.Parent.{all_terminals, fitting_name, fitting_names, fitting_terminal, fitting_terminals, free_model, instance_of, instances_of, is_parent_module, line_of, lines_of, no_parent, parent_in, parent_of, parent_with, tested}
use Rattle.netlist_import.specs.declared.fault.ImportFlaw.{ImportFlaw}

-- the words of a netlist that was read are words of YAL
same-comment : (text : List ℕ) → kept.has_comment text ≡ has_comment text
same-comment [] = refl
same-comment (c ∷ []) = refl
same-comment (c ∷ d ∷ cs) = ap (λ (b : Bool). (c == 47 && d == 42) || b) (same-comment (d ∷ cs))

yal-word : (text : List ℕ) → kept.IsYalWord text → IsWord text
yal-word text h = record { name = h.name; plain = sym (same-comment text) ∙ h.plain }

-- what each item gives has P
each-keeps : {A B : Type 0} (Q : A → Type 0) (P : B → Type 0) (f : A → Result B ImportFlaw) (xs : List A) (ys : List B) → ((x : A) → Q x → (y : B) → f x ≡ Ok y → P y)
    → AllByRecursion Q xs → each f xs ≡ Ok ys → AllByRecursion P ys
unfolding each
each-keeps Q P f [] ys onward all is = subst (AllByRecursion P) (same-ok [] ys is) tt
each-keeps Q P f (x ∷ xs) ys onward all is =
    let one = bind-ok (f x) _ ys is in
    let two = bind-ok (each f xs) _ ys one.2 in
    subst (AllByRecursion P) (same-ok (one.0 ∷ two.0) ys two.2) (onward x all.0 one.0 one.1, each-keeps Q P f xs two.0 onward all.1 two.1)

-- renamings to words of YAL
abbrev AreWords : List Rename → Type 0
AreWords rs = AllByRecursion (λ (r : Rename). IsWord r.to) rs

renamed-word : (rs : List Rename) (w : List ℕ) → AreWords rs → IsWord w → IsWord (renamed rs w)
unfolding renamed
renamed-word [] w all is = is
renamed-word (r ∷ rs) w all is = renamed-word rs (renamed_by r w) all.1 (by (bytes_eq w r.from))
  where
    by : (b : Bool) → IsWord (cond b r.to w)
    by true = all.0
    by false = is

rename-word : (n : BlifFile) (a b : List ℕ) → IsWord a → IsWord b → IsWord (rename_of n a b).to
rename-word n a b first second = by (is_terminal n b && not (is_terminal n a))
  where
    by : (t : Bool) → IsWord (cond t (record { from = a; to = b }) (let r : Rename = record { from = b; to = a } in r)).to
    by true = second
    by false = first

renames-words : (n : BlifFile) (rs : List Rename) (js : List Join) → AreWords rs → AllByRecursion kept.IsKeptJoin js → AreWords (renames_behind n rs js)
unfolding renames_behind
renames-words n rs [] all joins = all
renames-words n rs (j ∷ js) all joins =
    renames-words n (rs ++ rename_of n (renamed rs j.first.text) (renamed rs j.second.text) ∷ []) js
    (every-push (λ (r : Rename). IsWord r.to) rs _ all
    (rename-word n (renamed rs j.first.text) (renamed rs j.second.text)
    (renamed-word rs j.first.text all (yal-word j.first.text joins.0.first.text)) (renamed-word rs j.second.text all (yal-word j.second.text joins.0.second.text))))
    joins.1

-- the pin that is found is one of them
pin-kept : (pins : List Pin) (name : List ℕ) (p : Pin) → AllByRecursion kept.IsKeptPin pins → pin_at pins name ≡ Some p → kept.IsKeptPin p
pin-kept [] name p all is = let never : ⊥ = cc in absurd never
pin-kept (q ∷ qs) name p all is = by (bytes_eq name q.terminal) is (pin-kept qs name p all.1)
  where
    by : (b : Bool) → cond b (Some q) (pin_at qs name) ≡ Some p → (pin_at qs name ≡ Some p → kept.IsKeptPin p) → kept.IsKeptPin p
    by true is rest = subst kept.IsKeptPin (there is) all.0
      where
        there : Some q ≡ Some p → q ≡ p
        there h = cc
    by false is rest = rest is

-- the word of a power terminal
power-kept : (lines : List Line) (name v : List ℕ) → power_word lines name ≡ Some v → IsWord v
unfolding power_word
power-kept lines name v is = by (list_any (is_supply_line name) lines) (list_any (is_ground_line name) lines) is
  where
    supply : IsWord supply_word
    supply = record { name = refl; plain = refl }

    ground : IsWord ground_word
    ground = record { name = refl; plain = refl }

    same : (x y : List ℕ) → Some x ≡ Some y → x ≡ y
    same x y h = cc

    by : (a b : Bool) → cond a (Some supply_word) (cond b (Some ground_word) None) ≡ Some v → IsWord v
    by true b is = subst IsWord (same supply_word v is) supply
    by false true is = subst IsWord (same ground_word v is) ground
    by false false is = let never : ⊥ = cc in absurd never

-- the word of the pin at a terminal, if there is one
pinned-word : (rs : List Rename) (undriven : List (List ℕ)) (g : Gate) (name w : List ℕ) (o : Option Pin) → AreWords rs → kept.IsKeptGate g → pin_at g.pins name ≡ o
    → pin_word rs undriven name g.at o ≡ Ok w → IsWord w
pinned-word rs undriven g name w None all h found is = let never : ⊥ = cc in absurd never
pinned-word rs undriven g name w (Some p) all h found is =
    subst IsWord (net-is undriven p.net (renamed rs p.net) p.at w is) (renamed-word rs p.net all (yal-word p.net (pin-kept g.pins name p h.pins found).net))

-- the word at a terminal is one of YAL
at-word : (rs : List Rename) (undriven : List (List ℕ)) (lines : List Line) (g : Gate) (name w : List ℕ) (o : Option (List ℕ)) → AreWords rs → kept.IsKeptGate g → power_word lines name ≡ o
    → word_at rs undriven g name o ≡ Ok w → IsWord w
at-word rs undriven lines g name w (Some v) all h given is = subst IsWord (same-ok v w is) (power-kept lines name v given)
at-word rs undriven lines g name w None all h given is = pinned-word rs undriven g name w (pin_at g.pins name) all h refl is

terminal-kept : (rs : List Rename) (undriven : List (List ℕ)) (lines : List Line) (g : Gate) → AreWords rs → kept.IsKeptGate g → (name : List ℕ) → Unit {0} → (w : List ℕ)
    → terminal_word rs undriven lines g name ≡ Ok w → IsWord w
unfolding terminal_word
terminal-kept rs undriven lines g all h name any w is = at-word rs undriven lines g name w (power_word lines name) all h refl is

-- anything holds of each
each-any : {A : Type 0} (xs : List A) → AllByRecursion (λ (x : A). Unit {0}) xs
each-any [] = tt
each-any (x ∷ xs) = (tt, each-any xs)

words-kept : (rs : List Rename) (undriven : List (List ℕ)) (lines : List Line) (g : Gate) (ws : List (List ℕ)) → AreWords rs → kept.IsKeptGate g → words_of rs undriven lines g ≡ Ok ws → AllByRecursion IsWord ws
unfolding words_of
words-kept rs undriven lines g ws all h is =
    let one = bind-ok (fitting_pins (terminal_names lines) lines [] g.pins) _ ws is in
    each-keeps (λ _. Unit {0}) IsWord (terminal_word rs undriven lines g) (terminal_names lines) ws (terminal-kept rs undriven lines g all h) (each-any (terminal_names lines)) one.2

-- digits behind a letter are a word of YAL
digit-name : (c : ℕ) → is_ascii_digit c ≡ true → is_name_byte c ≡ true
digit-name c is = grind (arith, nat_tests)

digit-plain : (c : ℕ) → is_ascii_digit c ≡ true → (c == 47) ≡ false
digit-plain c is = grind (arith, nat_tests)

digits-plain : (ds : List ℕ) → list_all is_ascii_digit ds ≡ true → has_comment ds ≡ false
digits-plain [] all = refl
digits-plain (d ∷ ds) all = let p = and_parts (is_ascii_digit d) (list_all is_ascii_digit ds) all in rw (digit-plain d p.0) (digits-plain ds p.1)

digits-all : (ds : List ℕ) → AllDigits 10 ds → list_all is_ascii_digit ds ≡ true
digits-all [] digits = refl
digits-all (d ∷ ds) digits =
    let range = digit_from_value d digits.0 in
    and_from (is_ascii_digit d) (list_all is_ascii_digit ds) (grind (arith, nat_tests, range)) (digits-all ds digits.1)

numbered-word : (n : ℕ) → n < 2 ^ 64 → IsWord (codes "g" ++ decimal n)
numbered-word n small =
    let all : list_all is_ascii_digit (decimal n) ≡ true = digits-all (decimal n) (decimal_is_IsNumeral n small).0.1 in
    record {
      name = and_from (nat_le 1 (length (103 ∷ decimal n))) _ (le-leb 1 (length (103 ∷ decimal n)) (omega arith)) (list_all-weaker is_ascii_digit is_name_byte digit-name (decimal n) all);
      plain = digits-plain (decimal n) all;
    }

-- a gate with its number that is kept, and whose name does not end the network
record IsKeptNumbered (g : ℕ × Gate) : Type 0 where
  kept : kept.IsKeptGate g.1
  name : IsWord (name_of g.0 g.1)
  open_network : spells (codes "ENDNETWORK") (name_of g.0 g.1) ≡ false

call-kept : (modules : List Module) (rs : List Rename) (undriven : List (List ℕ)) → AreWords rs → (g : ℕ × Gate) → IsKeptNumbered g → (c : Call) → call_of modules rs undriven g ≡ Ok c → IsWritableCall c
unfolding call_of
call-kept modules rs undriven all g h c is =
    let one = bind-ok (found_cell g.1 (cell_named modules g.1.«module»)) _ c is in
    let two = bind-ok (words_of rs undriven one.0.lines g.1) _ c one.2 in
    subst IsWritableCall (same-ok _ c two.2)
    (record { name = h.name; open_network = h.open_network; «module» = yal-word g.1.«module» h.kept.«module»; signals = words-kept rs undriven one.0.lines g.1 two.0 all h.kept two.1 })

-- the name of an instance
name-word : (n : ℕ) (o : Option BlifWord) → n < 2 ^ 64 → IfSome o kept.IsKeptWord → IsWord (name_in n o)
name-word n None small h = numbered-word n small
name-word n (Some w) small h = yal-word w.text h.text

-- the names of instances do not end the network, and are different
abbrev AreOpen : List BlifWord → Type 0
AreOpen ws = AllByRecursion (λ (w : BlifWord). spells (codes "ENDNETWORK") w.text ≡ false) ws

-- a name that was let through
pub record FitsName (taken : List (List ℕ)) (w : BlifWord) (name : List ℕ) : Type 0 where
  pub same : w.text ≡ name
  pub open_network : spells (codes "ENDNETWORK") w.text ≡ false
  pub free : is_among taken w.text ≡ false

fits-name : (taken : List (List ℕ)) (w : BlifWord) (name : List ℕ) → fitting_name taken w ≡ Ok name → FitsName taken w name
unfolding fitting_name
fits-name taken w name is =
    let one = passed (spells (codes "ENDNETWORK") w.text) _ _ name is in
    let two = passed (is_among taken w.text) _ _ name one.1 in
    record { same = same-ok w.text name two.1; open_network = one.0; free = two.0 }

names-open : (taken : List (List ℕ)) (ws : List BlifWord) → fitting_names taken ws ≡ Ok tt → AreOpen ws
unfolding fitting_names
names-open taken [] is = tt
names-open taken (w ∷ ws) is =
    let one = bind-ok (fitting_name taken w) _ tt is in
    ((fits-name taken w one.0 one.1).open_network, names-open (taken ++ one.0 ∷ []) ws one.2)

names-different : (taken : List (List ℕ)) (ws : List BlifWord) → IsDistinct bytes_eq taken → fitting_names taken ws ≡ Ok tt → IsDistinct bytes_eq (taken ++ map (λ (w : BlifWord). w.text) ws)
unfolding fitting_names
names-different taken [] different is = subst (IsDistinct bytes_eq) (sym (append-nil taken)) different
names-different taken (w ∷ ws) different is =
    let one = bind-ok (fitting_name taken w) _ tt is in
    let fits = fits-name taken w one.0 one.1 in
    let more : IsDistinct bytes_eq (taken ++ one.0 ∷ []) = subst (λ (x : List ℕ). IsDistinct bytes_eq (taken ++ x ∷ [])) fits.same (distinct-push taken w.text different fits.free) in
    let rest = names-different (taken ++ one.0 ∷ []) ws more one.2 in
    subst (IsDistinct bytes_eq) (append_assoc taken (one.0 ∷ []) (map (λ (x : BlifWord). x.text) ws) ∙ ap (λ (x : List ℕ). taken ++ x ∷ map (λ (y : BlifWord). y.text) ws) (sym fits.same)) rest

-- gates with their numbers
numbered-kept : (n : ℕ) (gates : List Gate) → n + length gates < 2 ^ 64 → AllByRecursion kept.IsKeptGate gates → AreOpen (map instance_of (enumerate_from n gates))
    → AllByRecursion IsKeptNumbered (enumerate_from n gates)
numbered-kept n [] small all open_names = tt
numbered-kept n (g ∷ gs) small all open_names = (
  record { kept = all.0; name = name-word n g.name (omega (arith, small)) all.0.name; open_network = open_names.0 },
  numbered-kept (n + 1) gs (omega (arith, small)) all.1 open_names.1,
)

-- the names of calls are those of the instances
calls-names : (modules : List Module) (rs : List Rename) (undriven : List (List ℕ)) (gs : List (ℕ × Gate)) (calls : List Call) → each (call_of modules rs undriven) gs ≡ Ok calls
    → call_names calls ≡ map (λ (w : BlifWord). w.text) (map instance_of gs)
unfolding each call_of
calls-names modules rs undriven [] calls is = ap call_names (sym (same-ok [] calls is))
calls-names modules rs undriven (g ∷ gs) calls is =
    let one = bind-ok (call_of modules rs undriven g) _ calls is in
    let two = bind-ok (each (call_of modules rs undriven) gs) _ calls one.2 in
    let cell = bind-ok (found_cell g.1 (cell_named modules g.1.«module»)) _ one.0 one.1 in
    let words = bind-ok (words_of rs undriven cell.0.lines g.1) _ one.0 cell.2 in
    let name : name_of g.0 g.1 ≡ one.0.name = ap (λ (c : Call). c.name) (same-ok _ one.0 words.2) in
    ap call_names (sym (same-ok (one.0 ∷ two.0) calls two.2))
    ∙ ap₂ (λ (x : List ℕ) (xs : List (List ℕ)). x ∷ xs) (sym name) (calls-names modules rs undriven gs two.0 two.1)

-- the lines of terminals
abbrev AreOpenLines : List BlifWord → Type 0
AreOpenLines ts = AllByRecursion (λ (t : BlifWord). spells (codes "ENDIOLIST") t.text ≡ false) ts

open-word : (rs : List Rename) (undriven taken : List (List ℕ)) (t : BlifWord) (w : List ℕ) → fitting_terminal rs undriven taken t ≡ Ok w → spells (codes "ENDIOLIST") t.text ≡ false
unfolding fitting_terminal
open-word rs undriven taken t w is = (passed (spells (codes "ENDIOLIST") t.text) _ _ w is).0

open-words : (rs : List Rename) (undriven taken : List (List ℕ)) (ts : List BlifWord) (all : List (List ℕ)) → fitting_terminals rs undriven taken ts ≡ Ok all → AreOpenLines ts
unfolding fitting_terminals
open-words rs undriven taken [] all is = tt
open-words rs undriven taken (t ∷ ts) all is =
    let one = bind-ok (fitting_terminal rs undriven taken t) _ all is in
    (open-word rs undriven taken t one.0 one.1, open-words rs undriven (taken ++ one.0 ∷ []) ts all one.2)

lines-kept : (flow : Flow) (ts : List BlifWord) → AllByRecursion kept.IsKeptWord ts → AreOpenLines ts → AllByRecursion IsWritableLine (map (line_of flow) ts)
lines-kept flow [] all open_lines = tt
lines-kept flow (t ∷ ts) all open_lines = (record { name = yal-word t.text all.0.text; open_list = open_lines.0; bare = refl }, lines-kept flow ts all.1 open_lines.1)

all-lines : (rs : List Rename) (undriven : List (List ℕ)) (b : BlifFile) (all : List (List ℕ)) → kept.IsKept b → all_terminals rs undriven b ≡ Ok all → AllByRecursion IsWritableLine (lines_of b)
unfolding all_terminals
all-lines rs undriven b all h is =
    let one = bind-ok (fitting_terminals rs undriven [] b.inputs) _ all is in
    every-append IsWritableLine (map (line_of flows.PI) b.inputs) (map (line_of flows.PO) b.outputs)
    (lines-kept flows.PI b.inputs h.inputs (open-words rs undriven [] b.inputs one.0 one.1))
    (lines-kept flows.PO b.outputs h.outputs (open-words rs undriven one.0 b.outputs all one.2))

-- what the tests let through
record Passed (b : BlifFile) (modules : List Module) : Type 0 where
  free : is_among (module_names modules) b.model.text ≡ false
  lines : AllByRecursion IsWritableLine (lines_of b)
  names : fitting_names [] (instances_of b.gates) ≡ Ok tt

passed-all : (rs : List Rename) (undriven : List (List ℕ)) (b : BlifFile) (modules : List Module) → kept.IsKept b → tested rs undriven b modules ≡ Ok tt → Passed b modules
unfolding tested
passed-all rs undriven b modules h is =
    let one = bind-ok (no_parent b.model.at (find is_parent_module modules)) _ tt is in
    let two = bind-ok (free_model modules b.model) _ tt one.2 in
    let three = bind-ok (all_terminals rs undriven b) _ tt two.2 in
    record {
      free = (passed (is_among (module_names modules) b.model.text) _ _ _ two.1).0;
      lines = all-lines rs undriven b three.0 h three.1;
      names = three.2;
    }

-- a PARENT that was made of a netlist that was read can be written, and its name is none of the cells'
pub parent-writable : (b : BlifFile) (cells : YalFile) (m : Module) → parent_of b cells ≡ Ok m → kept.IsKept b → length b.gates < 2 ^ 64
    → IsWritable m × (is_among (module_names cells.modules) m.name ≡ false)
unfolding parent_of parent_in
parent-writable b cells m is h few =
    let rs = renames_of b in
    let undriven = undriven_of b cells.modules in
    let one = bind-ok (tested rs undriven b cells.modules) _ m is in
    let two = bind-ok (calls_of cells.modules rs undriven b.gates) _ m one.2 in
    let through = passed-all rs undriven b cells.modules h one.1 in
    let all = renames-words b [] b.joins tt h.joins in
    let gates = numbered-kept 0 b.gates (omega (arith, few)) h.gates (names-open [] (instances_of b.gates) through.names) in
    let writable : IsWritable (parent_with b two.0) = record {
      name = yal-word b.model.text h.model.text;
      kind = refl;
      corners = refl;
      lines = through.lines;
      calls = each-keeps IsKeptNumbered IsWritableCall (call_of cells.modules rs undriven) (enumerate_from 0 b.gates) two.0 (call-kept cells.modules rs undriven all) gates two.1;
      distinct = subst (IsDistinct bytes_eq) (sym (calls-names cells.modules rs undriven (enumerate_from 0 b.gates) two.0 two.1)) (names-different [] (instances_of b.gates) distinct-none through.names);
    } in
    subst (λ (x : Module). IsWritable x × (is_among (module_names cells.modules) x.name ≡ false)) (same-ok (parent_with b two.0) m two.2) (writable, through.free)
