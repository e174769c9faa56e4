use Rattle.std.proofs.Common.{◌≡◌, ℕ, zero, suc, ◌<◌, false, List, [], ◌∷◌, ◌++◌, length, map, refl, sym, ap, subst, ◌∙◌, append_assoc, append-nil, None, Some, Ok, codes, arith}
use Rattle.std.proofs.lemmas.List.{map-append}
use Rattle.std.specs.List.{AllByRecursion, IsDistinct}
use Rattle.std.specs.Str.{bytes_eq}
use Rattle.std_laws.proofs.Distinct.{distinct-apart}
use Rattle.yal_reader.specs.Kept.{call_names}
use Rattle.yal_reader.specs.Lists.{call_after, calls_of, calls_until, io_list, is_among, items_until, line_after, lines_of, lines_until, network, spot_after}
use Rattle.yal_reader.specs.Sections.{calls_after, lines_after, no_parts, section_after, sections}
use Rattle.yal_reader.specs.Tokens.{Token, semicolon, spelled}
use Rattle.yal_reader.specs.Words.{a_flow, a_kind, the_word, words}
use Rattle.yal_reader.specs.YalReads.{a_module, heading, module_of}
use Rattle.yal_reader.specs.declared.file.Call.{Call}
use Rattle.yal_reader.specs.declared.file.Flow.{Flow}
use Rattle.yal_reader.specs.declared.file.Flow.TheVariants as flows
use Rattle.yal_reader.specs.declared.file.Kind.TheVariants as kinds
use Rattle.yal_reader.specs.declared.file.Line.{Line}
use Rattle.yal_reader.specs.declared.file.Module.{Module}
use Rattle.yal_reader.specs.declared.notation.Numbers.{Numbers}
use Rattle.yal_writer.proofs.Printed.{all_stated, stated}
use Rattle.yal_writer.specs.ParentText.{call_words, end_words, flow_word, line_words, middle_words, parent_words}
use Rattle.yal_writer.specs.Writable.{IsWritable, IsWritableCall, IsWritableLine}

-- statements in two parts
pub stated-append : (xs ys : List (List (List ℕ))) (ts : List Token) → all_stated (xs ++ ys) ts ≡ all_stated xs (all_stated ys ts)
stated-append [] ys ts = refl
stated-append (ws ∷ xs) ys ts = ap (stated ws) (stated-append xs ys ts)

-- the words of a statement
words-stated : (ws : List (List ℕ)) (ts : List Token) → words (stated ws ts) ≡ Ok (ws, ts)
unfolding words
words-stated [] ts = refl
words-stated (w ∷ ws) ts = rw (words-stated ws ts) refl

-- a line
line-stated : (numbers : Numbers) (name : List ℕ) (flow : Flow) (ts : List Token)
    → line_after numbers kinds.Parent (spelled name 0) (stated (flow_word flow ∷ []) ts) ≡ Ok (record { name = name; flow = flow; spot = None }, ts)
unfolding line_after a_flow spot_after
line-stated numbers name flows.I ts = refl
line-stated numbers name flows.O ts = refl
line-stated numbers name flows.B ts = refl
line-stated numbers name flows.PI ts = refl
line-stated numbers name flows.PO ts = refl
line-stated numbers name flows.PB ts = refl
line-stated numbers name flows.F ts = refl
line-stated numbers name flows.PWR ts = refl
line-stated numbers name flows.GND ts = refl

bare-line : (l : Line) → l.spot ≡ None → l ≡ record { name = l.name; flow = l.flow; spot = None }
bare-line l bare = ap (λ s. record { name = l.name; flow = l.flow; spot = s }) bare

-- the lines up to their end
lines-stated : (numbers : Numbers) (n : ℕ) (before lines : List Line) (ts : List Token) → length lines < n → AllByRecursion IsWritableLine lines
    → lines_until numbers kinds.Parent n before (all_stated (map line_words lines) (stated (codes "ENDIOLIST" ∷ []) ts)) ≡ Ok (before ++ lines, semicolon 0 ∷ ts)
unfolding items_until
lines-stated numbers zero before lines ts lt all = absurd (omega (arith, lt))
lines-stated numbers (suc n) before [] ts lt all = ap (λ (ls : List Line). Ok (ls, semicolon 0 ∷ ts)) (sym (append-nil before))
lines-stated numbers (suc n) before (l ∷ ls) ts lt all =
    let rest = all_stated (map line_words ls) (stated (codes "ENDIOLIST" ∷ []) ts) in
    rw (all.0.open_list, line-stated numbers l.name l.flow rest)
    (ap (λ (x : Line). lines_until numbers kinds.Parent n (before ++ x ∷ []) rest) (sym (bare-line l all.0.bare))
    ∙ lines-stated numbers n (before ++ l ∷ []) ls ts (omega (arith, lt)) all.1 ∙ ap (λ (xs : List Line). Ok (xs, semicolon 0 ∷ ts)) (append_assoc before (l ∷ []) ls))

-- a call
call-stated : (names : List (List ℕ)) (c : Call) (ts : List Token) → is_among names c.name ≡ false → call_after names (spelled c.name 0) (stated (c.«module» ∷ c.signals) ts) ≡ Ok (c, ts)
unfolding call_after
call-stated names c ts free = rw (free, words-stated c.signals ts) refl

-- a name is none of those before
free-name : (before calls : List Call) (c : Call) → IsDistinct bytes_eq (call_names (before ++ c ∷ calls)) → is_among (call_names before) c.name ≡ false
free-name before calls c different = distinct-apart (call_names before) (call_names calls) c.name (subst (IsDistinct bytes_eq) (map-append (λ (x : Call). x.name) before (c ∷ calls)) different)

-- the calls up to their end
calls-stated : (n : ℕ) (before calls : List Call) (ts : List Token) → length calls < n → AllByRecursion IsWritableCall calls → IsDistinct bytes_eq (call_names (before ++ calls))
    → calls_until n before (all_stated (map call_words calls) (stated (codes "ENDNETWORK" ∷ []) ts)) ≡ Ok (before ++ calls, semicolon 0 ∷ ts)
unfolding items_until
calls-stated zero before calls ts lt all different = absurd (omega (arith, lt))
calls-stated (suc n) before [] ts lt all different = ap (λ (cs : List Call). Ok (cs, semicolon 0 ∷ ts)) (sym (append-nil before))
calls-stated (suc n) before (c ∷ cs) ts lt all different =
    let rest = all_stated (map call_words cs) (stated (codes "ENDNETWORK" ∷ []) ts) in
    let joined = append_assoc before (c ∷ []) cs in
    rw (all.0.open_network, call-stated (call_names before) c rest (free-name before cs c different))
    (calls-stated n (before ++ c ∷ []) cs ts (omega (arith, lt)) all.1 (subst (λ (xs : List Call). IsDistinct bytes_eq (call_names xs)) (sym joined) different)
    ∙ ap (λ (xs : List Call). Ok (xs, semicolon 0 ∷ ts)) joined)

-- IOLIST and NETWORK
io_list-stated : (numbers : Numbers) (n : ℕ) (lines : List Line) (ts : List Token) → length lines < n → AllByRecursion IsWritableLine lines
    → io_list numbers n kinds.Parent (semicolon 0 ∷ all_stated (map line_words lines) (stated (codes "ENDIOLIST" ∷ []) ts)) ≡ Ok (lines, ts)
unfolding io_list lines_of
io_list-stated numbers n lines ts lt all = rw (lines-stated numbers n [] lines ts lt all) refl

network-stated : (n : ℕ) (calls : List Call) (ts : List Token) → length calls < n → AllByRecursion IsWritableCall calls → IsDistinct bytes_eq (call_names calls)
    → network n kinds.Parent (semicolon 0 ∷ all_stated (map call_words calls) (stated (codes "ENDNETWORK" ∷ []) ts)) ≡ Ok (calls, ts)
unfolding network calls_of
network-stated n calls ts lt all different = rw (calls-stated n [] calls ts lt all different) refl

-- the tokens behind the heading
abbrev behind_heading : List Line → List Call → List Token
behind_heading lines calls =
    stated (codes "IOLIST" ∷ []) (all_stated (map line_words lines) (stated (codes "ENDIOLIST" ∷ []) (stated (codes "NETWORK" ∷ []) (all_stated (map call_words calls) (stated (codes "ENDNETWORK" ∷ []) (stated (codes "ENDMODULE" ∷ []) []))))))

-- the sections
sections-stated : (numbers : Numbers) (n : ℕ) (lines : List Line) (calls : List Call) → length lines < suc n → length calls < n → AllByRecursion IsWritableLine lines → AllByRecursion IsWritableCall calls
    → IsDistinct bytes_eq (call_names calls)
    → sections numbers (suc (suc n)) kinds.Parent no_parts (behind_heading lines calls) ≡ Ok (record { corners = None; lines = Some lines; calls = Some calls }, [])
unfolding sections section_after lines_after calls_after
sections-stated numbers zero lines calls few small ls cs different = absurd (omega (arith, small))
sections-stated numbers (suc n) lines calls few small ls cs different =
    rw (io_list-stated numbers (suc (suc n)) lines (stated (codes "NETWORK" ∷ []) (all_stated (map call_words calls) (stated (codes "ENDNETWORK" ∷ []) (stated (codes "ENDMODULE" ∷ []) [])))) few ls)
    (rw (network-stated (suc n) calls (stated (codes "ENDMODULE" ∷ []) []) small cs different) refl)

-- the heading
heading-stated : (names : List (List ℕ)) (name : List ℕ) (ts : List Token) → is_among names name ≡ false
    → heading names (stated (codes "MODULE" ∷ name ∷ []) (stated (codes "TYPE" ∷ codes "PARENT" ∷ []) ts)) ≡ Ok ((spelled name 0, kinds.Parent), ts)
unfolding heading the_word a_kind
heading-stated names name ts free = rw free refl

-- the module
written-is : (m : Module) → IsWritable m → module_of m.name kinds.Parent (record { corners = None; lines = Some m.lines; calls = Some m.calls }) ≡ m
written-is m h = rw (← h.kind, ← h.corners) refl

module-stated : (numbers : Numbers) (n : ℕ) (names : List (List ℕ)) (m : Module) → length m.lines < suc n → length m.calls < n → IsWritable m → is_among names m.name ≡ false
    → a_module numbers (suc (suc n)) names (stated (codes "MODULE" ∷ m.name ∷ []) (stated (codes "TYPE" ∷ codes "PARENT" ∷ []) (behind_heading m.lines m.calls))) ≡ Ok (m, [])
unfolding a_module
module-stated numbers n names m few small h free =
    rw (heading-stated names m.name (behind_heading m.lines m.calls) free, sections-stated numbers n m.lines m.calls few small h.lines h.calls h.distinct)
    (ap (λ (x : Module). Ok (x, [])) (written-is m h))

-- the tokens of a PARENT's statements
pub parent-stated : (m : Module) → all_stated (parent_words m) [] ≡ stated (codes "MODULE" ∷ m.name ∷ []) (stated (codes "TYPE" ∷ codes "PARENT" ∷ []) (behind_heading m.lines m.calls))
parent-stated m =
    ap (λ (ts : List Token). stated (codes "MODULE" ∷ m.name ∷ []) (stated (codes "TYPE" ∷ codes "PARENT" ∷ []) (stated (codes "IOLIST" ∷ []) ts)))
    (stated-append (map line_words m.lines) (middle_words ++ (map call_words m.calls ++ end_words)) []
    ∙ ap (λ (ts : List Token). all_stated (map line_words m.lines) (stated (codes "ENDIOLIST" ∷ []) (stated (codes "NETWORK" ∷ []) ts))) (stated-append (map call_words m.calls) end_words []))

pub parent-read : (numbers : Numbers) (n : ℕ) (names : List (List ℕ)) (m : Module) → length m.lines < suc n → length m.calls < n → IsWritable m → is_among names m.name ≡ false
    → a_module numbers (suc (suc n)) names (all_stated (parent_words m) []) ≡ Ok (m, [])
parent-read numbers n names m few small h free = rw (parent-stated m) (module-stated numbers n names m few small h free)
