use Rattle.std.proofs.Common.{◌≡◌, ℕ, zero, suc, ◌+◌, ◌<◌, ◌≤◌, false, List, [], ◌∷◌, ◌++◌, length, map, refl, sym, ap, subst, ◌∙◌, None, Result, Ok, Err, arith, length-append}
use Rattle.std.proofs.lemmas.List.{length-map}
use Rattle.std.specs.List.{AllByRecursion}
use Rattle.std_laws.proofs.Every.{every-append, every-map, every-weaker}
use Rattle.read_base.specs.Placed.{placed}
use Rattle.read_base.specs.Steps.{◌>>=◌}
use Rattle.yal_reader.proofs.Lexing.{tokens-blank}
use Rattle.yal_reader.specs.Flaws.{Flaw}
use Rattle.yal_reader.specs.Kept.{module_names}
use Rattle.yal_reader.specs.Lists.{is_among}
use Rattle.yal_reader.specs.Text.{ascii, uncommented}
use Rattle.yal_reader.specs.Tokens.{Token, tokens}
use Rattle.yal_reader.specs.Words.{statement}
use Rattle.yal_reader.specs.YalReads.{a_module, file_of, modules, yal_reads}
use Rattle.yal_reader.specs.declared.fault.YalKind.{YalKind}
use Rattle.yal_reader.specs.declared.file.Call.{Call}
use Rattle.yal_reader.specs.declared.file.Flow.{Flow}
use Rattle.yal_reader.specs.declared.file.Flow.TheVariants as flows
use Rattle.yal_reader.specs.declared.file.Line.{Line}
use Rattle.yal_reader.specs.declared.file.Module.{Module}
use Rattle.yal_reader.specs.declared.file.YalFile.{YalFile}
use Rattle.yal_reader.specs.declared.notation.Numbers.{Numbers}
use Rattle.yal_writer.proofs.Alike.{Alike, Says, given}
use Rattle.yal_writer.proofs.FollowWords.{same-statement}
use Rattle.yal_writer.proofs.FollowSections.{modules-onward, modules-step, same-module, says-some}
use Rattle.yal_writer.proofs.Printed.{AreWords, all_stated, ascii-append, statements-ascii, statements-plain, statements-say, tokens-append, uncommented-append, uncommented-plain}
use Rattle.yal_writer.proofs.Stated.{parent-read}
use Rattle.yal_writer.specs.ParentText.{call_words, end_words, flow_word, heading_words, line_words, middle_words, parent_text, parent_words, statements}
use Rattle.yal_writer.specs.ParentText as texts
use Rattle.yal_writer.specs.ReadsBack.{ReadsBack}
use Rattle.yal_writer.specs.Writable.{IsWord, IsWritable, IsWritableCall, IsWritableLine}

-- the words of flows can be written
flow-word : (f : Flow) → IsWord (flow_word f)
flow-word flows.I = record { name = refl; plain = refl }
flow-word flows.O = record { name = refl; plain = refl }
flow-word flows.B = record { name = refl; plain = refl }
flow-word flows.PI = record { name = refl; plain = refl }
flow-word flows.PO = record { name = refl; plain = refl }
flow-word flows.PB = record { name = refl; plain = refl }
flow-word flows.F = record { name = refl; plain = refl }
flow-word flows.PWR = record { name = refl; plain = refl }
flow-word flows.GND = record { name = refl; plain = refl }

-- so can all words of a PARENT's statements
line-words : (l : Line) → IsWritableLine l → AreWords (line_words l)
line-words l h = (h.name, (flow-word l.flow, tt))

call-words : (c : Call) → IsWritableCall c → AreWords (call_words c)
call-words c h = (h.name, (h.«module», h.signals))

all-words : (m : Module) → IsWritable m → AllByRecursion AreWords (parent_words m)
all-words m h =
    every-append AreWords (heading_words m.name) (map line_words m.lines ++ (middle_words ++ (map call_words m.calls ++ end_words)))
    ((record { name = refl; plain = refl }, (h.name, tt)), ((record { name = refl; plain = refl }, (record { name = refl; plain = refl }, tt)), ((record { name = refl; plain = refl }, tt), tt)))
    (every-append AreWords (map line_words m.lines) (middle_words ++ (map call_words m.calls ++ end_words))
    (every-map AreWords line_words m.lines (every-weaker IsWritableLine (λ (l : Line). AreWords (line_words l)) line-words m.lines h.lines))
    (every-append AreWords middle_words (map call_words m.calls ++ end_words)
    ((record { name = refl; plain = refl }, tt), ((record { name = refl; plain = refl }, tt), tt))
    (every-append AreWords (map call_words m.calls) end_words
    (every-map AreWords call_words m.calls (every-weaker IsWritableCall (λ (c : Call). AreWords (call_words c)) call-words m.calls h.calls))
    ((record { name = refl; plain = refl }, tt), ((record { name = refl; plain = refl }, tt), tt)))))

-- a printed statement has bytes, so a text is at least as long as it has statements
one-end : (ws : List (List ℕ)) → 1 ≤ length (texts.word_end ws)
one-end [] = omega arith
one-end (w ∷ ws) = omega arith

statement-long : (ws : List (List ℕ)) → AreWords ws → 1 ≤ length (texts.statement ws)
statement-long [] all = absurd all
statement-long (w ∷ ws) all =
    omega (arith, one-end ws, length-append w (texts.word_end ws ++ texts.statement ws), length-append (texts.word_end ws) (texts.statement ws))

statements-long : (wss : List (List (List ℕ))) → AllByRecursion AreWords wss → length wss ≤ length (statements wss)
statements-long [] all = omega arith
statements-long (ws ∷ wss) all = omega (arith, statement-long ws all.0, statements-long wss all.1, length-append (texts.statement ws) (statements wss))

parent-long : (m : Module) → IsWritable m → length m.lines + length m.calls + 7 ≤ length (statements (parent_words m))
parent-long m h =
    omega (
      arith,
      statements-long (parent_words m) (all-words m h),
      length-append (heading_words m.name) (map line_words m.lines ++ (middle_words ++ (map call_words m.calls ++ end_words))),
      length-append (map line_words m.lines) (middle_words ++ (map call_words m.calls ++ end_words)),
      length-append middle_words (map call_words m.calls ++ end_words),
      length-append (map call_words m.calls) end_words,
      length-map m.lines line_words,
      length-map m.calls call_words,
    )

-- the steps of what reads
bind-ok : {A B : Type 0} (r : Result A Flaw) (f : A → Result B Flaw) (z : B) → (r >>= f) ≡ Ok z → (x : A) × (r ≡ Ok x) × (f x ≡ Ok z)
bind-ok (Ok x) f z is = (x, refl, is)
bind-ok (Err e) f z is = let never : ⊥ = cc in absurd never

placed-ok : (size : ℕ) (r : Result YalFile Flaw) (file : YalFile) → placed size r ≡ Ok file → r ≡ Ok file
placed-ok size (Ok x) file is = ap (λ f. Ok f) (same is)
  where
    same : ◌≡◌ {A = Result YalFile (YalKind × ℕ)} (Ok x) (Ok file) → x ≡ file
    same e = cc
placed-ok size (Err e) file is = let never : ⊥ = cc in absurd never

-- no module is left
modules-done : (numbers : Numbers) (n : ℕ) (before : List Module) (us : List Token) → us ≡ [] → modules numbers (suc n) before us ≡ Ok before
unfolding modules
modules-done numbers n before us is = rw is refl

-- a PARENT's tokens, whatever their places, read as the PARENT
parent-modules : (numbers : Numbers) (n : ℕ) (found : List Module) (m : Module) (us : List Token) → length m.lines < suc n → length m.calls < n → IsWritable m
    → is_among (module_names found) m.name ≡ false → Alike [] (all_stated (parent_words m) []) us → modules numbers (suc (suc n)) found us ≡ Ok (found ++ m ∷ [])
parent-modules numbers n found m us few small h free says =
    let alike = same-statement [] (all_stated (parent_words m) []) us refl says in
    let there = given (a_module numbers (suc (suc n)) (module_names found) (all_stated (parent_words m) [])) (a_module numbers (suc (suc n)) (module_names found) (statement us)) (m, [])
    (same-module [] numbers (suc (suc n)) (suc (suc n)) (module_names found) (all_stated (parent_words m) []) (statement us) (omega arith) alike)
    (parent-read numbers n (module_names found) m few small h free) in
    let ends : there.0.1 ≡ [] = there.2.1.says in
    modules-step numbers (suc n) found us there.0 (says-some [] (all_stated (parent_words m) []) (statement us) refl alike) there.1
    ∙ modules-done numbers n (found ++ there.0.0 ∷ []) there.0.1 ends ∙ ap (λ (x : Module). Ok (found ++ x ∷ [])) (sym there.2.0)

-- the same with any fuel that is greater than the text is long
parent-fueled : (numbers : Numbers) (k : ℕ) (found : List Module) (m : Module) (us : List Token) → length (statements (parent_words m)) < k → IsWritable m
    → is_among (module_names found) m.name ≡ false → Alike [] (all_stated (parent_words m) []) us → modules numbers k found us ≡ Ok (found ++ m ∷ [])
parent-fueled numbers zero found m us lt h free says = absurd (omega (arith, lt))
parent-fueled numbers (suc zero) found m us lt h free says = absurd (omega (arith, lt, parent-long m h))
parent-fueled numbers (suc (suc n)) found m us lt h free says =
    parent-modules numbers n found m us (omega (arith, lt, parent-long m h)) (omega (arith, lt, parent-long m h)) h free says

-- the text of a PARENT behind that of its cells, in its steps
pub parent-behind : (cells text : List ℕ) (numbers : Numbers) (found : List Module) (m : Module) → ascii cells ≡ Ok tt → uncommented None cells ≡ Ok text
    → modules numbers (suc (length text)) [] (tokens text) ≡ Ok found → IsWritable m → is_among (module_names found) m.name ≡ false
    → file_of (cells ++ parent_text m) numbers ≡ Ok (record { modules = found ++ m ∷ [] })
unfolding file_of parent_text
parent-behind cells text numbers found m plain open_text read h free =
    let printed = statements (parent_words m) in
    let words = all-words m h in
    let first : ascii (cells ++ 10 ∷ printed) ≡ Ok tt = ascii-append cells (10 ∷ printed) plain ∙ statements-ascii (parent_words m) words in
    let second : uncommented None (cells ++ 10 ∷ printed) ≡ Ok (text ++ 10 ∷ printed) =
    uncommented-append cells (10 ∷ printed) text false 0 0 refl (uncommented-plain (10 ∷ printed) (statements-plain (parent_words m) words)) open_text in
    let says : Says (tokens (10 ∷ printed)) (tokens text) (tokens (text ++ 10 ∷ printed)) = tokens-append text (10 ∷ printed) refl in
    let on = modules-onward numbers (tokens (10 ∷ printed)) (suc (length text)) (suc (length (text ++ 10 ∷ printed))) [] found (tokens text) (tokens (text ++ 10 ∷ printed))
    (omega (arith, length-append text (10 ∷ printed))) (record { says = says }) read in
    let feed : tokens (10 ∷ printed) ≡ tokens printed = tokens-blank 10 printed refl in
    let own : Alike [] (all_stated (parent_words m) []) (tokens (10 ∷ printed)) = record { says = subst (λ (us : List Token). Says [] (all_stated (parent_words m) []) us) (sym feed) (statements-say (parent_words m) words) } in
    let last : modules numbers (suc (length (text ++ 10 ∷ printed))) [] (tokens (text ++ 10 ∷ printed)) ≡ Ok (found ++ m ∷ []) =
    on.same ∙ parent-fueled numbers on.fuel found m (tokens (10 ∷ printed)) (omega (arith, on.enough, length-append text (10 ∷ printed))) h free own in
    rw (first, second, last) refl

-- the steps by which a file was read
behind-file : (cells : List ℕ) (numbers : Numbers) (file : YalFile) (m : Module) → file_of cells numbers ≡ Ok file → IsWritable m → is_among (module_names file.modules) m.name ≡ false
    → file_of (cells ++ parent_text m) numbers ≡ Ok (record { modules = file.modules ++ m ∷ [] })
unfolding file_of
behind-file cells numbers file m is h free =
    let one = bind-ok (ascii cells) _ file is in
    let two = bind-ok (uncommented None cells) _ file one.2 in
    let three = bind-ok (modules numbers (suc (length two.0)) [] (tokens two.0)) _ file two.2 in
    let same : three.0 ≡ file.modules = modules_of (record { modules = three.0 }) file three.2 in
    parent-behind cells two.0 numbers file.modules m one.1 two.1 (three.1 ∙ ap (λ (ms : List Module). Ok ms) same) h free
  where
    modules_of : (x y : YalFile) → ◌≡◌ {A = Result YalFile Flaw} (Ok x) (Ok y) → x.modules ≡ y.modules
    modules_of x y e = let same : x ≡ y = cc in ap (λ (f : YalFile). f.modules) same

-- the text of a PARENT reads back
pub reads-back : (m : Module) → ReadsBack m
unfolding yal_reads
reads-back m cells numbers file is h free =
    let whole = placed-ok (length cells) (file_of cells numbers) file is in
    ap (placed (length (cells ++ parent_text m))) (behind-file cells numbers file m whole h free)
