use Rattle.std.proofs.Common.{◌≡◌, ℕ, zero, suc, ◌+◌, ◌<◌, ◌≤◌, true, false, List, [], ◌∷◌, ◌++◌, length, subst, None, Some, is_some, Result, Ok, Err, arith, codes, length-append}
use Rattle.std.proofs.lemmas.Cmp.{nat_list_eq_equiv}
use Rattle.std.proofs.lemmas.Map.Keys.{IsDistinct-push}
use Rattle.std.specs.List.{AllByRecursion, IsDistinct}
use Rattle.std.specs.Str.{bytes_eq}
use Rattle.yal_reader.proofs.FuelLaws.{module_names-push}
use Rattle.yal_reader.proofs.KeptLists.{IsCalls, IsLine, IsLines, kept-io_list, kept-network, no-calls}
use Rattle.yal_reader.proofs.KeptWords.{Keeps, Named, ascii-plain, either, err, kept-end, kept-keyword, kept-kind, kept-numbers, kept-past, kept-statement, kept-stop, kept-word, next, ok, tokens-named, uncommented-kept, weaker}
use Rattle.geom_core.specs.Names.{IsName}
use Rattle.yal_reader.specs.Kept.{HasAtMost, HasSpots, HasSpotWhereDue, IsKept, IsKeptLine, IsKeptModule, IsCoordinate, IsShort, is_standard, module_names}
use Rattle.yal_reader.specs.Lists.{io_list, is_among, network, unless_taken}
use Rattle.yal_reader.specs.Sections.{calls_after, corners_after, dimensions, items_of, lines_after, no_parts, passed_after, passed_until, passes_words, section_after, sections}
use Rattle.yal_reader.specs.Text.{ascii, uncommented}
use Rattle.yal_reader.specs.Tokens.{Spelled, Token, tokens}
use Rattle.yal_reader.specs.Words.{a_kind, a_word, after_stop, an_end, is_empty, is_word, past_words, statement, the_word}
use Rattle.yal_reader.specs.YalReads.{a_module, file_of, heading, module_of, modules}
use Rattle.yal_reader.specs.declared.file.Kind.{Kind}
use Rattle.yal_reader.specs.declared.file.Line.{Line}
use Rattle.yal_reader.specs.declared.file.Module.{Module}
use Rattle.yal_reader.specs.declared.file.YalFile.{YalFile}
use Rattle.yal_reader.specs.declared.parts.Parts.{Parts}
use Rattle.yal_reader.specs.declared.notation.Numbers.{Numbers}
use Rattle.yal_reader.specs.Flaws.{Flaw}
use Rattle.std_laws.proofs.Every.{every-push}

-- what the sections of a module gave so far
pub record IsParts (most : ℕ) (kind : Kind) (parts : Parts) : Type 0 where
  pub corners : AllByRecursion IsCoordinate (items_of parts.corners)
  pub lines : IsLines most kind (items_of parts.lines)
  pub calls : IsCalls most (items_of parts.calls)

-- corners are near
kept-dimensions : (numbers : Numbers) (kind : Kind) (ts : List Token) → Named ts → Keeps (λ x. AllByRecursion IsCoordinate x.0 × Named x.1) (dimensions numbers kind ts)
unfolding dimensions
kept-dimensions numbers kind ts h = either (is_standard kind) _ _ (λ _. kept-numbers numbers ts h) (λ _. next (past_words ts) _ (kept-past ts h) (λ rest k. ok ([], rest) (tt, k)))

-- a greater bound holds as well
lines-more : (n most : ℕ) (kind : Kind) (lines : List _) → n ≤ most → IsLines n kind lines → IsLines most kind lines
lines-more n most kind lines le h = record { each = h.each; few = omega (arith, le, h.few) }

-- the same of calls
calls-more : (n most : ℕ) (calls : List _) → n ≤ most → IsCalls n calls → IsCalls most calls
calls-more n most calls le h = record { are = h.are; few = omega (arith, le, h.few) }

-- parts with new corners
kept-corners : (numbers : Numbers) (most : ℕ) (kind : Kind) (parts : Parts) (w : Spelled) (ts : List Token) → IsParts most kind parts → Named ts → Keeps (λ x. IsParts most kind x.0 × Named x.1) (corners_after numbers kind parts w ts)
unfolding corners_after
kept-corners numbers most kind parts w ts p h = either (is_some parts.corners) _ _ (λ _. err _) (λ _.
    next (dimensions numbers kind ts) _ (kept-dimensions numbers kind ts h) (λ x k.
    ok (record parts { corners = Some x.0 }, x.1) (record { corners = k.0; lines = p.lines; calls = p.calls }, k.1)))

-- parts with new lines
kept-lines : (numbers : Numbers) (n most : ℕ) (kind : Kind) (parts : Parts) (w : Spelled) (ts : List Token) → n ≤ most → IsParts most kind parts → Named ts
    → Keeps (λ x. IsParts most kind x.0 × Named x.1) (lines_after numbers n kind parts w ts)
unfolding lines_after
kept-lines numbers n most kind parts w ts le p h = either (is_some parts.lines) _ _ (λ _. err _) (λ _.
    next (io_list numbers n kind ts) _ (kept-io_list numbers n kind ts h) (λ x k.
    ok (record parts { lines = Some x.0 }, x.1) (record { corners = p.corners; lines = lines-more n most kind x.0 le k.0; calls = p.calls }, k.1)))

-- parts with new calls
kept-calls : (n most : ℕ) (kind : Kind) (parts : Parts) (w : Spelled) (ts : List Token) → n ≤ most → IsParts most kind parts → Named ts
    → Keeps (λ x. IsParts most kind x.0 × Named x.1) (calls_after n kind parts w ts)
unfolding calls_after
kept-calls n most kind parts w ts le p h = either (is_some parts.calls) _ _ (λ _. err _) (λ _.
    next (network n kind ts) _ (kept-network n kind ts h) (λ x k.
    ok (record parts { calls = Some x.0 }, x.1) (record { corners = p.corners; lines = p.lines; calls = calls-more n most x.0 le k.0 }, k.1)))

-- what follows a passed section has names
kept-until : (keyword : List ℕ) (ts : List Token) → Named ts → Keeps Named (passed_until keyword ts)
unfolding passed_until
kept-until keyword ts h =
    next (past_words ts) _ (kept-past ts h) (λ rest kr.
    next (after_stop keyword true rest) _ (kept-stop keyword true rest kr) (λ stop ks.
    kept-end stop ks))

-- the same of each of them
kept-passed : (w : Spelled) (ts : List Token) → Named ts → Keeps Named (passed_after w ts)
unfolding passed_after
kept-passed w ts h =
    either (passes_words w.text) _ _ (λ _. kept-past ts h) (λ _.
    either (is_word (codes "PLACEMENT") w) _ _ (λ _. kept-until (codes "ENDPLACEMENT") ts h) (λ _.
    either (is_word (codes "CRITICALNETS") w) _ _ (λ _. kept-until (codes "ENDCRITICALNETS") ts h) (λ _. err _)))

-- one section
kept-section : (numbers : Numbers) (n most : ℕ) (kind : Kind) (parts : Parts) (w : Spelled) (ts : List Token) → n ≤ most → IsParts most kind parts → Named ts
    → Keeps (λ x. IsParts most kind x.0 × Named x.1) (section_after numbers n kind parts w ts)
unfolding section_after
kept-section numbers n most kind parts w ts le p h =
    either (is_word (codes "DIMENSIONS") w) _ _ (λ _. kept-corners numbers most kind parts w ts p h) (λ _.
    either (is_word (codes "IOLIST") w) _ _ (λ _. kept-lines numbers n most kind parts w ts le p h) (λ _.
    either (is_word (codes "NETWORK") w) _ _ (λ _. kept-calls n most kind parts w ts le p h) (λ _.
    next (passed_after w ts) _ (kept-passed w ts h) (λ rest k. ok (parts, rest) (p, k)))))

-- all sections of a module; the last of the n is its end
kept-sections : (numbers : Numbers) (n most : ℕ) (kind : Kind) (parts : Parts) (ts : List Token) → n ≤ suc most → IsParts most kind parts → Named ts
    → Keeps (λ x. IsParts most kind x.0 × Named x.1) (sections numbers n kind parts ts)
unfolding sections
kept-sections numbers zero most kind parts ts le p h = err _
kept-sections numbers (suc n) most kind parts ts le p h =
    next (a_word (statement ts)) _ (kept-word (statement ts) (kept-statement ts h)) (λ first k.
    either (is_word (codes "ENDMODULE") first.0) _ _
    (λ _. next (an_end first.1) _ (kept-end first.1 k.1) (λ rest kr. ok (parts, rest) (p, kr)))
    (λ _. next (section_after numbers n kind parts first.0 first.1) _ (kept-section numbers n most kind parts first.0 first.1 (omega (arith, le)) p k.1) (λ onward j.
    kept-sections numbers n most kind onward.0 onward.1 (omega (arith, le)) j.0 j.1)))

-- a module without sections
parts-none : (most : ℕ) (kind : Kind) → IsParts most kind no_parts
parts-none most kind = record { corners = tt; lines = record { each = tt; few = omega arith }; calls = record { are = no-calls; few = omega arith } }

-- a module's name is none of those before
kept-heading : (names : List (List ℕ)) (ts : List Token) → Named ts → Keeps (λ x. IsName x.0.0.text × (is_among names x.0.0.text ≡ false) × Named x.1) (heading names ts)
unfolding heading
kept-heading names ts h =
    next (the_word (codes "MODULE") ts) _ (kept-keyword (codes "MODULE") ts h) (λ opened ko.
    next (a_word opened) _ (kept-word opened ko) (λ name kn.
    next (unless_taken names name.0 (an_end name.1)) _ (free-end name kn.1) (λ named kf.
    next (the_word (codes "TYPE") (statement named)) _ (kept-keyword (codes "TYPE") (statement named) (kept-statement named kf.1)) (λ typed kt.
    next (a_kind typed) _ (kept-kind typed kt) (λ kind kk.
    next (an_end kind.1) _ (kept-end kind.1 kk) (λ rest kr.
    ok ((name.0, kind.0), rest) (kn.0, kf.0, kr)))))))
  where
    free-end : (name : Spelled × List Token) → Named name.1 → Keeps (λ rest. (is_among names name.0.text ≡ false) × Named rest) (unless_taken names name.0 (an_end name.1))
    free-end name k = either (is_among names name.0.text) _ _ (λ _. err _) (λ free. weaker (an_end name.1) (kept-end name.1 k) (λ rest kr. (free, kr)))

-- a module, with at most so many lines and calls
pub record IsRead (most : ℕ) (m : Module) : Type 0 where
  pub kept : IsKeptModule m
  pub spots : AllByRecursion (HasSpotWhereDue m.kind) m.lines
  pub short : IsShort most m

-- one half of what each line has
lines-kept : (kind : Kind) (lines : List Line) → AllByRecursion (IsLine kind) lines → AllByRecursion (IsKeptLine kind) lines
lines-kept kind [] h = tt
lines-kept kind (l ∷ ls) h = (h.0.kept, lines-kept kind ls h.1)

-- the other half
lines-spots : (kind : Kind) (lines : List Line) → AllByRecursion (IsLine kind) lines → AllByRecursion (HasSpotWhereDue kind) lines
lines-spots kind [] h = tt
lines-spots kind (l ∷ ls) h = (h.0.spot, lines-spots kind ls h.1)

-- a module of such parts
module-read : (most : ℕ) (name : List ℕ) (kind : Kind) (parts : Parts) → IsName name → IsParts most kind parts → IsRead most (module_of name kind parts)
module-read most name kind parts is p = record {
  kept = record { name = is; corners = p.corners; lines = lines-kept kind (items_of parts.lines) p.lines.each; calls = p.calls.are.each; distinct = p.calls.are.distinct };
  spots = lines-spots kind (items_of parts.lines) p.lines.each;
  short = record { lines = p.lines.few; calls = p.calls.few };
}

-- one module, whose name is new
kept-module : (numbers : Numbers) (n most : ℕ) (names : List (List ℕ)) (ts : List Token) → n ≤ suc most → Named ts
    → Keeps (λ x. IsRead most x.0 × (is_among names x.0.name ≡ false) × Named x.1) (a_module numbers n names ts)
unfolding a_module
kept-module numbers n most names ts le h =
    next (heading names ts) _ (kept-heading names ts h) (λ head kh.
    next (sections numbers n head.0.1 no_parts head.1) _ (kept-sections numbers n most head.0.1 no_parts head.1 le (parts-none most head.0.1) kh.2) (λ parts kp.
    ok (module_of head.0.0.text head.0.1 parts.0, parts.1) (module-read most head.0.0.text head.0.1 parts.0 kh.0 kp.0, kh.1, kp.1)))

-- modules whose names are all different
pub record AreModules (most : ℕ) (modules : List Module) : Type 0 where
  pub each : AllByRecursion (IsRead most) modules
  pub distinct : IsDistinct bytes_eq (module_names modules)

-- one more module
modules-push : (most : ℕ) (before : List Module) (m : Module) → AreModules most before → IsRead most m → is_among (module_names before) m.name ≡ false → AreModules most (before ++ m ∷ [])
modules-push most before m h is free = record {
  each = every-push (IsRead most) before m h.each is;
  distinct = rw (module_names-push before m) (IsDistinct-push nat_list_eq_equiv (module_names before) m.name h.distinct free);
}

-- all modules of a file; the last of the n is its end
kept-modules : (numbers : Numbers) (n most : ℕ) (before : List Module) (ts : List Token) → n ≤ suc most → AreModules most before → Named ts
    → Keeps (λ found. AreModules most found × (length found < length before + n)) (modules numbers n before ts)
unfolding modules
kept-modules numbers zero most before ts le are h = err _
kept-modules numbers (suc n) most before ts le are h =
    either (is_empty (statement ts)) _ _ (λ _. ok before (are, omega arith)) (λ _.
    next (a_module numbers (suc n) (module_names before) (statement ts)) _ (kept-module numbers (suc n) most (module_names before) (statement ts) le (kept-statement ts h)) (λ one k.
    weaker (modules numbers n (before ++ one.0 ∷ []) one.1)
    (kept-modules numbers n most (before ++ one.0 ∷ []) one.1 (omega (arith, le)) (modules-push most before one.0 are k.0 k.1) k.2)
    (λ found i. (i.0, omega (arith, i.1, length-append before (one.0 ∷ []))))))

-- the first part of what each module has
each-kept : (most : ℕ) (modules : List Module) → AllByRecursion (IsRead most) modules → AllByRecursion IsKeptModule modules
each-kept most [] h = tt
each-kept most (m ∷ ms) h = (h.0.kept, each-kept most ms h.1)

-- the second
each-spots : (most : ℕ) (modules : List Module) → AllByRecursion (IsRead most) modules → AllByRecursion (λ (m : Module). AllByRecursion (HasSpotWhereDue m.kind) m.lines) modules
each-spots most [] h = tt
each-spots most (m ∷ ms) h = (h.0.spots, each-spots most ms h.1)

-- the third
each-short : (most : ℕ) (modules : List Module) → AllByRecursion (IsRead most) modules → AllByRecursion (IsShort most) modules
each-short most [] h = tt
each-short most (m ∷ ms) h = (h.0.short, each-short most ms h.1)

-- a file without modules
no-modules : (most : ℕ) → AreModules most []
unfolding IsDistinct
no-modules most = record { each = tt; distinct = tt }

-- what a file that was read has, at most so many of each list
abbrev pub IsReadFile : ℕ → YalFile → Type 0
IsReadFile most file = IsKept file × HasSpots file × HasAtMost most file

-- a file of such modules
file-kept : (most : ℕ) (found : List Module) → AreModules most found → length found ≤ most → IsReadFile most (record { modules = found })
file-kept most found are few = (
  record { modules = each-kept most found are.each; distinct = are.distinct },
  record { each = each-spots most found are.each },
  record { modules = few; each = each-short most found are.each },
)

-- what a text gives
kept-file_of : (bytes : List ℕ) (numbers : Numbers) → Keeps (IsReadFile (length bytes)) (file_of bytes numbers)
unfolding file_of
kept-file_of bytes numbers =
    next (ascii bytes) _ (ascii-plain bytes) (λ _ plain.
    next (uncommented None bytes) _ (uncommented-kept None bytes plain) (λ text k.
    next (modules numbers (suc (length text)) [] (tokens text)) _
    (kept-modules numbers (suc (length text)) (length bytes) [] (tokens text) (omega (arith, k.1)) (no-modules (length bytes)) (tokens-named text k.0)) (λ found j.
    ok (record { modules = found }) (file-kept (length bytes) found j.0 (omega (arith, k.1, j.1))))))

-- what a reading gives has what the reading keeps
kept-value : (P : YalFile → Type 0) (r : Result YalFile Flaw) (file : YalFile) → Keeps P r → r ≡ Ok file → P file
kept-value P (Ok f) file h is = let e : f ≡ file = cc in subst P e h.holds
kept-value P (Err e) file h is = absurd (apart is)
  where
    apart : ◌≡◌ {A = Result YalFile Flaw} (Err e) (Ok file) → ⊥
    apart is = cc

-- what a text reads as keeps what every file has
pub reads-kept : (bytes : List ℕ) (numbers : Numbers) (file : YalFile) → file_of bytes numbers ≡ Ok file → IsReadFile (length bytes) file
reads-kept bytes numbers file is = kept-value (IsReadFile (length bytes)) (file_of bytes numbers) file (kept-file_of bytes numbers) is
