use Rattle.std.proofs.Common.{◌≡◌, ℕ, zero, suc, ◌+◌, ◌<◌, ◌≤◌, Bool, true, false, List, [], ◌∷◌, ◌++◌, refl, sym, ap, subst, ◌∙◌, None, Some, is_some, Result, Ok, Err, codes, arith}
use Rattle.read_base.specs.Steps.{◌>>=◌}
use Rattle.yal_reader.specs.Flaws.{Flaw}
use Rattle.yal_reader.specs.Kept.{call_names, has_spot, is_parent, is_standard, module_names}
use Rattle.yal_reader.specs.Lists.{a_spot, call_after, calls_of, io_list, is_among, items_until, keeps_lines, line_after, lines_of, network, spot_after, unless_taken, without_items}
use Rattle.yal_reader.specs.Numbers.{a_number}
use Rattle.yal_reader.specs.Sections.{calls_after, corners_after, dimensions, lines_after, no_parts, passed_after, passed_until, passes_words, section_after, sections}
use Rattle.yal_reader.specs.Tokens.{Spelled, Token, word, semicolon}
use Rattle.yal_reader.specs.Words.{a_flow, a_kind, a_word, after_stop, an_end, is_empty, is_word, past_words, spells, statement, the_word, words}
use Rattle.yal_reader.specs.YalReads.{a_module, heading, module_of, modules}
use Rattle.yal_reader.specs.declared.file.Flow.{Flow}
use Rattle.yal_reader.specs.declared.file.Kind.{Kind}
use Rattle.yal_reader.specs.declared.file.Module.{Module}
use Rattle.yal_reader.specs.declared.notation.Numbers.{Numbers}
use Rattle.yal_writer.proofs.Alike.{Alike, Follows, Same, either, given, next, none, ok}
use Rattle.yal_writer.proofs.FollowWords.{no-statement, same-end, same-first, same-flow, same-keyword, same-kind, same-number, same-numbers, same-past, same-statement, same-stop, same-word, same-words}

-- a spot, and a line
same-spot : (tail : List Token) (numbers : Numbers) (ts us : List Token) → Alike tail ts us → Follows (Same tail) (a_spot numbers ts) (a_spot numbers us)
unfolding a_spot
same-spot tail numbers ts us h =
    next (a_number numbers ts) (a_number numbers us) _ _ (same-number tail numbers ts us h) (λ x x' qx.
    next (a_number numbers x.1) (a_number numbers x'.1) _ _ (same-number tail numbers x.1 x'.1 qx.1) (λ y y' qy.
    next (a_word y.1) (a_word y'.1) _ _ (same-word tail y.1 y'.1 qy.1) (λ w w' qw.
    next (a_word w.1) (a_word w'.1) _ _ (same-word tail w.1 w'.1 qw.1) (λ l l' ql.
    ok (record { x = x.0; y = y.0; layer = l.0.text }, l.1) (record { x = x'.0; y = y'.0; layer = l'.0.text }, l'.1) (rw (qx.0, qy.0, ql.0) refl, ql.1)))))

same-spot_after : (tail : List Token) (numbers : Numbers) (kind : Kind) (flow flow' : Flow) (ts us : List Token) → flow ≡ flow' → Alike tail ts us
    → Follows (Same tail) (spot_after numbers kind flow ts) (spot_after numbers kind flow' us)
unfolding spot_after
same-spot_after tail numbers kind flow flow' ts us e h =
    either (has_spot kind flow) (has_spot kind flow') _ _ _ _ (ap (has_spot kind) e)
    (next (a_spot numbers ts) (a_spot numbers us) _ _ (same-spot tail numbers ts us h) (λ x y q. ok (Some x.0, x.1) (Some y.0, y.1) (rw q.0 refl, q.1)))
    (ok (None, ts) (None, us) (refl, h))

same-line : (tail : List Token) (numbers : Numbers) (kind : Kind) (w v : Spelled) (ts us : List Token) → w.text ≡ v.text → Alike tail ts us
    → Follows (Same tail) (line_after numbers kind w ts) (line_after numbers kind v us)
unfolding line_after
same-line tail numbers kind w v ts us e h =
    next (a_flow ts) (a_flow us) _ _ (same-flow tail ts us h) (λ f f' qf.
    next (spot_after numbers kind f.0 f.1) (spot_after numbers kind f'.0 f'.1) _ _ (same-spot_after tail numbers kind f.0 f'.0 f.1 f'.1 qf.0 qf.1) (λ s s' qs.
    next (past_words s.1) (past_words s'.1) _ _ (same-past tail s.1 s'.1 qs.1) (λ r r' qr.
    ok (record { name = w.text; flow = f.0; spot = s.0 }, r) (record { name = v.text; flow = f'.0; spot = s'.0 }, r') (rw (e, qf.0, qs.0) refl, qr))))

-- items up to a keyword, with as much fuel or more
same-items : {A : Type 0} (tail : List Token) (keyword : List ℕ) (item : List A → Spelled → List Token → Result (A × List Token) Flaw) (n m : ℕ) (before before' : List A) (ts us : List Token)
    → ((found : List A) (w v : Spelled) (xs ys : List Token) → w.text ≡ v.text → Alike tail xs ys → Follows (Same tail) (item found w xs) (item found v ys))
    → n ≤ m → before ≡ before' → Alike tail ts us → Follows (Same tail) (items_until keyword item n before ts) (items_until keyword item m before' us)
unfolding items_until
same-items tail keyword item zero m before before' ts us each le e h = none _ _
same-items tail keyword item (suc n) zero before before' ts us each le e h = absurd (omega (arith, le))
same-items tail keyword item (suc n) (suc m) before before' ts us each le e h =
    next (a_word (statement ts)) (a_word (statement us)) _ _ (same-first tail ts us h) (λ f f' qf.
    either (is_word keyword f.0) (is_word keyword f'.0) _ _ _ _ (ap (spells keyword) qf.0)
    (ok (before, f.1) (before', f'.1) (e, qf.1))
    (subst (λ found. Follows (Same tail) (item before f.0 f.1 >>= λ one. items_until keyword item n (before ++ one.0 ∷ []) one.1) (item found f'.0 f'.1 >>= λ one. items_until keyword item m (found ++ one.0 ∷ []) one.1)) e
    (next (item before f.0 f.1) (item before f'.0 f'.1) _ _ (each before f.0 f'.0 f.1 f'.1 qf.0 qf.1) (λ x y q.
    same-items tail keyword item n m (before ++ x.0 ∷ []) (before ++ y.0 ∷ []) x.1 y.1 each (omega (arith, le)) (ap (λ z. before ++ z ∷ []) q.0) q.1))))

-- items that are passed over
same-passed : {A : Type 0} (tail : List Token) (r s : Result (List Token) Flaw) → Follows (Alike tail) r s → Follows (Same {A = List A} tail) (without_items r) (without_items s)
same-passed tail r s h = next r s _ _ h (λ x y q. ok ([], x) ([], y) (refl, q))

-- IOLIST
same-lines_of : (tail : List Token) (numbers : Numbers) (n m : ℕ) (kind : Kind) (ts us : List Token) → n ≤ m → Alike tail ts us
    → Follows (Same tail) (lines_of numbers n kind ts) (lines_of numbers m kind us)
unfolding lines_of
same-lines_of tail numbers n m kind ts us le h = either (keeps_lines kind) (keeps_lines kind) _ _ _ _ refl
    (same-items tail (codes "ENDIOLIST") (λ _. line_after numbers kind) n m [] [] ts us (λ _ w v xs ys e k. same-line tail numbers kind w v xs ys e k) le refl h)
    (same-passed tail _ _ (same-stop tail (codes "ENDIOLIST") true ts us h))

same-io_list : (tail : List Token) (numbers : Numbers) (n m : ℕ) (kind : Kind) (ts us : List Token) → n ≤ m → Alike tail ts us
    → Follows (Same tail) (io_list numbers n kind ts) (io_list numbers m kind us)
unfolding io_list
same-io_list tail numbers n m kind ts us le h =
    next (an_end ts) (an_end us) _ _ (same-end tail ts us h) (λ o o' qo.
    next (lines_of numbers n kind o) (lines_of numbers m kind o') _ _ (same-lines_of tail numbers n m kind o o' le qo) (λ f f' qf.
    next (an_end f.1) (an_end f'.1) _ _ (same-end tail f.1 f'.1 qf.1) (λ r r' qr.
    ok (f.0, r) (f'.0, r') (qf.0, qr))))

-- NETWORK
same-call : (tail : List Token) (names : List (List ℕ)) (w v : Spelled) (ts us : List Token) → w.text ≡ v.text → Alike tail ts us
    → Follows (Same tail) (call_after names w ts) (call_after names v us)
unfolding call_after
same-call tail names w v ts us e h = either (is_among names w.text) (is_among names v.text) _ _ _ _ (ap (is_among names) e) (none _ _)
    (next (a_word ts) (a_word us) _ _ (same-word tail ts us h) (λ k k' qk.
    next (words k.1) (words k'.1) _ _ (same-words tail k.1 k'.1 qk.1) (λ s s' qs.
    ok (record { name = w.text; «module» = k.0.text; signals = s.0 }, s.1) (record { name = v.text; «module» = k'.0.text; signals = s'.0 }, s'.1) (rw (e, qk.0, qs.0) refl, qs.1))))

same-calls_of : (tail : List Token) (n m : ℕ) (kind : Kind) (ts us : List Token) → n ≤ m → Alike tail ts us → Follows (Same tail) (calls_of n kind ts) (calls_of m kind us)
unfolding calls_of
same-calls_of tail n m kind ts us le h = either (is_parent kind) (is_parent kind) _ _ _ _ refl
    (same-items tail (codes "ENDNETWORK") (λ calls. call_after (call_names calls)) n m [] [] ts us (λ found w v xs ys e k. same-call tail (call_names found) w v xs ys e k) le refl h)
    (same-passed tail _ _ (same-stop tail (codes "ENDNETWORK") true ts us h))

same-network : (tail : List Token) (n m : ℕ) (kind : Kind) (ts us : List Token) → n ≤ m → Alike tail ts us → Follows (Same tail) (network n kind ts) (network m kind us)
unfolding network
same-network tail n m kind ts us le h =
    next (an_end ts) (an_end us) _ _ (same-end tail ts us h) (λ o o' qo.
    next (calls_of n kind o) (calls_of m kind o') _ _ (same-calls_of tail n m kind o o' le qo) (λ f f' qf.
    next (an_end f.1) (an_end f'.1) _ _ (same-end tail f.1 f'.1 qf.1) (λ r r' qr.
    ok (f.0, r) (f'.0, r') (qf.0, qr))))

-- sections
same-dimensions : (tail : List Token) (numbers : Numbers) (kind : Kind) (ts us : List Token) → Alike tail ts us → Follows (Same tail) (dimensions numbers kind ts) (dimensions numbers kind us)
unfolding dimensions
same-dimensions tail numbers kind ts us h = either (is_standard kind) (is_standard kind) _ _ _ _ refl (same-numbers tail numbers ts us h) (same-passed tail _ _ (same-past tail ts us h))

same-corners_after : (tail : List Token) (numbers : Numbers) (kind : Kind) (p : _) (w v : Spelled) (ts us : List Token) → Alike tail ts us
    → Follows (Same tail) (corners_after numbers kind p w ts) (corners_after numbers kind p v us)
unfolding corners_after
same-corners_after tail numbers kind p w v ts us h = either (is_some p.corners) (is_some p.corners) _ _ _ _ refl (none _ _)
    (next (dimensions numbers kind ts) (dimensions numbers kind us) _ _ (same-dimensions tail numbers kind ts us h) (λ x y q.
    ok (record p { corners = Some x.0 }, x.1) (record p { corners = Some y.0 }, y.1) (rw q.0 refl, q.1)))

same-lines_after : (tail : List Token) (numbers : Numbers) (n m : ℕ) (kind : Kind) (p : _) (w v : Spelled) (ts us : List Token) → n ≤ m → Alike tail ts us
    → Follows (Same tail) (lines_after numbers n kind p w ts) (lines_after numbers m kind p v us)
unfolding lines_after
same-lines_after tail numbers n m kind p w v ts us le h = either (is_some p.lines) (is_some p.lines) _ _ _ _ refl (none _ _)
    (next (io_list numbers n kind ts) (io_list numbers m kind us) _ _ (same-io_list tail numbers n m kind ts us le h) (λ x y q.
    ok (record p { lines = Some x.0 }, x.1) (record p { lines = Some y.0 }, y.1) (rw q.0 refl, q.1)))

same-calls_after : (tail : List Token) (n m : ℕ) (kind : Kind) (p : _) (w v : Spelled) (ts us : List Token) → n ≤ m → Alike tail ts us
    → Follows (Same tail) (calls_after n kind p w ts) (calls_after m kind p v us)
unfolding calls_after
same-calls_after tail n m kind p w v ts us le h = either (is_some p.calls) (is_some p.calls) _ _ _ _ refl (none _ _)
    (next (network n kind ts) (network m kind us) _ _ (same-network tail n m kind ts us le h) (λ x y q.
    ok (record p { calls = Some x.0 }, x.1) (record p { calls = Some y.0 }, y.1) (rw q.0 refl, q.1)))

same-until : (tail : List Token) (keyword : List ℕ) (ts us : List Token) → Alike tail ts us → Follows (Alike tail) (passed_until keyword ts) (passed_until keyword us)
unfolding passed_until
same-until tail keyword ts us h =
    next (past_words ts) (past_words us) _ _ (same-past tail ts us h) (λ r r' qr.
    next (after_stop keyword true r) (after_stop keyword true r') _ _ (same-stop tail keyword true r r' qr) (λ s s' qs.
    same-end tail s s' qs))

same-passed_after : (tail : List Token) (w v : Spelled) (ts us : List Token) → w.text ≡ v.text → Alike tail ts us → Follows (Alike tail) (passed_after w ts) (passed_after v us)
unfolding passed_after
same-passed_after tail w v ts us e h =
    either (passes_words w.text) (passes_words v.text) _ _ _ _ (ap passes_words e) (same-past tail ts us h)
    (either (is_word (codes "PLACEMENT") w) (is_word (codes "PLACEMENT") v) _ _ _ _ (ap (spells (codes "PLACEMENT")) e) (same-until tail (codes "ENDPLACEMENT") ts us h)
    (either (is_word (codes "CRITICALNETS") w) (is_word (codes "CRITICALNETS") v) _ _ _ _ (ap (spells (codes "CRITICALNETS")) e) (same-until tail (codes "ENDCRITICALNETS") ts us h)
    (none _ _)))

same-section : (tail : List Token) (numbers : Numbers) (n m : ℕ) (kind : Kind) (p : _) (w v : Spelled) (ts us : List Token) → n ≤ m → w.text ≡ v.text → Alike tail ts us
    → Follows (Same tail) (section_after numbers n kind p w ts) (section_after numbers m kind p v us)
unfolding section_after
same-section tail numbers n m kind p w v ts us le e h =
    either (is_word (codes "DIMENSIONS") w) (is_word (codes "DIMENSIONS") v) _ _ _ _ (ap (spells (codes "DIMENSIONS")) e) (same-corners_after tail numbers kind p w v ts us h)
    (either (is_word (codes "IOLIST") w) (is_word (codes "IOLIST") v) _ _ _ _ (ap (spells (codes "IOLIST")) e) (same-lines_after tail numbers n m kind p w v ts us le h)
    (either (is_word (codes "NETWORK") w) (is_word (codes "NETWORK") v) _ _ _ _ (ap (spells (codes "NETWORK")) e) (same-calls_after tail n m kind p w v ts us le h)
    (next (passed_after w ts) (passed_after v us) _ _ (same-passed_after tail w v ts us e h) (λ r r' q. ok (p, r) (p, r') (refl, q)))))

same-sections : (tail : List Token) (numbers : Numbers) (n m : ℕ) (kind : Kind) (p p' : _) (ts us : List Token) → n ≤ m → p ≡ p' → Alike tail ts us
    → Follows (Same tail) (sections numbers n kind p ts) (sections numbers m kind p' us)
unfolding sections
same-sections tail numbers zero m kind p p' ts us le e h = none _ _
same-sections tail numbers (suc n) zero kind p p' ts us le e h = absurd (omega (arith, le))
same-sections tail numbers (suc n) (suc m) kind p p' ts us le e h =
    next (a_word (statement ts)) (a_word (statement us)) _ _ (same-first tail ts us h) (λ f f' qf.
    either (is_word (codes "ENDMODULE") f.0) (is_word (codes "ENDMODULE") f'.0) _ _ _ _ (ap (spells (codes "ENDMODULE")) qf.0)
    (next (an_end f.1) (an_end f'.1) _ _ (same-end tail f.1 f'.1 qf.1) (λ r r' qr. ok (p, r) (p', r') (e, qr)))
    (subst (λ q. Follows (Same tail) (section_after numbers n kind p f.0 f.1 >>= λ more. sections numbers n kind more.0 more.1) (section_after numbers m kind q f'.0 f'.1 >>= λ more. sections numbers m kind more.0 more.1)) e
    (next (section_after numbers n kind p f.0 f.1) (section_after numbers m kind p f'.0 f'.1) _ _ (same-section tail numbers n m kind p f.0 f'.0 f.1 f'.1 (omega (arith, le)) qf.0 qf.1) (λ x y q.
    same-sections tail numbers n m kind x.0 y.0 x.1 y.1 (omega (arith, le)) q.0 q.1))))

-- a keyword at the next statement
same-type : (tail : List Token) (keyword : List ℕ) (ts us : List Token) → Alike tail ts us → Follows (Alike tail) (the_word keyword (statement ts)) (the_word keyword (statement us))
unfolding the_word
same-type tail keyword ts us h = by (is_empty (statement ts)) refl
  where
    empty : (xs : List Token) → is_empty xs ≡ true → Follows (Alike tail) (the_word keyword xs) (the_word keyword (statement us))
    empty [] is = none _ _
    empty (t ∷ xs) is = cc

    by : (b : Bool) → is_empty (statement ts) ≡ b → Follows (Alike tail) (the_word keyword (statement ts)) (the_word keyword (statement us))
    by true is = empty (statement ts) is
    by false is = same-keyword tail keyword (statement ts) (statement us) (same-statement tail ts us is h)

-- a heading
abbrev SameHeading : List Token → (Spelled × Kind) × List Token → (Spelled × Kind) × List Token → Type 0
SameHeading tail x y = (x.0.0.text ≡ y.0.0.text) × (x.0.1 ≡ y.0.1) × Alike tail x.1 y.1

same-heading : (tail : List Token) (names : List (List ℕ)) (ts us : List Token) → Alike tail ts us → Follows (SameHeading tail) (heading names ts) (heading names us)
unfolding heading
same-heading tail names ts us h =
    next (the_word (codes "MODULE") ts) (the_word (codes "MODULE") us) _ _ (same-keyword tail (codes "MODULE") ts us h) (λ o o' qo.
    next (a_word o) (a_word o') _ _ (same-word tail o o' qo) (λ n n' qn.
    next (unless_taken names n.0 (an_end n.1)) (unless_taken names n'.0 (an_end n'.1)) _ _
    (either (is_among names n.0.text) (is_among names n'.0.text) _ _ _ _ (ap (is_among names) qn.0) (none _ _) (same-end tail n.1 n'.1 qn.1)) (λ e e' qe.
    next (the_word (codes "TYPE") (statement e)) (the_word (codes "TYPE") (statement e')) _ _ (same-type tail (codes "TYPE") e e' qe) (λ t t' qt.
    next (a_kind t) (a_kind t') _ _ (same-kind tail t t' qt) (λ k k' qk.
    next (an_end k.1) (an_end k'.1) _ _ (same-end tail k.1 k'.1 qk.1) (λ r r' qr.
    ok ((n.0, k.0), r) ((n'.0, k'.0), r') (qn.0, qk.0, qr)))))))

-- a module
pub same-module : (tail : List Token) (numbers : Numbers) (n m : ℕ) (names : List (List ℕ)) (ts us : List Token) → n ≤ m → Alike tail ts us
    → Follows (Same tail) (a_module numbers n names ts) (a_module numbers m names us)
unfolding a_module
same-module tail numbers n m names ts us le h =
    next (heading names ts) (heading names us) _ _ (same-heading tail names ts us h) (λ x y q.
    next (sections numbers n x.0.1 no_parts x.1) (sections numbers m y.0.1 no_parts y.1) _ _
    (subst (λ k. Follows (Same tail) (sections numbers n x.0.1 no_parts x.1) (sections numbers m k no_parts y.1)) q.1
    (same-sections tail numbers n m x.0.1 no_parts no_parts x.1 y.1 le refl q.2)) (λ p p' qp.
    ok (module_of x.0.0.text x.0.1 p.0, p.1) (module_of y.0.0.text y.0.1 p'.0, p'.1) (rw (q.0, q.1, qp.0) refl, qp.1)))

-- reading on behind the modules of the first tokens
pub record Onward (numbers : Numbers) (tail us : List Token) (n m : ℕ) (before found : List Module) : Type 0 where
  pub fuel : ℕ
  pub enough : m < fuel + n
  pub same : modules numbers m before us ≡ modules numbers fuel found tail

-- modules depend on the next statement alone
modules-at : (numbers : Numbers) (m : ℕ) (before : List Module) (xs ys : List Token) → statement xs ≡ statement ys → modules numbers (suc m) before xs ≡ modules numbers (suc m) before ys
unfolding modules
modules-at numbers m before xs ys e = rw e refl

-- one module more
pub modules-step : (numbers : Numbers) (m : ℕ) (before : List Module) (us : List Token) (y : Module × List Token) → is_empty (statement us) ≡ false
    → a_module numbers (suc m) (module_names before) (statement us) ≡ Ok y → modules numbers (suc m) before us ≡ modules numbers m (before ++ y.0 ∷ []) y.1
unfolding modules
modules-step numbers m before us y some is = rw (some, is) refl

-- tokens that say something are some
pub says-some : (tail ts us : List Token) → is_empty ts ≡ false → Alike tail ts us → is_empty us ≡ false
says-some tail [] us some h = cc
says-some tail (word w ∷ ts) [] some h = absurd h.says
says-some tail (word w ∷ ts) (u ∷ us) some h = refl
says-some tail (semicolon l ∷ ts) [] some h = absurd h.says
says-some tail (semicolon l ∷ ts) (u ∷ us) some h = refl

-- where the first tokens are modules to their end, the second are so up to their tail
pub modules-onward : (numbers : Numbers) (tail : List Token) (n m : ℕ) (before found : List Module) (ts us : List Token) → n ≤ m → Alike tail ts us
    → modules numbers n before ts ≡ Ok found → Onward numbers tail us n m before found
unfolding modules
modules-onward numbers tail zero m before found ts us le h is = let never : ⊥ = cc in absurd never
modules-onward numbers tail (suc n) zero before found ts us le h is = absurd (omega (arith, le))
modules-onward numbers tail (suc n) (suc m) before found ts us le h is = by (is_empty (statement ts)) refl (λ x y e alike rest. modules-onward numbers tail n m (before ++ x.0 ∷ []) found x.1 y.1 (omega (arith, le)) alike rest)
  where
    more : (r : Result (Module × List Token) Flaw) → a_module numbers (suc n) (module_names before) (statement ts) ≡ r → is_empty (statement ts) ≡ false
        → (r >>= λ one. modules numbers n (before ++ one.0 ∷ []) one.1) ≡ Ok found
        → ((x y : Module × List Token) → x.0 ≡ y.0 → Alike tail x.1 y.1 → modules numbers n (before ++ x.0 ∷ []) x.1 ≡ Ok found → Onward numbers tail y.1 n m (before ++ x.0 ∷ []) found)
        → Onward numbers tail us (suc n) (suc m) before found
    more (Err e) one some rest onward = let never : ⊥ = cc in absurd never
    more (Ok x) one some rest onward =
        let alike = same-statement tail ts us some h in
        let there = given (a_module numbers (suc n) (module_names before) (statement ts)) (a_module numbers (suc m) (module_names before) (statement us)) x
        (same-module tail numbers (suc n) (suc m) (module_names before) (statement ts) (statement us) le alike) one in
        let on = onward x there.0 there.2.0 there.2.1 rest in
        record {
          fuel = on.fuel;
          enough = omega (arith, on.enough);
          same = modules-step numbers m before us there.0 (says-some tail (statement ts) (statement us) some alike) there.1
              ∙ ap (λ z. modules numbers m (before ++ z ∷ []) there.0.1) (sym there.2.0) ∙ on.same;
        }

    by : (b : Bool) → is_empty (statement ts) ≡ b
        → ((x y : Module × List Token) → x.0 ≡ y.0 → Alike tail x.1 y.1 → modules numbers n (before ++ x.0 ∷ []) x.1 ≡ Ok found → Onward numbers tail y.1 n m (before ++ x.0 ∷ []) found)
        → Onward numbers tail us (suc n) (suc m) before found
    by true empty onward =
        let ended : before ≡ found = ended_at (rw empty at is) in
        record { fuel = suc m; enough = omega arith; same = modules-at numbers m before us tail (no-statement tail ts us empty h) ∙ ap (λ b. modules numbers (suc m) b tail) ended }
      where
        ended_at : ◌≡◌ {A = Result (List Module) Flaw} (Ok before) (Ok found) → before ≡ found
        ended_at e = cc
    by false some onward = more (a_module numbers (suc n) (module_names before) (statement ts)) refl some (rw some at is) onward
