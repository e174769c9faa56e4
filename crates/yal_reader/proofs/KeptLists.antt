use Rattle.std.proofs.Common.{◌≡◌, ℕ, zero, suc, ◌+◌, ◌≤◌, true, false, List, [], ◌∷◌, ◌++◌, length, sym, ◌∙◌, None, Some, IfSome, is_some, Result, arith, codes, length-append}
use Rattle.std.proofs.lemmas.Cmp.{nat_list_eq_equiv}
use Rattle.std.proofs.lemmas.Map.Keys.{IsDistinct-push}
use Rattle.std.specs.List.{AllByRecursion, IsDistinct}
use Rattle.std.specs.Str.{bytes_eq}
use Rattle.yal_reader.proofs.FuelLaws.{call_names-push}
use Rattle.yal_reader.proofs.KeptWords.{Keeps, Named, either, err, kept-end, kept-flow, kept-number, kept-past, kept-statement, kept-stop, kept-word, kept-words, next, ok, weaker}
use Rattle.geom_core.specs.Names.{IsName}
use Rattle.yal_reader.specs.Kept.{HasSpotWhereDue, IsKeptCall, IsKeptLine, IsKeptSpot, call_names, has_spot, is_parent}
use Rattle.yal_reader.specs.Lists.{a_spot, call_after, calls_of, calls_until, io_list, is_among, items_until, keeps_lines, line_after, lines_of, lines_until, network, spot_after}
use Rattle.yal_reader.specs.Numbers.{a_number}
use Rattle.yal_reader.specs.Tokens.{Spelled, Token}
use Rattle.yal_reader.specs.Words.{a_flow, a_word, after_stop, an_end, is_word, past_words, statement, words}
use Rattle.yal_reader.specs.declared.file.Call.{Call}
use Rattle.yal_reader.specs.declared.file.Flow.{Flow}
use Rattle.yal_reader.specs.declared.file.Kind.{Kind}
use Rattle.yal_reader.specs.declared.file.Line.{Line}
use Rattle.yal_reader.specs.declared.notation.Numbers.{Numbers}
use Rattle.yal_reader.specs.Flaws.{Flaw}
use Rattle.std_laws.proofs.Every.{every-push}

-- what a list of statements gives has P, if each item keeps it, and no more items than the fuel allows
pub kept-items : {A : Type 0} (P : List A → Type 0) (keyword : List ℕ) (item : List A → Spelled → List Token → Result (A × List Token) Flaw)
    → ((before : List A) (w : Spelled) (ts : List Token) → P before → IsName w.text → Named ts → Keeps (λ x. P (before ++ x.0 ∷ []) × Named x.1) (item before w ts))
    → (n : ℕ) (before : List A) (ts : List Token) → P before → Named ts → Keeps (λ x. P x.0 × (length x.0 ≤ length before + n) × Named x.1) (items_until keyword item n before ts)
unfolding items_until
kept-items P keyword item keeps zero before ts h named = err _
kept-items P keyword item keeps (suc n) before ts h named =
    next (a_word (statement ts)) _ (kept-word (statement ts) (kept-statement ts named)) (λ first k.
    either (is_word keyword first.0) _ _ (λ _. ok (before, first.1) (h, omega arith, k.1)) (λ _.
    next (item before first.0 first.1) _ (keeps before first.0 first.1 h k.0 k.1) (λ one j.
    weaker (items_until keyword item n (before ++ one.0 ∷ []) one.1) (kept-items P keyword item keeps n (before ++ one.0 ∷ []) one.1 j.0 j.1)
    (λ x i. (i.0, omega (arith, i.1, length-append before (one.0 ∷ [])), i.2)))))

-- a spot is near, and its layer is a name
pub kept-spot : (numbers : Numbers) (ts : List Token) → Named ts → Keeps (λ x. IsKeptSpot x.0 × Named x.1) (a_spot numbers ts)
unfolding a_spot
kept-spot numbers ts h =
    next (a_number numbers ts) _ (kept-number numbers ts h) (λ x kx.
    next (a_number numbers x.1) _ (kept-number numbers x.1 kx.1) (λ y ky.
    next (a_word y.1) _ (kept-word y.1 ky.1) (λ width kw.
    next (a_word width.1) _ (kept-word width.1 kw.1) (λ layer kl.
    ok (record { x = x.0; y = y.0; layer = layer.0.text }, layer.1) (record { x = kx.0; y = ky.0; layer = kl.0 }, kl.1)))))

-- a line's spot stands just where it is due
pub kept-spot_after : (numbers : Numbers) (kind : Kind) (flow : Flow) (ts : List Token) → Named ts
    → Keeps (λ x. (is_some x.0 ≡ has_spot kind flow) × IfSome x.0 IsKeptSpot × Named x.1) (spot_after numbers kind flow ts)
unfolding spot_after
kept-spot_after numbers kind flow ts h = either (has_spot kind flow) _ _
    (λ is. next (a_spot numbers ts) _ (kept-spot numbers ts h) (λ x k. ok (Some x.0, x.1) (sym is, k.0, k.1)))
    (λ is. ok (None, ts) (sym is, tt, h))

-- a line that was read
pub record IsLine (kind : Kind) (l : Line) : Type 0 where
  pub kept : IsKeptLine kind l
  pub spot : HasSpotWhereDue kind l

-- a line of these parts
line-read : (kind : Kind) (l : Line) → IsName l.name → is_some l.spot ≡ has_spot kind l.flow → IfSome l.spot IsKeptSpot → IsLine kind l
line-read kind l is due near = record { kept = record { name = is; has = λ there. due ∙ there; spot = near }; spot = record { due = due } }

-- a line is of its kind
pub kept-line : (numbers : Numbers) (kind : Kind) (name : Spelled) (ts : List Token) → IsName name.text → Named ts → Keeps (λ x. IsLine kind x.0 × Named x.1) (line_after numbers kind name ts)
unfolding line_after
kept-line numbers kind name ts is h =
    next (a_flow ts) _ (kept-flow ts h) (λ flow kf.
    next (spot_after numbers kind flow.0 flow.1) _ (kept-spot_after numbers kind flow.0 flow.1 kf) (λ spot ks.
    next (past_words spot.1) _ (kept-past spot.1 ks.2) (λ rest kr.
    ok (record { name = name.text; flow = flow.0; spot = spot.0 }, rest) (line-read kind (record { name = name.text; flow = flow.0; spot = spot.0 }) is ks.0 ks.1, kr))))

-- the lines of a module, at most so many
pub record IsLines (most : ℕ) (kind : Kind) (lines : List Line) : Type 0 where
  pub each : AllByRecursion (IsLine kind) lines
  pub few : length lines ≤ most

-- the lines of a list
pub kept-lines_until : (numbers : Numbers) (n : ℕ) (kind : Kind) (ts : List Token) → Named ts → Keeps (λ x. IsLines n kind x.0 × Named x.1) (lines_until numbers kind n [] ts)
kept-lines_until numbers n kind ts h =
    weaker (lines_until numbers kind n [] ts)
    (kept-items (AllByRecursion (IsLine kind)) (codes "ENDIOLIST") (λ _. line_after numbers kind)
    (λ before w rest each is named. weaker (line_after numbers kind w rest) (kept-line numbers kind w rest is named) (λ x k. (every-push (IsLine kind) before x.0 each k.0, k.1))) n [] ts tt h)
    (λ x k. (record { each = k.0; few = omega (arith, k.1) }, k.2))

-- the lines of a list, or none
pub kept-lines_of : (numbers : Numbers) (n : ℕ) (kind : Kind) (ts : List Token) → Named ts → Keeps (λ x. IsLines n kind x.0 × Named x.1) (lines_of numbers n kind ts)
unfolding lines_of
kept-lines_of numbers n kind ts h = either (keeps_lines kind) _ _ (λ _. kept-lines_until numbers n kind ts h)
    (λ _. next (after_stop (codes "ENDIOLIST") true ts) _ (kept-stop (codes "ENDIOLIST") true ts h) (λ rest k. ok ([], rest) (record { each = tt; few = omega arith }, k)))

-- the lines of an IOLIST
pub kept-io_list : (numbers : Numbers) (n : ℕ) (kind : Kind) (ts : List Token) → Named ts → Keeps (λ x. IsLines n kind x.0 × Named x.1) (io_list numbers n kind ts)
unfolding io_list
kept-io_list numbers n kind ts h =
    next (an_end ts) _ (kept-end ts h) (λ opened ko.
    next (lines_of numbers n kind opened) _ (kept-lines_of numbers n kind opened ko) (λ found kf.
    next (an_end found.1) _ (kept-end found.1 kf.1) (λ rest kr.
    ok (found.0, rest) (kf.0, kr))))

-- calls whose names are all different
pub record AreCalls (calls : List Call) : Type 0 where
  pub each : AllByRecursion IsKeptCall calls
  pub distinct : IsDistinct bytes_eq (call_names calls)

-- a call's name is none of those before
pub kept-call : (names : List (List ℕ)) (name : Spelled) (ts : List Token) → IsName name.text → Named ts
    → Keeps (λ x. IsKeptCall x.0 × (is_among names x.0.name ≡ false) × Named x.1) (call_after names name ts)
unfolding call_after
kept-call names name ts is named =
    either (is_among names name.text) _ _ (λ _. err _) (λ free.
    next (a_word ts) _ (kept-word ts named) (λ kind kk.
    next (words kind.1) _ (kept-words kind.1 kk.1) (λ signals ks.
    ok (record { name = name.text; «module» = kind.0.text; signals = signals.0 }, signals.1) (record { name = is; kind = kk.0; signals = ks.0 }, free, ks.1))))

-- one more call
calls-push : (calls : List Call) (call : Call) → AreCalls calls → IsKeptCall call → is_among (call_names calls) call.name ≡ false → AreCalls (calls ++ call ∷ [])
calls-push calls call h is free = record {
  each = every-push IsKeptCall calls call h.each is;
  distinct = rw (call_names-push calls call) (IsDistinct-push nat_list_eq_equiv (call_names calls) call.name h.distinct free);
}

-- the calls of a module, at most so many
pub record IsCalls (most : ℕ) (calls : List Call) : Type 0 where
  pub are : AreCalls calls
  pub few : length calls ≤ most

-- no calls are different
pub no-calls : AreCalls []
unfolding IsDistinct
no-calls = record { each = tt; distinct = tt }

-- the calls of a list
pub kept-calls_until : (n : ℕ) (ts : List Token) → Named ts → Keeps (λ x. IsCalls n x.0 × Named x.1) (calls_until n [] ts)
kept-calls_until n ts h =
    weaker (calls_until n [] ts)
    (kept-items AreCalls (codes "ENDNETWORK") (λ calls. call_after (call_names calls))
    (λ before w rest are is named. weaker (call_after (call_names before) w rest) (kept-call (call_names before) w rest is named) (λ x k. (calls-push before x.0 are k.0 k.1, k.2))) n [] ts no-calls h)
    (λ x k. (record { are = k.0; few = omega (arith, k.1) }, k.2))

-- the calls of a list, or none
pub kept-calls_of : (n : ℕ) (kind : Kind) (ts : List Token) → Named ts → Keeps (λ x. IsCalls n x.0 × Named x.1) (calls_of n kind ts)
unfolding calls_of
kept-calls_of n kind ts h = either (is_parent kind) _ _ (λ _. kept-calls_until n ts h)
    (λ _. next (after_stop (codes "ENDNETWORK") true ts) _ (kept-stop (codes "ENDNETWORK") true ts h) (λ rest k. ok ([], rest) (record { are = no-calls; few = omega arith }, k)))

-- the calls of a NETWORK
pub kept-network : (n : ℕ) (kind : Kind) (ts : List Token) → Named ts → Keeps (λ x. IsCalls n x.0 × Named x.1) (network n kind ts)
unfolding network
kept-network n kind ts h =
    next (an_end ts) _ (kept-end ts h) (λ opened ko.
    next (calls_of n kind opened) _ (kept-calls_of n kind opened ko) (λ found kf.
    next (an_end found.1) _ (kept-end found.1 kf.1) (λ rest kr.
    ok (found.0, rest) (kf.0, kr))))
