use Rattle.std.proofs.Common.{◌+◌, ◌++◌, ◌∷◌, length, take, true, append_assoc, subst, ℕ, List, [], Bool, false, Option, Some, None, Result, Ok, Err, is_ok, refl, ap, sym, ◌≡◌, ◌∙◌}
use Rattle.std.proofs.lemmas.List.{append-nil}
use Rattle.std.specs.Prelude.{codes}
use Rattle.shelf_io.specs.Told.{Refines, appended}
use Rattle.shelf_io.specs.Lines.{line}
use Rattle.std.proofs.Math.Seq.{take-append-add}
use Rattle.shelf_io.specs.Count.{Still}
use Rattle.command_ends.specs.Gains.{Gains}
use Rattle.shelf_io.specs.Wrote.{Puts}
use Rattle.command_ends.proofs.Puts.{gained}
use Rattle.note_text.specs.Lines.{lines_text}
use Rattle.commands.specs.Noted.{IsTold, Noted, NotedSo}

-- the text of some lines was put, whole or not
pub noted-put : {T E : Type 0} (result : Result T E) (lines : List (List ℕ)) {before after : Option (List ℕ)} {old new : ℕ} {L : Type 0} {S : Bool → Type 0}
    → Puts result (lines_text lines) before after old new L S → Noted before after old new
noted-put result lines put = record { lines = lines; gains = gained result put }

-- nothing is appended
pub same-appended : (before : Option (List ℕ)) → appended before [] ≡ before
same-appended None = refl
same-appended (Some held) = ap Some (append-nil held)

-- nothing was put
gains-none : (before : Option (List ℕ)) (count : ℕ) → Gains [] before before count count
gains-none before count = record {
  front = λ held at. (0, same-appended before ∙ at);
  whole = λ still held at. same-appended before ∙ at;
}

pub noted-none : (before : Option (List ℕ)) (count : ℕ) → Noted before before count count
noted-none before count = record { lines = []; gains = gains-none before count }

-- lines, and then others
lines-append : (first second : List (List ℕ)) → lines_text (first ++ second) ≡ lines_text first ++ lines_text second
lines-append [] second = refl
lines-append (text ∷ more) second =
    ap (λ l. line (text ∷ []) ++ l) (lines-append more second) ∙ sym (append_assoc (line (text ∷ [])) (lines_text more) (lines_text second))

appended-twice : (before : Option (List ℕ)) (first second : List ℕ) → appended (appended before first) second ≡ appended before (first ++ second)
appended-twice None first second = refl
appended-twice (Some held) first second = ap Some (append_assoc held first second)

-- what a sink is told to hold behind a text that was put whole
behind : (before mid : Option (List ℕ)) (first more held : List ℕ) → Refines mid (appended before first) → appended mid more ≡ Some held
    → appended before (first ++ more) ≡ Some held
behind before None first more held whole at = absurd cc
behind before (Some m) first more held whole at =
    sym (appended-twice before first more) ∙ ap (λ (told : Option (List ℕ)). appended told more) (whole m refl) ∙ at

-- a text that was put whole, and then another
gains-both : (before mid after : Option (List ℕ)) (first second : List ℕ) (old between new : ℕ) → Refines mid (appended before first) → between ≡ old
    → Gains second mid after between new → Gains (first ++ second) before after old new
gains-both before mid after first second old between new whole calm gains = record {
  front = λ held at.
      let found = gains.front held at in
      (length first + found.0, ap (appended before) (take-append-add first second found.0) ∙ behind before mid first (take found.0 second) held whole found.1);
  whole = λ still held at.
      behind before mid first second held whole (gains.whole (subst (λ (count : ℕ). Still count new) (sym calm) still) held at);
}

noted-both : (before mid after : Option (List ℕ)) (old between new : ℕ) → NotedSo true before mid old between → Noted mid after between new → Noted before after old new
noted-both before mid after old between new first second = record {
  lines = first.lines ++ second.lines;
  gains = subst (λ (text : List ℕ). Gains text before after old new) (sym (lines-append first.lines second.lines))
      (gains-both before mid after (lines_text first.lines) (lines_text second.lines) old between new (first.whole refl) (first.calm refl) second.gains);
}

-- what was noted before and after, where nothing follows what could not be put whole
pub noted-run : {N : Type 0} (written : N → Option (List ℕ)) (faults : N → ℕ) (going : Bool) (x y z : N) → NotedSo going (written x) (written y) (faults x) (faults y)
    → (going ≡ false → z ≡ y) → Noted (written y) (written z) (faults y) (faults z) → Noted (written x) (written z) (faults x) (faults z)
noted-run written faults true x y z first silent second = noted-both _ _ _ _ _ _ first second
noted-run written faults false x y z first silent second =
    subst (λ n. Noted (written x) (written n) (faults x) (faults n)) (sym (silent refl)) (record { lines = first.lines; gains = first.gains })

-- the same, where more may follow what was noted first
pub so-then : (going : Bool) (before mid after : Option (List ℕ)) (old between new : ℕ) → NotedSo true before mid old between → NotedSo going mid after between new
    → NotedSo going before after old new
so-then going before mid after old between new first second =
    record {
      lines = first.lines ++ second.lines;
      gains = subst (λ (text : List ℕ). Gains text before after old new) (sym (lines-append first.lines second.lines))
          (gains-both before mid after (lines_text first.lines) (lines_text second.lines) old between new (first.whole refl) (first.calm refl) second.gains);
      whole = λ on held at.
          ap (appended before) (lines-append first.lines second.lines)
          ∙ behind before mid (lines_text first.lines) (lines_text second.lines) held (first.whole refl) (second.whole on held at);
      calm = λ on. second.calm on ∙ first.calm refl;
    }

-- nothing was put, and more may follow
pub so-none : (before : Option (List ℕ)) (count : ℕ) → NotedSo true before before count count
so-none before count = record {
  lines = [];
  gains = gains-none before count;
  whole = λ going held at. same-appended before ∙ at;
  calm = λ going. refl;
}

-- lines were put, whole or not
pub so-put : {T E : Type 0} (result : Result T E) (lines : List (List ℕ)) {before after : Option (List ℕ)} {old new : ℕ} {L : Type 0} {S : Bool → Type 0}
    → Puts result (lines_text lines) before after old new L S → NotedSo (is_ok result) before after old new
so-put (Ok done) lines put = record { lines = lines; gains = gained (Ok done) put; whole = λ going. put.ended.whole; calm = λ going. put.ended.quiet }
so-put (Err failed) lines put = record { lines = lines; gains = gained (Err failed) put; whole = λ going. absurd cc; calm = λ going. absurd cc }

-- words of a line behind one another, with blanks between them
joined : List ℕ → List (List ℕ) → List ℕ
joined word [] = word
joined word (next ∷ more) = word ++ codes " " ++ joined next more

-- a line of words is one of one word
line-joined : (word : List ℕ) (words : List (List ℕ)) → line (word ∷ words) ≡ line (joined word words ∷ [])
unfolding joined
line-joined word [] = refl
line-joined word (next ∷ more) =
    let front = word ++ codes " " in
    ap (λ (l : List ℕ). front ++ l) (line-joined next more)
    ∙ sym (append_assoc front (joined next more ++ codes "\n") [])
    ∙ ap (λ (l : List ℕ). l ++ []) (sym (append_assoc front (joined next more) (codes "\n")))

-- a line of words was put, whole or not
pub so-words : {T E : Type 0} (result : Result T E) (words : List (List ℕ)) {before after : Option (List ℕ)} {old new : ℕ} {L : Type 0} {S : Bool → Type 0}
    → Puts result (line words) before after old new L S → NotedSo (is_ok result) before after old new
so-words result [] put = so-put result [] put
so-words result (word ∷ words) {before = before} {after = after} {old = old} {new = new} {L = L} {S = S} put =
    so-put result (joined word words ∷ [])
    (subst (λ (text : List ℕ). Puts result text before after old new L S) (line-joined word words ∙ sym (append-nil (line (joined word words ∷ [])))) put)

-- a line was put where more might follow what was noted first, and more may follow or not
pub told-more : {N : Type 0} (written : N → Option (List ℕ)) (faults : N → ℕ) (from to : Bool) (x y : N) → from ≡ true
    → NotedSo to (written x) (written y) (faults x) (faults y) → (before : Option (List ℕ)) (count : ℕ) → NotedSo from before (written x) count (faults x)
    → NotedSo to before (written y) count (faults y)
told-more written faults from to x y on second before count first =
    so-then to before (written x) (written y) count (faults x) (faults y) (subst (λ (b : Bool). NotedSo b before (written x) count (faults x)) on first) second

-- a sink on which nothing was told
pub told-still : {N : Type 0} (written : N → Option (List ℕ)) (faults : N → ℕ) {L : Type 0} (wished going : Bool) (x : N) → L → IsTold written faults L wished wished going going x x
told-still written faults wished going x place = record { place = place; wish = refl; noted = λ before count first. first; unwished = λ none. refl }

-- one on which a line was put, where that was wished for and more might follow
pub told-line : {N : Type 0} (written : N → Option (List ℕ)) (faults : N → ℕ) {L : Type 0} (wished from to : Bool) (x y : N) → L → wished ≡ true → from ≡ true
    → NotedSo to (written x) (written y) (faults x) (faults y) → IsTold written faults L wished wished from to x y
told-line written faults wished from to x y place wish on put =
    record { place = place; wish = refl; noted = told-more written faults from to x y on put; unwished = λ none. absurd cc }

-- what was noted before a job, while it went on, and behind it, where nothing follows what could not be put whole
pub told-run : {N : Type 0} (written : N → Option (List ℕ)) (faults : N → ℕ) {L : Type 0} (wished wished_after forewarned from to going : Bool) (x y start mid end z : N)
    → NotedSo forewarned (written x) (written y) (faults x) (faults y) → start ≡ y → from ≡ forewarned → IsTold written faults L wished wished_after from to start mid → going ≡ to
    → (going ≡ false → z ≡ end) → Noted (written end) (written z) (faults end) (faults z) → end ≡ mid → Noted (written x) (written z) (faults x) (faults z)
told-run {N = N} written faults wished wished_after forewarned from to going x y start mid end z first begun same told is silent last left =
    let So : Bool → N → Type 0 = λ b n. NotedSo b (written x) (written n) (faults x) (faults n) in
    let before : So from start = subst (λ (b : Bool). So b start) (sym same) (subst (So forewarned) (sym begun) first) in
    noted-run written faults going x end z (subst (So going) (sym left) (subst (λ (b : Bool). So b mid) (sym is) (told.noted (written x) (faults x) before))) silent last

-- nothing was, where none was wished for
pub quiet-run : {N : Type 0} (written : N → Option (List ℕ)) (faults : N → ℕ) {L : Type 0} (wished wished_after from to : Bool) (x y start mid end z : N)
    → y ≡ x → start ≡ y → IsTold written faults L wished wished_after from to start mid → wished ≡ false → z ≡ end → end ≡ mid → z ≡ x
quiet-run written faults wished wished_after from to x y start mid end z first begun told none last left = last ∙ left ∙ told.unwished none ∙ begun ∙ first
