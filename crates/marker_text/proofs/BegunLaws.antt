use Rattle.std.proofs.Common.{◌≡◌, ◌++◌, sym, refl, ℕ, List, [], take, Option, Some, None, inr}
use Rattle.std.proofs.lemmas.Option.{same_Some}
use Rattle.shelf_io.specs.Told.{EndsWithin, Refines, appended}
use Rattle.marker_text.specs.Held.{HoldsFront}

-- a text that is put to a file that was empty: all of it, or a front
pub begun-whole : (text : List ℕ) (m n : Option (List ℕ)) → Refines m (Some []) → Refines n (appended m text) → Refines n (Some text)
begun-whole text None n empty put = λ bytes at. let none : appended None text ≡ Some bytes = put bytes at in cc
begun-whole text (Some held) n empty put = λ bytes at.
    let none : [] ≡ held = same_Some [] held (empty held refl) in
    let is : Some (held ++ text) ≡ Some bytes = put bytes at in rw (← none) at is

pub begun-front : (text : List ℕ) (before m n : Option (List ℕ)) → Refines m (Some []) → EndsWithin m text n → HoldsFront text before n
begun-front text before None n empty ends = λ held at.
    let f = ends held at in let none : appended None (take f.0 text) ≡ Some held = f.1 in cc
begun-front text before (Some start) n empty ends = λ held at.
    let none : [] ≡ start = same_Some [] start (empty start refl) in
    let f = ends held at in
    let is : Some (start ++ take f.0 text) ≡ Some held = f.1 in
    inr (f.0, sym (same_Some (take f.0 text) held (rw (← none) at is)))
