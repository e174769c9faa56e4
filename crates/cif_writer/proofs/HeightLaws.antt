use Rattle.std.proofs.Common.{◌≡◌, inl, inr, refl, sym, ap, ◌∙◌, subst, ℕ, zero, suc, ◌+◌, ◌≤◌, List, [], ◌∷◌, length, All, Bool, true, false, cond, Some, Contains, arith}
use Rattle.std.proofs.lemmas.Bool.Decides.{nat_tests}
use Rattle.std.proofs.lemmas.List.Elements.{All-cons, All-head, All-nil, All-tail}
use Rattle.std.proofs.lemmas.Map.Views.{All-insert_key}
use Rattle.std.proofs.lemmas.Option.{none-some, same_Some}
use Rattle.std.specs.BTreeSet.{insert_key}
use Rattle.std.specs.List.{fold, list_any}
use Rattle.std.specs.Ordering.{match_ordering, nat_cmp}
use Rattle.std.specs.Prelude.{slice_get, ◌==◌}
use Rattle.std.specs.declared.cmp.Ordering.{Ordering}
use Rattle.std.specs.declared.cmp.Ordering.TheVariants.{Less, Equal, Greater}
use Rattle.design_model.specs.Netlist.{Netlist}
use Rattle.feed_cells.specs.Fed.{Fed, IsFed}
use Rattle.feed_cells.specs.declared.fed.Item.{Item}
use Rattle.channel_stack.proofs.Planned.{height_of_row, row_heights}
use Rattle.channel_stack.proofs.StackBounds.{heights-of}
use Rattle.cif_writer.specs.FeedHeights.{fed_heights, feed_heights, height_place, is_feed}
use Rattle.std_laws.proofs.Members.{member-cases, member-head, member-none, member-tail}

-- numbers that compare as equal are one
equal-same : (k x : ℕ) → nat_cmp k x ≡ Equal → k ≡ x
equal-same k x test = grind (arith, nat_tests)

-- a key that is put among others is there, and so are they
key-there : (k : ℕ) (keys : List ℕ) → Contains (insert_key nat_cmp keys k) k
key-there k [] = member-head k []
key-there k (x ∷ xs) = by (key-there k xs) (nat_cmp k x) refl
  where
    by : Contains (insert_key nat_cmp xs k) k → (o : Ordering) → nat_cmp k x ≡ o → Contains (match_ordering o (k ∷ (x ∷ xs)) (x ∷ xs) (x ∷ insert_key nat_cmp xs k)) k
    by later Less test = member-head k (x ∷ xs)
    by later Equal test = subst (λ (n : ℕ). Contains (x ∷ xs) n) (sym (equal-same k x test)) (member-head x xs)
    by later Greater test = member-tail x (insert_key nat_cmp xs k) k later

key-kept : (k : ℕ) (keys : List ℕ) (other : ℕ) → Contains keys other → Contains (insert_key nat_cmp keys k) other
key-kept k [] other member = absurd (member-none other member)
key-kept k (x ∷ xs) other member = by (key-kept k xs other) (nat_cmp k x)
  where
    by : (Contains xs other → Contains (insert_key nat_cmp xs k) other) → (o : Ordering) → Contains (match_ordering o (k ∷ (x ∷ xs)) (x ∷ xs) (x ∷ insert_key nat_cmp xs k)) other
    by kept Less = member-tail k (x ∷ xs) other member
    by kept Equal = member
    by kept Greater =
        elim (member-cases x xs other member) [
          | inl same ↦ subst (λ (n : ℕ). Contains (x ∷ insert_key nat_cmp xs k) n) same (member-head x (insert_key nat_cmp xs k))
          | inr later ↦ member-tail x (insert_key nat_cmp xs k) other (kept later)
        ]

-- one key more at most
key-few : (k : ℕ) (keys : List ℕ) → length (insert_key nat_cmp keys k) ≤ suc (length keys)
key-few k [] = omega arith
key-few k (x ∷ xs) = by (key-few k xs) (nat_cmp k x)
  where
    by : length (insert_key nat_cmp xs k) ≤ suc (length xs) → (o : Ordering) → length (match_ordering o (k ∷ (x ∷ xs)) (x ∷ xs) (x ∷ insert_key nat_cmp xs k)) ≤ suc (suc (length xs))
    by few Less = omega arith
    by few Equal = omega arith
    by few Greater = omega (arith, few)

-- numbers that are put one after the other are all there, with those that were there before
all-kept : (found xs : List ℕ) (x : ℕ) → Contains found x → Contains (fold (insert_key nat_cmp) found xs) x
all-kept found [] x member = member
all-kept found (y ∷ xs) x member = all-kept (insert_key nat_cmp found y) xs x (key-kept y found x member)

all-there : (found xs : List ℕ) (x : ℕ) → Contains xs x → Contains (fold (insert_key nat_cmp) found xs) x
all-there found [] x member = absurd (member-none x member)
all-there found (y ∷ xs) x member =
    elim (member-cases y xs x member) [
      | inl same ↦ all-kept (insert_key nat_cmp found y) xs x (subst (λ (n : ℕ). Contains (insert_key nat_cmp found y) n) same (key-there y found))
      | inr later ↦ all-there (insert_key nat_cmp found y) xs x later
    ]

all-few : (found xs : List ℕ) → length (fold (insert_key nat_cmp) found xs) ≤ length found + length xs
all-few found [] = omega arith
all-few found (y ∷ xs) = omega (arith, all-few (insert_key nat_cmp found y) xs, key-few y found)

all-hold : (P : ℕ → Type 0) (found xs : List ℕ) → All P found → All P xs → All P (fold (insert_key nat_cmp) found xs)
all-hold P found [] first rest = first
all-hold P found (y ∷ xs) first rest = all-hold P (insert_key nat_cmp found y) xs (All-insert_key nat_cmp y P found first (All-head P y xs rest)) (All-tail P y xs rest)

-- there are no more heights of rows with feeds than rows
fed-few : (heights : List ℕ) (rows : List (List Item)) → length (fed_heights heights rows) ≤ length heights
fed-few [] rows = omega arith
fed-few (h ∷ heights) [] = omega arith
fed-few (h ∷ heights) (items ∷ rows) = by (fed-few heights rows) (list_any is_feed items)
  where
    by : length (fed_heights heights rows) ≤ length heights → (b : Bool) → length (cond b (h ∷ fed_heights heights rows) (fed_heights heights rows)) ≤ suc (length heights)
    by few true = omega (arith, few)
    by few false = omega (arith, few)

pub feeds-few : (fed : Fed) → length (feed_heights fed) ≤ length fed.heights
feeds-few fed = omega (arith, all-few [] (fed_heights fed.heights fed.rows), fed-few fed.heights fed.rows)

-- what holds of the height of each row with a feed holds of the heights of feeds
fed-hold : (d : Netlist) (P : ℕ → Type 0) (rows : List (List Item))
    → ((k : ℕ) (items : List Item) → slice_get rows k ≡ Some items → list_any is_feed items ≡ true → P (height_of_row d items)) → All P (fed_heights (row_heights d rows) rows)
fed-hold d P [] each = All-nil P
fed-hold d P (items ∷ rows) each = by (fed-hold d P rows (λ k other at some. each (suc k) other at some)) (list_any is_feed items) refl
  where
    by : All P (fed_heights (row_heights d rows) rows) → (b : Bool) → list_any is_feed items ≡ b → All P (cond b (height_of_row d items ∷ fed_heights (row_heights d rows) rows) (fed_heights (row_heights d rows) rows))
    by rest true some = All-cons P (height_of_row d items) (fed_heights (row_heights d rows) rows) (each 0 items refl some) rest
    by rest false none = rest

pub feeds-hold : (d : Netlist) (fed : Fed) → IsFed d fed → (P : ℕ → Type 0)
    → ((k : ℕ) (items : List Item) → slice_get fed.rows k ≡ Some items → list_any is_feed items ≡ true → P (height_of_row d items)) → All P (feed_heights fed)
feeds-hold d fed is P each =
    all-hold P [] (fed_heights fed.heights fed.rows) (All-nil P)
    (subst (λ (heights : List ℕ). All P (fed_heights heights fed.rows)) (sym (heights-of d fed is)) (fed-hold d P fed.rows each))

-- the height of a row with a feed is one of them
fed-there : (d : Netlist) (rows : List (List Item)) (k : ℕ) (items : List Item) → slice_get rows k ≡ Some items → list_any is_feed items ≡ true
    → Contains (fed_heights (row_heights d rows) rows) (height_of_row d items)
fed-there d [] k items at some = absurd (none-some items at)
fed-there d (first ∷ rows) zero items at some =
    subst (λ (l : List Item). Contains (fed_heights (row_heights d (first ∷ rows)) (first ∷ rows)) (height_of_row d l)) (same_Some first items at)
    (subst (λ (b : Bool). Contains (cond b (height_of_row d first ∷ fed_heights (row_heights d rows) rows) (fed_heights (row_heights d rows) rows)) (height_of_row d first))
    (sym (ap (list_any is_feed) (same_Some first items at) ∙ some)) (member-head (height_of_row d first) (fed_heights (row_heights d rows) rows)))
fed-there d (first ∷ rows) (suc k) items at some = by (fed-there d rows k items at some) (list_any is_feed first)
  where
    by : Contains (fed_heights (row_heights d rows) rows) (height_of_row d items) → (b : Bool) → Contains (cond b (height_of_row d first ∷ fed_heights (row_heights d rows) rows) (fed_heights (row_heights d rows) rows)) (height_of_row d items)
    by later true = member-tail (height_of_row d first) (fed_heights (row_heights d rows) rows) (height_of_row d items) later
    by later false = later

pub feeds-there : (d : Netlist) (fed : Fed) → IsFed d fed → (k : ℕ) (items : List Item) → slice_get fed.rows k ≡ Some items → list_any is_feed items ≡ true
    → Contains (feed_heights fed) (height_of_row d items)
feeds-there d fed is k items at some =
    all-there [] (fed_heights fed.heights fed.rows) (height_of_row d items)
    (subst (λ (heights : List ℕ). Contains (fed_heights heights fed.rows) (height_of_row d items)) (sym (heights-of d fed is)) (fed-there d fed.rows k items at some))

-- a height that is among others stands at its place
pub height-placed : (heights : List ℕ) (height : ℕ) → Contains heights height → slice_get heights (height_place heights height) ≡ Some height
height-placed [] height member = absurd (member-none height member)
height-placed (h ∷ heights) height member = by (height-placed heights height) (h == height) refl
  where
    same : (h == height) ≡ true → h ≡ height
    same test = grind (arith, nat_tests)

    other : (h == height) ≡ false → h ≡ height → ⊥
    other test is = grind (arith, nat_tests)

    by : (Contains heights height → slice_get heights (height_place heights height) ≡ Some height) → (b : Bool) → (h == height) ≡ b → slice_get (h ∷ heights) (cond b 0 (suc (height_place heights height))) ≡ Some height
    by placed true test = ap (λ (n : ℕ). Some n) (same test)
    by placed false test =
        elim (member-cases h heights height member) [
          | inl is ↦ absurd (other test is)
          | inr later ↦ placed later
        ]
