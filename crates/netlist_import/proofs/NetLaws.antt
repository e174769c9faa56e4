use Rattle.std.proofs.Common.{◌≡◌, List, [], ◌∷◌, ◌++◌, ℕ, Bool, true, false, not, ◌&&◌, refl, sym, ap, subst, ◌∙◌, append_assoc, append-nil, ◌↔◌}
use Rattle.std.specs.List.{AllByRecursion}
use Rattle.std.specs.Str.{bytes_eq}
use Rattle.std_laws.proofs.Bytes.{bytes_one, bytes_same}
use Rattle.std_laws.proofs.Every.{every-at, every-push, every-weaker}
use Rattle.blif_reader.specs.declared.file.BlifFile.{BlifFile}
use Rattle.blif_reader.specs.declared.file.Join.{Join}
use Rattle.netlist_import.specs.Nets.{Joined, Rename, chained, itself, link, rename_of, renamed, renamed_by, renames_behind, renames_of, is_terminal, signal, turned}

-- one renaming more
pub renamed-push : (rs : List Rename) (r : Rename) (w : List ℕ) → renamed (rs ++ r ∷ []) w ≡ renamed_by r (renamed rs w)
unfolding renamed
renamed-push [] r w = refl
renamed-push (q ∷ qs) r w = renamed-push qs r (renamed_by q w)

-- a renaming between the two words that two joined nets go by
pub data Between (a b : List ℕ) (r : Rename) : Type 0 where
  forth : r.from ≡ a → r.to ≡ b → Between a b r
  over : r.from ≡ b → r.to ≡ a → Between a b r

-- that of a join is one
between-rename : (n : BlifFile) (a b : List ℕ) → Between a b (rename_of n a b)
between-rename n a b = by (is_terminal n b && not (is_terminal n a)) refl
  where
    by : (t : Bool) → (is_terminal n b && not (is_terminal n a)) ≡ t → Between a b (rename_of n a b)
    by true is = rw is (forth refl refl)
    by false is = rw is (over refl refl)

-- both words then are one
both-one : (a b : List ℕ) (r : Rename) → Between a b r → renamed_by r a ≡ renamed_by r b
both-one a b r (forth f t) = by_from (bytes_eq b r.from) refl
  where
    first : renamed_by r a ≡ r.to
    first = rw (ap (λ (x : List ℕ). bytes_eq a x) f ∙ bytes_same a) refl

    by_from : (s : Bool) → bytes_eq b r.from ≡ s → renamed_by r a ≡ renamed_by r b
    by_from true is = first ∙ sym (rw is refl)
    by_from false is = first ∙ t ∙ sym (rw is refl)
both-one a b r (over f t) = by_from (bytes_eq a r.from) refl
  where
    second : renamed_by r b ≡ r.to
    second = rw (ap (λ (x : List ℕ). bytes_eq b x) f ∙ bytes_same b) refl

    by_from : (s : Bool) → bytes_eq a r.from ≡ s → renamed_by r a ≡ renamed_by r b
    by_from true is = rw is refl ∙ sym second
    by_from false is = rw is refl ∙ sym t ∙ sym second

-- words that are one after a renaming were one before, or were the two that it joins
pub data WereOne (from to x y : List ℕ) : Type 0 where
  same : x ≡ y → WereOne from to x y
  one_way : x ≡ from → y ≡ to → WereOne from to x y
  other_way : x ≡ to → y ≡ from → WereOne from to x y

were-one : (r : Rename) (x y : List ℕ) → renamed_by r x ≡ renamed_by r y → WereOne r.from r.to x y
were-one r x y one = by (bytes_eq x r.from) (bytes_eq y r.from) refl refl
  where
    by : (s t : Bool) → bytes_eq x r.from ≡ s → bytes_eq y r.from ≡ t → WereOne r.from r.to x y
    by true true p q = same (bytes_one x r.from p ∙ sym (bytes_one y r.from q))
    by true false p q = let there : r.to ≡ y = rw (p, q) at one in one_way (bytes_one x r.from p) (sym there)
    by false true p q = let there : x ≡ r.to = rw (p, q) at one in other_way there (bytes_one y r.from q)
    by false false p q = let there : x ≡ y = rw (p, q) at one in same there

-- after some of all joins words that go by one word are one net, and the words of these joins go by one
pub record Stands (all : List Join) (rs : List Rename) (done : List Join) : Type 0 where
  pub sound : (v w : List ℕ) → renamed rs v ≡ renamed rs w → Joined all v w
  pub linked : AllByRecursion (λ (j : Join). renamed rs j.first.text ≡ renamed rs j.second.text) done

-- one join more
stands-on : (all : List Join) (rs : List Rename) (done : List Join) (j : Join) (r : Rename) → Joined all j.first.text j.second.text
    → Between (renamed rs j.first.text) (renamed rs j.second.text) r → Stands all rs done → Stands all (rs ++ r ∷ []) (done ++ j ∷ [])
stands-on all rs done j r joins between h = record { sound = sound; linked = linked }
  where
    a : List ℕ
    a = renamed rs j.first.text

    b : List ℕ
    b = renamed rs j.second.text

    crossed : (v w x y : List ℕ) → Joined all x y → renamed rs v ≡ renamed rs x → renamed rs w ≡ renamed rs y → Joined all v w
    crossed v w x y one first second = chained (h.sound v x first) (chained one (turned (h.sound w y second)))

    split : (v w : List ℕ) → Between (renamed rs j.first.text) (renamed rs j.second.text) r → WereOne r.from r.to (renamed rs v) (renamed rs w) → Joined all v w
    split v w way (same e) = h.sound v w e
    split v w (forth f t) (one_way p q) = crossed v w j.first.text j.second.text joins (p ∙ f) (q ∙ t)
    split v w (forth f t) (other_way p q) = crossed v w j.second.text j.first.text (turned joins) (p ∙ t) (q ∙ f)
    split v w (over f t) (one_way p q) = crossed v w j.second.text j.first.text (turned joins) (p ∙ f) (q ∙ t)
    split v w (over f t) (other_way p q) = crossed v w j.first.text j.second.text joins (p ∙ t) (q ∙ f)

    sound : (v w : List ℕ) → renamed (rs ++ r ∷ []) v ≡ renamed (rs ++ r ∷ []) w → Joined all v w
    sound v w one = split v w between (were-one r (renamed rs v) (renamed rs w) (sym (renamed-push rs r v) ∙ one ∙ renamed-push rs r w))

    linked : AllByRecursion (λ (k : Join). renamed (rs ++ r ∷ []) k.first.text ≡ renamed (rs ++ r ∷ []) k.second.text) (done ++ j ∷ [])
    linked = every-push _ done j
        (every-weaker (λ (k : Join). renamed rs k.first.text ≡ renamed rs k.second.text) (λ (k : Join). renamed (rs ++ r ∷ []) k.first.text ≡ renamed (rs ++ r ∷ []) k.second.text)
        (λ k e. renamed-push rs r k.first.text ∙ ap (renamed_by r) e ∙ sym (renamed-push rs r k.second.text)) done h.linked)
        (renamed-push rs r j.first.text ∙ both-one (renamed rs j.first.text) (renamed rs j.second.text) r between ∙ sym (renamed-push rs r j.second.text))

-- all joins
stands-all : (n : BlifFile) (all : List Join) (rs : List Rename) (done rest : List Join) → all ≡ done ++ rest → Stands all rs done → Stands all (renames_behind n rs rest) all
unfolding renames_behind
stands-all n all rs done [] is h =
    let whole : all ≡ done = is ∙ append-nil done in
    record { sound = h.sound; linked = subst (λ (js : List Join). AllByRecursion (λ (j : Join). renamed rs j.first.text ≡ renamed rs j.second.text) js) (sym whole) h.linked }
stands-all n all rs done (j ∷ js) is h =
    stands-all n all (rs ++ rename_of n (renamed rs j.first.text) (renamed rs j.second.text) ∷ []) (done ++ j ∷ []) js (is ∙ sym (append_assoc done (j ∷ []) js))
    (stands-on all rs done j _ (link done j js is) (between-rename n (renamed rs j.first.text) (renamed rs j.second.text)) h)

-- before the first join each word goes by itself
unfolded-none : (all : List Join) → Stands all [] []
unfolding renamed
unfolded-none all = record { sound = λ v w e. subst (λ (x : List ℕ). Joined all v x) e (itself v); linked = tt }

pub signals-stand : (n : BlifFile) → Stands n.joins (renames_of n) n.joins
signals-stand n = stands-all n n.joins [] [] n.joins refl (unfolded-none n.joins)

-- words that are one net go by one word
complete : (n : BlifFile) (v w : List ℕ) → Joined n.joins v w → signal n v ≡ signal n w
complete n v w (link before j behind is) =
    every-at (λ (k : Join). renamed (renames_of n) k.first.text ≡ renamed (renames_of n) k.second.text) before behind j
    (subst (λ (js : List Join). AllByRecursion (λ (k : Join). renamed (renames_of n) k.first.text ≡ renamed (renames_of n) k.second.text) js) is (signals-stand n).linked)
complete n v w (itself u) = refl
complete n v w (turned back) = sym (complete n w v back)
complete n v w (chained {v = middle} one other) = complete n v middle one ∙ complete n middle w other

-- two words go by one word exactly where they are one net
pub signals-one : (n : BlifFile) (v w : List ℕ) → (signal n v ≡ signal n w) ↔ Joined n.joins v w
signals-one n v w = ((signals-stand n).sound v w, complete n v w)
