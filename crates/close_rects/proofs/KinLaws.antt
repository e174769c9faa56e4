use Rattle.std.proofs.Common.{◌≡◌, ◌+◌, ◌<◌, ℕ, get_or, refl, List, [], ◌∷◌, ◌++◌, length, ap, set, arith, inl, inr}
use Rattle.std.proofs.lemmas.List.{length-append, length-set}
use Rattle.std.proofs.lemmas.Bool.{cases_lt}
use Rattle.std.proofs.lemmas.Option.{slice_get_read}
use Rattle.close_rects.specs.declared.items.Item.{Item}
use Rattle.close_rects.specs.declared.kin.Kin.{Kin}
use Rattle.close_rects.specs.declared.member.Member.{Member}
use Rattle.close_rects.specs.Kins.{AreKins, AreOfClass, IsKin}
use Rattle.std_laws.proofs.Places.{slice_get-push, slice_get-set}

-- two neighbouring stretches of one class
pub AreOfClass-over : (members : List Member) (items : List Item) (low middle high class : ℕ) → AreOfClass members items low middle class
    → AreOfClass members items middle high class → AreOfClass members items low high class
AreOfClass-over members items low middle high class first second k item on below is =
    elim (cases_lt k middle) [
      | inl early ↦ first k item on early is
      | inr late ↦ second k item late below is
    ]

-- what the kin that is read tells
pub IsKin-at : (members : List Member) (items : List Item) (kins : List Kin) (b : ℕ) (kin : Kin) → AreKins members items kins → b < length kins
    → kin ≡ get_or kins b kin → IsKin members items (length kins) b kin
IsKin-at members items kins b kin are within is = are b kin (slice_get_read kins (length kins) b kin refl within is)

-- kin that tells the truth may be written
pub AreKins-set : (members : List Member) (items : List Item) (kins : List Kin) (b : ℕ) (kin : Kin) → AreKins members items kins
    → IsKin members items (length kins) b kin → AreKins members items (set kins b kin)
AreKins-set members items kins b kin are told k other is =
    rw length-set (elim (slice_get-set kins b k kin other is) [
      | inl same ↦ rw (same.0, same.1) told
      | inr kept ↦ are k other kept
    ])

-- or put behind the others
pub AreKins-push : (members : List Member) (items : List Item) (kins pushed : List Kin) (kin : Kin) → pushed ≡ kins ++ kin ∷ []
    → AreKins members items kins → IsKin members items (length kins + 1) (length kins) kin → AreKins members items pushed
AreKins-push members items kins pushed kin is are told b other at =
    let len : length pushed ≡ length kins + 1 = omega (arith, ap length is, length-append kins (kin ∷ [])) in
    elim (slice_get-push kins b kin other (rw is at at)) [
      | inl same ↦ rw (len, same.0, same.1) told
      | inr kept ↦
          let old : IsKin members items (length kins) b other = are b other kept in
          record { on = old.on; within = omega arith; own = old.own; all = old.all }
    ]
