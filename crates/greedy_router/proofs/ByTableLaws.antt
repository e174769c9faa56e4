use Rattle.std.proofs.Common.{◌≡◌, inl, inr, ◌<◌, ℕ, List, true, set, sym, subst, ◌∙◌, arith, Contains, eq-eqb}
use Rattle.std.proofs.lemmas.Bool.{cases_eq, cond-true, cond-false, ne_eqb}
use Rattle.channel_model.specs.Pins.{Pins}
use Rattle.greedy_column.specs.declared.column.Track.{Track}
use Rattle.greedy_column.specs.declared.column.Column.{Column}
use Rattle.greedy_column.specs.Tracks.{ids, held_by, hold}
use Rattle.greedy_column.specs.Replay.{top_pin, bottom_pin, with_made, freed, entered, after}
use Rattle.greedy_column.proofs.EnteredLaws.{top-there, bottom-there, in-now}
use Rattle.greedy_column.proofs.HeldLaws.{held_by-other}
use Rattle.greedy_column.proofs.IdLaws.{ids-hold, ids-entered, ids-freed}
use Rattle.greedy_router.specs.SweepWiring.{leaves, since_after}
use Rattle.greedy_router.specs.Turns.{entered_by, since_entered, freed_by, since_moved, left_by, TellsNets, TellsSince, IsTurn}
use Rattle.greedy_router.proofs.LeftLaws.{left-held}
use Rattle.greedy_router.proofs.TellLaws.{AreAlikePairs}
use Rattle.greedy_router.proofs.TurnLaws.{Fits, fits-set, freed_by-long, since_entered-long, told-hold, told-freed, told-moved, AreMovedIn, held_by-made, since-hold, since-freed, since-moved}

-- since when a track is held, whether it was free or not
pub since-held : (column : ℕ) (before : List Track) (since : ℕ → ℕ) (id : ℕ) → 0 < held_by before id → since_after column before since id ≡ since id
since-held column before since id held = cond-false _ _ _ (ne_eqb (held_by before id) 0 (λ free. omega (arith, held, free)))

since-free : (column : ℕ) (before : List Track) (since : ℕ → ℕ) (id : ℕ) → held_by before id ≡ 0 → since_after column before since id ≡ column
since-free column before since id free = cond-true _ _ _ (eq-eqb (held_by before id) 0 free)

module _ (order : List ℕ) (pins : Pins) (column : ℕ) (before : List Track) (done : Column) (turn : IsTurn order pins column before done) where
  abbrev now : List Track
  now = entered pins column done before

  abbrev with_new : List Track
  with_new = with_made before done.made

  abbrev inner : List Track
  inner = hold done.bottom (bottom_pin pins column) with_new

  in_inner : (id : ℕ) → Contains (ids now) id → Contains (ids inner) id
  in_inner id member = subst (λ l. Contains l id) (ids-hold done.top (top_pin pins column) inner) member

  in_with : (id : ℕ) → Contains (ids now) id → Contains (ids with_new) id
  in_with id member = subst (λ l. Contains l id) (ids-entered pins column before done) member

  -- the pins enter tracks that stand
  top_in : Contains order done.top → Contains (ids now) done.top
  top_in member = top-there pins column turn.fresh before done turn.numbered turn.lawful (turn.lawful.top_none (turn.positive done.top member))

  bottom_in : Contains order done.bottom → Contains (ids now) done.bottom
  bottom_in member = bottom-there pins column turn.fresh before done turn.numbered turn.lawful (turn.lawful.bottom_none (turn.positive done.bottom member))

  made_same : (id : ℕ) → held_by with_new id ≡ held_by before id
  made_same id = held_by-made turn.fresh _ before done.made id turn.numbered turn.lawful.made

  with-told : (table : List ℕ) → TellsNets order before table → TellsNets order with_new table
  with-told table told id member = told id member ∙ sym (made_same id)

  inner-told : (table : List ℕ) → Fits order table → TellsNets order before table → TellsNets order inner (set table done.bottom (bottom_pin pins column))
  inner-told table fits told =
      told-hold order with_new table done.bottom (bottom_pin pins column) fits (λ here. in_with done.bottom (bottom_in here)) (with-told table told)

  pub entered-told : (table : List ℕ) → Fits order table → TellsNets order before table
      → TellsNets order now (entered_by done (top_pin pins column) (bottom_pin pins column) table)
  entered-told table fits told =
      told-hold order inner (set table done.bottom (bottom_pin pins column)) done.top (top_pin pins column)
      (fits-set order table done.bottom (bottom_pin pins column) fits) (λ here. in_inner done.top (top_in here)) (inner-told table fits told)

  -- the top pin's track was free before the column where it is before the pin enters
  top_free : Contains order done.top → held_by inner done.top ≡ 0 → held_by before done.top ≡ 0
  top_free member free = elim (cases_eq done.bottom done.top) [
    | inl same ↦ absurd (turn.lawful.entered_once (turn.positive done.top member) (sym same))
    | inr apart ↦ sym (made_same done.top) ∙ sym (held_by-other with_new done.bottom (bottom_pin pins column) done.top apart) ∙ free
  ]

  pub entered-since : (nets table : List ℕ) (since : ℕ → ℕ) → Fits order nets → Fits order table → TellsNets order before nets → TellsSince order before since table
      → TellsSince order now (since_after column before since)
      (since_entered column (set nets done.bottom (bottom_pin pins column)) done.top (since_entered column nets done.bottom table))
  entered-since nets table since fits within told known =
      let first : TellsSince order with_new (since_after column before since) table = λ id member held.
      let some : 0 < held_by before id = subst (λ n. 0 < n) (made_same id) held in
      known id member some ∙ sym (since-held column before since id some) in
      let second : TellsSince order inner (since_after column before since) (since_entered column nets done.bottom table) =
      since-hold order with_new nets table column done.bottom (bottom_pin pins column) (since_after column before since) within (with-told nets told)
      (λ member free. since-free column before since done.bottom (sym (made_same done.bottom) ∙ free)) first in
      since-hold order inner (set nets done.bottom (bottom_pin pins column)) (since_entered column nets done.bottom table) column done.top (top_pin pins column)
      (since_after column before since) (λ id member. let less = within id member in omega (arith, less, since_entered-long column done.bottom nets table))
      (inner-told nets fits told) (λ member free. since-free column before since done.top (top_free member free)) second

  moved_in : AreMovedIn (freed done.ended now) done.moves
  moved_in m member =
      let move = turn.lawful.moves m.0 m.1 member in (
        subst (λ l. Contains l m.0) (sym (ids-freed done.ended now)) move.held.1.there,
        subst (λ l. Contains l m.1) (sym (ids-freed done.ended now))
            (in-now pins column turn.fresh before done turn.numbered turn.lawful m.1 move.free.there),
      )

  pub left-told : (table : List ℕ) → Fits order table → TellsNets order now table → TellsNets order (after pins column done before) (left_by done table)
  left-told table fits told =
      told-moved order done.moves (freed done.ended now) (freed_by done.ended table)
      (λ id member. let less = fits id member in omega (arith, less, freed_by-long done.ended table))
      (λ id member. turn.within id (subst (λ l. Contains l id) (ids-freed done.ended now) member)) moved_in (told-freed order now done.ended table told)

  pub left-since : (table : List ℕ) (since : ℕ → ℕ) → Fits order table → TellsSince order now (since_after column before since) table
      → TellsSince order (after pins column done before) (since_after column before since) (since_moved column done.moves table)
  left-since table since fits known =
      since-moved order done.moves (freed done.ended now) table column (since_after column before since) fits moved_in
      (λ m member. since-free column before since m.1 (turn.lawful.moves m.0 m.1 member).free.free)
      (since-freed order now done.ended table (since_after column before since) known)

  -- what is left is held
  pub held-left : (id : ℕ) → leaves done id ≡ true → 0 < held_by now id
  held-left id left =
      let held = left-held pins column turn.fresh before done turn.numbered turn.lawful id left in
      let some = held.1.net_is in
      omega (arith, some, held.1.held)

  pub joins-alike : (nets : List ℕ) → TellsNets order now nets → AreAlikePairs order now nets done.joins
  joins-alike nets told pair member =
      let both = (turn.lawful.joins pair.0 pair.1 member).1 in
      (told pair.0 (turn.within pair.0 both.lower.there), turn.alike pair.0 pair.1 both.lower.there both.upper.there)

  pub moves-alike : (nets : List ℕ) → TellsNets order now nets → AreAlikePairs order now nets done.moves
  moves-alike nets told pair member =
      let move = turn.lawful.moves pair.0 pair.1 member in
      let old : Contains (ids now) pair.0 = move.held.1.there in (
        told pair.0 (turn.within pair.0 old),
        turn.alike pair.0 pair.1 old (in-now pins column turn.fresh before done turn.numbered turn.lawful pair.1 move.free.there),
      )

  -- the same of tables that were written
  pub nets-entered : (table new : List ℕ) (top bottom : ℕ) → Fits order table → TellsNets order before table → top ≡ top_pin pins column
      → bottom ≡ bottom_pin pins column → new ≡ entered_by done top bottom table → TellsNets order now new
  nets-entered table new top bottom fits told top_is bottom_is is =
      subst (λ t. TellsNets order now t) (sym (is ∙ (λ i. entered_by done (top_is i) (bottom_is i) table))) (entered-told table fits told)

  pub since-noted : (nets table new : List ℕ) (bottom : ℕ) (since : ℕ → ℕ) → Fits order nets → Fits order table → TellsNets order before nets
      → TellsSince order before since table → bottom ≡ bottom_pin pins column
      → new ≡ since_entered column (set nets done.bottom bottom) done.top (since_entered column nets done.bottom table)
      → TellsSince order now (since_after column before since) new
  since-noted nets table new bottom since fits within told known bottom_is is =
      subst (λ t. TellsSince order now (since_after column before since) t)
      (sym (is ∙ (λ i. since_entered column (set nets done.bottom (bottom_is i)) done.top (since_entered column nets done.bottom table))))
      (entered-since nets table since fits within told known)
