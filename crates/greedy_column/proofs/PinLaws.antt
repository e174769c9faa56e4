use Rattle.std.proofs.Common.{◌≡◌, ◌≢◌, inl, inr, ◌<◌, ◌≤◌, ◌+◌, ◌-◌, eqb, ltb, ℕ, List, [], ◌∷◌, Bool, true, false, cond, length, map, get_or, refl, sym, subst, ap, ◌∙◌, arith, Contains}
use Rattle.std.proofs.lemmas.Bool.{ltb-true}
use Rattle.std.proofs.lemmas.List.Edits.{get_or-insert_at, get_or-insert_below, get_or-insert_above, length-insert}
use Rattle.std.proofs.lemmas.List.Elements.{Contains-append_cases}
use Rattle.std.specs.List.{insert}
use Rattle.channel_model.specs.Pins.{Pins}
use Rattle.choose_core.specs.declared.candidate.Candidate.{Candidate}
use Rattle.choose_core.specs.declared.plan.Manner.{Manner}
use Rattle.greedy_column.specs.declared.column.Track.{Track}
use Rattle.greedy_column.specs.declared.column.Column.{Column}
use Rattle.greedy_column.specs.declared.span.Span.{Span}
use Rattle.greedy_column.specs.declared.entering.EnteringPin.{EnteringPin}
use Rattle.greedy_column.specs.declared.entering.Entries.{Entries}
use Rattle.greedy_column.specs.declared.entering.ChannelEdge.TheVariants.{Upper, Lower}
use Rattle.greedy_column.specs.declared.entering.PinKind.{PinKind}
use Rattle.greedy_column.specs.declared.entering.PinKind.TheVariants.{NoPins, BottomAlone, TopAlone, EqualPins, TwoPins}
use Rattle.greedy_column.specs.declared.entering.Newcomer.{Newcomer}
use Rattle.greedy_column.specs.declared.entering.Newcomer.TheVariants.{TopPin, BottomPin, BothPins}
use Rattle.greedy_column.specs.Tracks.{ids, line_of}
use Rattle.greedy_column.specs.Replay.{top_pin, bottom_pin, with_made, entered}
use Rattle.greedy_column.specs.Verticals.{Vertical, floor, on, ceiling, bottom_verticals, top_verticals, verticals_of_pins}
use Rattle.greedy_column.specs.Lines.{id_on, holds_track, open_lines, own_lines, above_lowest, below_line}
use Rattle.greedy_column.specs.Places.{place_of_new}
use Rattle.greedy_column.specs.Offers.{offer}
use Rattle.greedy_column.specs.Joining.{span_in}
use Rattle.greedy_column.specs.Entering.{EntersBy, EntersPair, EntersNew, newcomer_of, any_place, place_for, pin_kind, top_question, bottom_question}
use Rattle.greedy_column.specs.Follows.{Follows, entries_of, pin_of, pin_spans}
use Rattle.greedy_column.specs.State.{AreNumbered}
use Rattle.greedy_column.proofs.PickLaws.{picked_is_option}
use Rattle.greedy_column.proofs.IdLaws.{Apart, Apart-from, Apart-insert, ids-insert, ids-entered}
use Rattle.greedy_column.proofs.TableLaws.{length-ids, line_of-at, line_of-line}
use Rattle.greedy_column.proofs.PlaceLaws.{place_bounds}
use Rattle.greedy_column.proofs.EntryLaws.{IsOpenLine, IsOpenLine-from}
use Rattle.greedy_column.proofs.EntersLaws.{KindSays, kind_says}
use Rattle.greedy_column.proofs.LawfulLaws.{above_lowest-within}
use Rattle.greedy_column.proofs.CrossLaws.{AreUncrossed}
use Rattle.std_laws.proofs.Members.{member-none, member-only, map-cases, filter-from}
use Rattle.std_laws.proofs.Inserted.{insert-cases}
use Rattle.std_laws.proofs.Tests.{eqb-positive}

-- the lines of ids once a new one is put among them: those below it stay, it stands where it is put, and those above rise
module _ (order : List ℕ) (k new : ℕ) (within : k ≤ length order) (apart : Apart (insert order k new)) where
  at_new : line_of (insert order k new) new ≡ k + 1
  at_new =
      let at : get_or (insert order k new) k 0 ≡ new = get_or-insert_at order k new 0 within in
      let long = length-insert order k new in
      sym (ap (line_of (insert order k new)) at) ∙ line_of-at (insert order k new) k apart (omega (arith, within, long)) ∙ omega arith

  below_new : (line : ℕ) → 0 < line → line ≤ k → line_of (insert order k new) (get_or order (line - 1) 0) ≡ line
  below_new line some below =
      let at : get_or (insert order k new) (line - 1) 0 ≡ get_or order (line - 1) 0 =
      get_or-insert_below order k new 0 (line - 1) (omega (arith, some, below)) within in
      let long = length-insert order k new in
      sym (ap (line_of (insert order k new)) at)
      ∙ line_of-at (insert order k new) (line - 1) apart (omega (arith, some, below, within, long)) ∙ omega (arith, some)

  above_new : (line : ℕ) → k < line → line ≤ length order → line_of (insert order k new) (get_or order (line - 1) 0) ≡ line + 1
  above_new line above inside =
      let at : get_or (insert order k new) (line - 1 + 1) 0 ≡ get_or order (line - 1) 0 =
      get_or-insert_above order k new 0 (line - 1) (omega (arith, above)) within in
      let long = length-insert order k new in
      sym (ap (line_of (insert order k new)) at)
      ∙ line_of-at (insert order k new) (line - 1 + 1) apart (omega (arith, above, inside, long)) ∙ omega (arith, above)

-- the track of the bottom pin lies below that of the top pin
abbrev IsBelow : List Track → Entries → Type 0
IsBelow before e = line_of (ids (with_made before e.made)) e.bottom < line_of (ids (with_made before e.made)) e.top

module _ (manner : Manner) (may : List Candidate → ℕ → Type 0) (before : List Track) (fresh : ℕ) (numbered : AreNumbered fresh before) where
  first_apart : (k : ℕ) → Apart (insert (ids before) k fresh)
  first_apart k =
      Apart-insert fresh (ids before) k (λ member. let less = numbered.below fresh member in omega (arith, less)) (Apart-from (ids before) numbered.distinct)

  second_apart : (k l : ℕ) → Apart (insert (insert (ids before) k fresh) l (fresh + 1))
  second_apart k l =
      Apart-insert (fresh + 1) (insert (ids before) k fresh) l
      (λ member. elim (insert-cases fresh (fresh + 1) (ids before) k member) [
        | inl same ↦ omega (arith, same)
        | inr old ↦ let less = numbered.below (fresh + 1) old in omega (arith, less)
      ])
      (first_apart k)

  new_below : (top bottom : EnteringPin) (uppers lowers : List ℕ) (new : Newcomer) (entries : Entries)
      → ((line : ℕ) → Contains uppers line → IsOpenLine before top.net line) → ((line : ℕ) → Contains lowers line → IsOpenLine before bottom.net line)
      → EntersNew manner may top bottom before fresh uppers lowers new entries → IsBelow before entries
  new_below top bottom uppers lowers TopPin entries above below (line, by, is) =
      let own = below line (picked_is_option may (offer (bottom_question bottom) (own_lines bottom.net before)) lowers line by) in
      let k : ℕ = place_for manner top Upper before line (length before) in
      let bounds = place_bounds manner (holds_track before top.net) top.next Upper (length before) line (length before) own.within in
      let inside : k ≤ length (ids before) = omega (arith, bounds.1, length-ids before) in
      let lower = below_new (ids before) k fresh inside (first_apart k) line own.begins bounds.0 in
      let upper = at_new (ids before) k fresh inside (first_apart k) in
      subst (λ (e : Entries). IsBelow before e) (sym is)
      (subst (λ l. line_of l (id_on before line) < line_of l fresh) (sym (ids-insert (record { id = fresh; net = 0 }) before k))
      (omega (arith, lower, upper, bounds.0)))
  new_below top bottom uppers lowers BottomPin entries above below (line, by, is) =
      let own = above line (picked_is_option may (offer (top_question top (length before)) (own_lines top.net before)) uppers line by) in
      let k : ℕ = place_for manner bottom Lower before 0 (line - 1) in
      let bounds = place_bounds manner (holds_track before bottom.net) bottom.next Lower (length before) 0 (line - 1) (omega arith) in
      let inside : k ≤ length (ids before) = omega (arith, bounds.1, own.within, length-ids before) in
      let upper = above_new (ids before) k fresh inside (first_apart k) line (omega (arith, bounds.1, own.begins)) (omega (arith, own.within, length-ids before)) in
      let lower = at_new (ids before) k fresh inside (first_apart k) in
      subst (λ (e : Entries). IsBelow before e) (sym is)
      (subst (λ l. line_of l fresh < line_of l (id_on before line)) (sym (ids-insert (record { id = fresh; net = 0 }) before k))
      (omega (arith, lower, upper, bounds.1, own.begins)))
  new_below top bottom uppers lowers BothPins entries above below is =
      let k : ℕ = any_place manner bottom Lower before in
      let l : ℕ = place_of_new manner (holds_track before top.net) top.next Upper (length before + 1) (k + 1) (length before + 1) in
      let first = place_bounds manner (holds_track before bottom.net) bottom.next Lower (length before) 0 (length before) (omega arith) in
      let second = place_bounds manner (holds_track before top.net) top.next Upper (length before + 1) (k + 1) (length before + 1) (omega (arith, first.1)) in
      let inside : k ≤ length (ids before) = omega (arith, first.1, length-ids before) in
      let one : List ℕ = insert (ids before) k fresh in
      let long = length-insert (ids before) k fresh in
      let inside_too : l ≤ length one = omega (arith, second.1, long, length-ids before) in
      let at : get_or one (k + 1 - 1) 0 ≡ fresh =
      ap (λ n. get_or one n 0) (let e : k + 1 - 1 ≡ k = omega arith in e) ∙ get_or-insert_at (ids before) k fresh 0 inside in
      let lower : line_of (insert one l (fresh + 1)) fresh ≡ k + 1 =
      sym (ap (line_of (insert one l (fresh + 1))) at) ∙ below_new one l (fresh + 1) inside_too (second_apart k l) (k + 1) (omega arith) second.0 in
      let upper = at_new one l (fresh + 1) inside_too (second_apart k l) in
      let order : ids (insert (insert before k (record { id = fresh; net = 0 })) l (record { id = fresh + 1; net = 0 })) ≡ insert one l (fresh + 1) =
      ids-insert (record { id = fresh + 1; net = 0 }) (insert before k (record { id = fresh; net = 0 })) l
      ∙ ap (λ m. insert m l (fresh + 1)) (ids-insert (record { id = fresh; net = 0 }) before k) in
      subst (λ (e : Entries). IsBelow before e) (sym is)
      (subst (λ m. line_of m fresh < line_of m (fresh + 1)) (sym order) (omega (arith, lower, upper, second.0)))

  pair_below : (top bottom : EnteringPin) (uppers lowers partnered : List ℕ) (entries : Entries) → ((line : ℕ) → Contains partnered line → Contains uppers line)
      → ((line : ℕ) → Contains uppers line → IsOpenLine before top.net line) → ((line : ℕ) → Contains lowers line → IsOpenLine before bottom.net line)
      → EntersPair manner may top bottom before fresh uppers lowers partnered entries → IsBelow before entries
  pair_below top bottom uppers lowers [] entries within above below enters =
      new_below top bottom uppers lowers (newcomer_of manner (holds_track before top.net) (holds_track before bottom.net) uppers lowers) entries above below enters
  pair_below top bottom uppers lowers (first ∷ others) entries within above below (line, by, (partner, at, is)) =
      let upper = above line (within line (picked_is_option may (offer (top_question top (length before)) (own_lines top.net before)) (first ∷ others) line by)) in
      let found = filter-from (λ l. ltb l line) lowers partner (picked_is_option may (offer (bottom_question bottom) (own_lines bottom.net before)) (below_line line lowers) partner at) in
      let lower = below partner found.0 in
      let order : partner < line = ltb-true partner line found.1 in
      let apart = Apart-from (ids before) numbered.distinct in
      let first_line = line_of-line before line apart upper.begins upper.within in
      let second_line = line_of-line before partner apart lower.begins lower.within in
      subst (λ (e : Entries). IsBelow before e) (sym is) (omega (arith, order, first_line, second_line))

-- of two pins of different nets, that at the bottom enters the lower track
pub pins_below : (manner : Manner) (may : List Candidate → ℕ → Type 0) (pins : Pins) (column fresh : ℕ) (before : List Track) (done : Column) → AreNumbered fresh before
    → Follows manner may pins column fresh before done → 0 < top_pin pins column → 0 < bottom_pin pins column → top_pin pins column ≢ bottom_pin pins column
    → line_of (ids (entered pins column done before)) done.bottom < line_of (ids (entered pins column done before)) done.top
pins_below manner may pins column fresh before done numbered follows some too other =
    subst (λ l. line_of l done.bottom < line_of l done.top) (sym (ids-entered pins column before done))
    (by_kind (pin_kind (top_pin pins column) (bottom_pin pins column)) (kind_says (top_pin pins column) (bottom_pin pins column)) follows.enters) where
      by_kind : (kind : PinKind) → KindSays (top_pin pins column) (bottom_pin pins column) kind
          → EntersBy manner may (pin_of pins column (top_pin pins column)) (pin_of pins column (bottom_pin pins column)) before fresh kind (entries_of done)
          → IsBelow before (entries_of done)
      by_kind NoPins says enters = absurd (omega (arith, says.0, some))
      by_kind BottomAlone says enters = absurd (omega (arith, says.0, some))
      by_kind TopAlone says enters = absurd (omega (arith, says.1, too))
      by_kind EqualPins says enters = absurd (other says.1)
      by_kind TwoPins says enters =
          pair_below manner may before fresh numbered (pin_of pins column (top_pin pins column)) (pin_of pins column (bottom_pin pins column))
          (open_lines (top_pin pins column) before) (open_lines (bottom_pin pins column) before)
          (above_lowest (open_lines (bottom_pin pins column) before) (open_lines (top_pin pins column) before)) (entries_of done)
          (λ line member. above_lowest-within (open_lines (bottom_pin pins column) before) (open_lines (top_pin pins column) before) line member)
          (λ line member. IsOpenLine-from before (top_pin pins column) line member) (λ line member. IsOpenLine-from before (bottom_pin pins column) line member) enters

-- a vertical of a pin
bottom_is : (net id : ℕ) (v : Vertical) → Contains (bottom_verticals net id) v → (0 < net) × (record { net = net; low = floor; high = on id } ≡ v)
bottom_is net id v member = step (eqb net 0) refl member where
  step : (b : Bool) → eqb net 0 ≡ b → Contains (cond {A = List Vertical} b [] (record { net = net; low = floor; high = on id } ∷ [])) v
      → (0 < net) × (record { net = net; low = floor; high = on id } ≡ v)
  step true is member = absurd (member-none v member)
  step false is member = (eqb-positive net is, member-only (record { net = net; low = floor; high = on id }) v member)

top_is : (net id : ℕ) (v : Vertical) → Contains (top_verticals net id) v → (0 < net) × (record { net = net; low = on id; high = ceiling } ≡ v)
top_is net id v member = step (eqb net 0) refl member where
  step : (b : Bool) → eqb net 0 ≡ b → Contains (cond {A = List Vertical} b [] (record { net = net; low = on id; high = ceiling } ∷ [])) v
      → (0 < net) × (record { net = net; low = on id; high = ceiling } ≡ v)
  step true is member = absurd (member-none v member)
  step false is member = (eqb-positive net is, member-only (record { net = net; low = on id; high = ceiling }) v member)

-- the verticals of two pins do not meet where the one's track lies below the other's
pin_pieces : (order : List ℕ) (straight : Bool) (top_net bottom_net top bottom : ℕ)
    → (straight ≡ false → 0 < top_net → 0 < bottom_net → line_of order bottom < line_of order top)
    → AreUncrossed (map (span_in order) (verticals_of_pins straight top_net bottom_net top bottom))
pin_pieces order true top_net bottom_net top bottom below s t first second meet =
    let whole : Span = record { net = top_net; low = 0; high = length order + 1 } in
    ap (λ (u : Span). u.net) (sym (member-only whole s first) ∙ member-only whole t second)
pin_pieces order false top_net bottom_net top bottom below s t first second meet =
    let from = map-cases (span_in order) (verticals_of_pins false top_net bottom_net top bottom) s first in
    let to = map-cases (span_in order) (verticals_of_pins false top_net bottom_net top bottom) t second in
    elim (Contains-append_cases (bottom_verticals bottom_net bottom) (top_verticals top_net top) from.0 from.1) [
      | inl one ↦ let v = bottom_is bottom_net bottom from.0 one in
          let s_is : span_in order (record { net = bottom_net; low = floor; high = on bottom }) ≡ s = ap (span_in order) v.1 ∙ from.2 in
          elim (Contains-append_cases (bottom_verticals bottom_net bottom) (top_verticals top_net top) to.0 to.1) [
            | inl too ↦ let w = bottom_is bottom_net bottom to.0 too in
                ap (λ (u : Span). u.net) (sym s_is ∙ ap (span_in order) w.1 ∙ to.2)
            | inr other ↦ let w = top_is top_net top to.0 other in
                let t_is : span_in order (record { net = top_net; low = on top; high = ceiling }) ≡ t = ap (span_in order) w.1 ∙ to.2 in
                absurd (omega (arith, meet.1, ap (λ (u : Span). u.low) t_is, ap (λ (u : Span). u.high) s_is, below refl w.0 v.0))
          ]
      | inr one ↦ let v = top_is top_net top from.0 one in
          let s_is : span_in order (record { net = top_net; low = on top; high = ceiling }) ≡ s = ap (span_in order) v.1 ∙ from.2 in
          elim (Contains-append_cases (bottom_verticals bottom_net bottom) (top_verticals top_net top) to.0 to.1) [
            | inl other ↦ let w = bottom_is bottom_net bottom to.0 other in
                let t_is : span_in order (record { net = bottom_net; low = floor; high = on bottom }) ≡ t = ap (span_in order) w.1 ∙ to.2 in
                absurd (omega (arith, meet.0, ap (λ (u : Span). u.low) s_is, ap (λ (u : Span). u.high) t_is, below refl v.0 w.0))
            | inr too ↦ let w = top_is top_net top to.0 too in
                ap (λ (u : Span). u.net) (sym s_is ∙ ap (span_in order) w.1 ∙ to.2)
          ]
    ]

-- the verticals of a column's pins cross nothing
pub uncrossed-pins : (manner : Manner) (may : List Candidate → ℕ → Type 0) (pins : Pins) (column fresh : ℕ) (before : List Track) (done : Column) → AreNumbered fresh before
    → Follows manner may pins column fresh before done → AreUncrossed (pin_spans pins column (entered pins column done before) done)
uncrossed-pins manner may pins column fresh before done numbered follows =
    pin_pieces (ids (entered pins column done before)) done.straight (top_pin pins column) (bottom_pin pins column) done.top done.bottom
    (λ no some too. pins_below manner may pins column fresh before done numbered follows some too
    (λ same. let straight : done.straight ≡ true = follows.straight.1 (record { some = some; equal = same }) in cc (no, straight)))
