use Rattle.std.proofs.Common.{◌≡◌, ◌≤◌, ◌+◌, ℕ, List, Some, length, map, set, refl, ap, sym, ◌∙◌, arith, subst}
use Rattle.std.proofs.lemmas.List.{length-set, set_past, with_items_is}
use Rattle.std.proofs.lemmas.Option.{same_Some, slice_get_read}
use Rattle.std.specs.List.{slice_get}
use Rattle.std.specs.Option.{option_map}
use Rattle.row_board.specs.Extremes.{part_of, AreExtremes}
use Rattle.row_board.specs.Spreads.{number_put, NumberLists}
use Rattle.row_board.specs.declared.extremes.Extremes.{Extremes}
use Rattle.row_board.proofs.ExtremesLaws.{extremes-length}
use Rattle.row_board.proofs.SpreadLaws.{IsWritten, lists-same, lists-written, extremes-written, spreads-written, widths-changed, widths-fit}
use Rattle.std_laws.proofs.Every.{every-get, every-set}
use Rattle.std_laws.proofs.Places.{map-at}
use Rattle.row_board.proofs.spreads.Spreads.set.Goals as goal

pub returns-then-place-index-clause-lists : goal.returns-then-place-index-clause-lists
returns-then-place-index-clause-lists c = λ n.
    let i = c.self.inside in
    let p = c.index.result.now in
    let at : slice_get i.lists.items c.args.list ≡ Some p =
    slice_get_read i.lists.items (length i.lists.items) c.args.list p refl (omega (arith, c.if-list-len.false, c.len.ensures)) c.index.ensures in
    let within = every-get _ i.lists.items c.args.list p c.self.invariant.each at in
    subst (λ (v : NumberLists). slice_get v.lists n ≡ option_map (number_put c.args.list c.args.place c.args.number n) (slice_get v.lists n)) c.self.view_is
    (lists-same (map (part_of i.numbers.items) i.lists.items) c.args.list c.args.place c.args.number
    (λ ns there.
    let is : part_of i.numbers.items p ≡ ns = same_Some _ ns (sym (map-at (part_of i.numbers.items) i.lists.items c.args.list p at) ∙ there) in
    set_past ns c.args.place c.args.number (omega (arith, ap length is, extremes-length i.numbers.items p within.within, c.if-place-index.true))) n)

pub overflow_sub-self : goal.overflow_sub-self
overflow_sub-self c =
    let i = c.self.inside in
    let p = c.index_mut-extremes.result.now in
    let at : slice_get i.lists.items c.args.list ≡ Some p =
    slice_get_read i.lists.items (length i.lists.items) c.args.list p refl (omega (arith, c.if-list-len.false, c.len.ensures)) c.index_mut-extremes.ensures.value in
    omega (arith, (widths-changed i.lists.items c.args.list p c.put.new.self at).0, c.distance-before.ensures, c.self.invariant.sum)

pub overflow_add-self : goal.overflow_add-self
overflow_add-self c =
    let i = c.self.inside in
    let p = c.index_mut-extremes.result.now in
    let at : slice_get i.lists.items c.args.list ≡ Some p =
    slice_get_read i.lists.items (length i.lists.items) c.args.list p refl (omega (arith, c.if-list-len.false, c.len.ensures)) c.index_mut-extremes.ensures.value in
    let same : c.index.result.now ≡ p =
    same_Some c.index.result.now p
    (sym (slice_get_read i.lists.items (length i.lists.items) c.args.list c.index.result.now refl (omega (arith, c.if-list-len.false, c.len.ensures)) c.index.ensures) ∙ at) in
    let made = c.put.ensures.numbers ∙ ap (λ (l : List ℕ). set l (p.start + c.args.place) c.args.number) c.as_mut_slice.ensures.value in
    let w : IsWritten i.numbers.items i.lists.items c.args.list c.args.place c.args.number p c.put.new.self = record {
      all = c.self.invariant.each;
      behind = c.self.invariant.behind;
      at = at;
      inside = omega (arith, c.if-place-index.false, ap (λ (x : Extremes). x.count) same);
      start = c.put.ensures.start;
      count = c.put.ensures.count;
      is = subst (λ (l : List ℕ). AreExtremes (part_of l p) c.put.new.self) made c.put.ensures.is;
    } in
    let few : c.args.number ≤ i.most = omega (arith, c.requires, ap (λ (v : NumberLists). v.most) c.self.view_is) in
    omega (
      arith,
      widths-fit i.most (set i.numbers.items (p.start + c.args.place) c.args.number) (set i.lists.items c.args.list c.put.new.self)
          (every-set (λ (n : ℕ). n ≤ i.most) i.numbers.items (p.start + c.args.place) c.args.number c.self.invariant.small few)
          (extremes-written i.numbers.items i.lists.items c.args.list c.args.place c.args.number p c.put.new.self w) c.self.invariant.low
          (omega (arith, length-set i.lists.items c.args.list c.put.new.self, c.self.invariant.few)),
      (widths-changed i.lists.items c.args.list p c.put.new.self at).1,
      c.distance-before.ensures,
      c.distance-now.ensures,
      c.self.invariant.sum,
    )

pub invariant_of-self : goal.invariant_of-self
invariant_of-self c =
    let i = c.self.inside in
    let p = c.index_mut-extremes.result.now in
    let at : slice_get i.lists.items c.args.list ≡ Some p =
    slice_get_read i.lists.items (length i.lists.items) c.args.list p refl (omega (arith, c.if-list-len.false, c.len.ensures)) c.index_mut-extremes.ensures.value in
    let same : c.index.result.now ≡ p =
    same_Some c.index.result.now p
    (sym (slice_get_read i.lists.items (length i.lists.items) c.args.list c.index.result.now refl (omega (arith, c.if-list-len.false, c.len.ensures)) c.index.ensures) ∙ at) in
    let made = c.put.ensures.numbers ∙ ap (λ (l : List ℕ). set l (p.start + c.args.place) c.args.number) c.as_mut_slice.ensures.value in
    let long = ap length c.put.ensures.numbers ∙ length-set c.as_mut_slice.result.now (p.start + c.args.place) c.args.number ∙ c.as_mut_slice.ensures.len in
    spreads-written i _ c.args.list c.args.place c.args.number p c.put.new.self c.self.invariant
    (record {
      all = c.self.invariant.each;
      behind = c.self.invariant.behind;
      at = at;
      inside = omega (arith, c.if-place-index.false, ap (λ (x : Extremes). x.count) same);
      start = c.put.ensures.start;
      count = c.put.ensures.count;
      is = subst (λ (l : List ℕ). AreExtremes (part_of l p) c.put.new.self) made c.put.ensures.is;
    })
    (with_items_is i.numbers c.put.new.numbers long ∙ made) refl refl (omega (arith, c.distance-before.ensures, c.distance-now.ensures))
    (omega (arith, c.requires, ap (λ (v : NumberLists). v.most) c.self.view_is))

pub returns-clause-lists : goal.returns-clause-lists
returns-clause-lists c = λ n.
    let i = c.self.inside in
    let p = c.index_mut-extremes.result.now in
    let at : slice_get i.lists.items c.args.list ≡ Some p =
    slice_get_read i.lists.items (length i.lists.items) c.args.list p refl (omega (arith, c.if-list-len.false, c.len.ensures)) c.index_mut-extremes.ensures.value in
    let same : c.index.result.now ≡ p =
    same_Some c.index.result.now p
    (sym (slice_get_read i.lists.items (length i.lists.items) c.args.list c.index.result.now refl (omega (arith, c.if-list-len.false, c.len.ensures)) c.index.ensures) ∙ at) in
    let made = c.put.ensures.numbers ∙ ap (λ (l : List ℕ). set l (p.start + c.args.place) c.args.number) c.as_mut_slice.ensures.value in
    let long = ap length c.put.ensures.numbers ∙ length-set c.as_mut_slice.result.now (p.start + c.args.place) c.args.number ∙ c.as_mut_slice.ensures.len in
    ap (λ (l : List ℕ). slice_get (map (part_of l) (set i.lists.items c.args.list c.put.new.self)) n) (with_items_is i.numbers c.put.new.numbers long ∙ made)
    ∙ lists-written i.numbers.items i.lists.items c.args.list c.args.place c.args.number p c.put.new.self (record {
      all = c.self.invariant.each;
      behind = c.self.invariant.behind;
      at = at;
      inside = omega (arith, c.if-place-index.false, ap (λ (x : Extremes). x.count) same);
      start = c.put.ensures.start;
      count = c.put.ensures.count;
      is = subst (λ (l : List ℕ). AreExtremes (part_of l p) c.put.new.self) made c.put.ensures.is;
    }) n
    ∙ ap (λ (v : NumberLists). option_map (number_put c.args.list c.args.place c.args.number n) (slice_get v.lists n)) c.self.view_is
