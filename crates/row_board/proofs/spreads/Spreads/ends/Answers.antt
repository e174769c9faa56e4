use Rattle.std.proofs.Common.{◌≡◌, ◌<◌, ◌∷◌, ℕ, List, Some, slice_get, length, refl, ap, ◌∙◌, arith}
use Rattle.std.proofs.lemmas.List.{length-map}
use Rattle.std.proofs.lemmas.Option.{slice_get_read}
use Rattle.row_board.specs.Extreme.{across, alone_at_end, at_end}
use Rattle.row_board.specs.Extremes.{part_of}
use Rattle.row_board.specs.Spreads.{NumberLists}
use Rattle.row_board.specs.declared.extreme.Extreme.{Extreme}
use Rattle.row_board.specs.declared.extreme.Side.{Side}
use Rattle.row_board.proofs.EndLaws.{kept-extreme}
use Rattle.row_board.proofs.spreads.Spreads.ends.Goals as goal

pub index-requires : goal.index-requires
index-requires c =
    let i = c.self.inside in
    omega (arith, c.requires, ap (λ (v : NumberLists). length v.lists) c.self.view_is, length-map i.lists.items (part_of i.numbers.items))

pub returns : goal.returns
returns c =
    let i = c.self.inside in
    let p = c.index.result.now in
    let within : c.args.list < length i.lists.items =
    omega (arith, c.requires, ap (λ (v : NumberLists). length v.lists) c.self.view_is, length-map i.lists.items (part_of i.numbers.items)) in
    let there : slice_get i.lists.items c.args.list ≡ Some p = slice_get_read i.lists.items (length i.lists.items) c.args.list p refl within c.index.ensures in
    let told = λ (side : Side) (n : ℕ) (ns : List ℕ) (at : slice_get c.args.self.now.lists c.args.list ≡ Some (n ∷ ns)).
    kept-extreme i.numbers.items i.lists.items side c.args.list p c.self.invariant.each there n ns (ap (λ (v : NumberLists). slice_get v.lists c.args.list) c.self.view_is ∙ at) in
    record {
      ends = λ n ns at. c.ends.ensures.ends ∙ ap (λ (e : Extreme). at_end e c.args.number) (told c.args.side n ns at);
      alone = λ n ns at. c.ends.ensures.alone ∙ ap (λ (e : Extreme). alone_at_end e c.args.number) (told (across c.args.side) n ns at);
      few = c.ends.ensures.few;
      few_alone = c.ends.ensures.few_alone;
    }
