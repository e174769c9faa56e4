use Rattle.std.proofs.Common.{◌≡◌, ◌++◌, ◌∷◌, [], length, rules}
use Rattle.row_board.specs.declared.flat_lists.Part.{Part}
use Rattle.row_board.proofs.FlatLaws.{lists-push}
use Rattle.row_board.proofs.flat_lists.FlatLists.push.Goals as goal

pub returns : goal.returns
returns g c =
    let items = c.self.inside.items.items in
    let p : Part = record { from = c.len-from.result; to = c.len.result } in
    let parts : c.push_reserved.new.self.items ≡ c.self.inside.parts.items ++ p ∷ [] = search rules in
    let from : p.from ≡ length items = search rules in
    let to : p.to ≡ length (items ++ c.args.list.now) = search rules in
    rw (parts, c.in_ok-extend_from_slice.ensures.items, ← c.self.view_is) (lists-push items c.args.list.now c.self.inside.parts.items p c.self.invariant from to)
