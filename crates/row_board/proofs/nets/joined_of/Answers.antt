use Rattle.std.proofs.Common.{ℕ, List, [], ◌∷◌, ◌++◌, ap, ap₂, sym, ◌∙◌, arith, map, slice_get, sum}
use Rattle.std.proofs.lemmas.List.FromFn.{map-range_with_len_more}
use Rattle.list_facts.specs.Lists.{list_there}
use Rattle.row_board.specs.NetPins.{joined_by}
use Rattle.row_board.specs.declared.net_pins.InstancePin.{InstancePin}
use Rattle.row_board.proofs.nets.joined_of.Goals as goal

pub loop-instance-preserved : goal.loop-instance-preserved
loop-instance-preserved c =
    c.in_ok-push.ensures.items
    ∙ ap₂ (λ (l : List ℕ) (n : ℕ). l ++ n ∷ []) c.loop-instance.invariant (c.joined_among.ensures ∙ ap (λ (l : List InstancePin). sum (map (joined_by c.args.nets.now) l)) c.at.ensures)
    ∙ sym (map-range_with_len_more (λ (i : ℕ). sum (map (joined_by c.args.nets.now) (list_there (slice_get c.args.pins.now i)))) 0 c.loop-instance.instance c.loop-instance.instance (omega arith))
