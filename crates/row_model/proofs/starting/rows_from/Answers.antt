use Rattle.std.proofs.Common.{◌+◌, ◌-◌, ◌++◌, List, [], ◌∷◌, ap, ◌∙◌, arith, append_assoc}
use Rattle.row_model.specs.Start.{rows_from}
use Rattle.row_model.specs.declared.rows.Seat.{Seat}
use Rattle.row_model.proofs.StartLaws.{rows-last, rows-next}
use Rattle.row_model.proofs.starting.rows_from.Goals as goal

pub loop-left-preserved : goal.loop-left-preserved
loop-left-preserved c =
    let d = c.args.design.now in
    let rest = rows_from d c.args.target (c.loop-left.left - 1) (c.loop-left.first + c.taken-row.result) (c.loop-left.count - c.taken-row.result) in
    record {
      some = omega (arith, c.loop-left-test.true);
      total = omega (arith, c.taken-row.ensures.few, c.loop-left.invariant.total);
      made = ap (λ (l : List (List Seat)). l ++ rows_from d c.args.target (c.loop-left.left - 1) (c.loop-left.first + c.taken-row.result) (c.loop-left.count - c.taken-row.result)) c.in_ok-push.ensures.items
          ∙ append_assoc c.loop-left.made.items (c.new.result ∷ []) rest
          ∙ ap (λ (row : List Seat). c.loop-left.made.items ++ row ∷ rest) (c.new.ensures ∙ c.in_ok-seats.ensures)
          ∙ ap (λ (l : List (List Seat)). c.loop-left.made.items ++ l)
          (rows-next d c.args.target c.loop-left.left c.loop-left.first c.loop-left.count c.taken-row.result c.loop-left-test.true c.taken-row.ensures.is)
          ∙ c.loop-left.invariant.made;
    }

pub returns : goal.returns
returns c =
    c.in_ok-push-2.ensures.items
    ∙ ap (λ (row : List Seat). c.loop-left.made.items ++ row ∷ []) (c.new-2.ensures ∙ c.in_ok-seats-2.ensures)
    ∙ ap (λ (l : List (List Seat)). c.loop-left.made.items ++ l)
    (rows-last c.args.design.now c.args.target c.loop-left.left c.loop-left.first c.loop-left.count c.loop-left.invariant.some c.loop-left-test.false)
    ∙ c.loop-left.invariant.made
