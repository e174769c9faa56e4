use Rattle.std.proofs.Common.{◌+◌, ℕ, ap, ap₂, ◌∙◌, arith, length, slice_get}
use Rattle.row_board.specs.Moving.{row_there}
use Rattle.row_board.specs.Trial.{seats_between}
use Rattle.row_board.proofs.PlaceLaws.{there-short}
use Rattle.row_board.proofs.trial.shifted_seats.Goals as goal

pub returns : goal.returns
returns c =
    let reach = c.moved_seats-reach in
    let rows = c.args.rows.now in
    record {
      is = c.between.ensures.is ∙ ap (seats_between (reach.result.from + 1) reach.result.to) c.row_at.ensures
          ∙ ap₂ (λ (from row : ℕ). seats_between (from + 1) reach.result.to (row_there (slice_get rows row))) reach.ensures.from reach.ensures.row
          ∙ ap (λ (to : ℕ). seats_between (c.args.one.place + 1) to (row_there (slice_get rows c.args.one.row))) reach.ensures.to;
      few = omega (arith, c.between.ensures.few, ap length c.row_at.ensures, there-short c.args.costs.now.design rows c.design-design.ensures.good c.requires reach.result.row);
    }
