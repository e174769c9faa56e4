use Rattle.std.proofs.Common.{◌≡◌, ◌+◌, ◌-◌, ℕ, ap, sym, ◌∙◌, arith, drop, set, subst, take}
use Rattle.std.proofs.lemmas.List.{length-set}
use Rattle.row_board.specs.Extreme.{IsExtreme}
use Rattle.row_board.specs.Extremes.{high_extreme, low_extreme, part_of}
use Rattle.row_board.specs.declared.extreme.Side.TheVariants.{Low, High}
use Rattle.row_board.specs.declared.extremes.Extremes.{Extremes}
use Rattle.row_board.proofs.ExtremesLaws.{extremes-get, extremes-length, slice-here}
use Rattle.row_board.proofs.extremes.Extremes.put.Goals as goal

pub returns-clause-is : goal.returns-clause-is
returns-clause-is c =
    let p = c.args.self.now in
    let numbers = c.args.numbers.now in
    let new = set numbers (p.start + c.args.place) c.args.number in
    let end : p.start + p.count - p.start ≡ p.count = omega arith in
    let there = extremes-get numbers p c.args.place 0 c.requires.within c.requires.place in
    let made = slice-here numbers p (p.start + p.count) c.args.place c.args.number (omega arith) c.requires.place in
    let rest = c.keep.ensures.rest in
    let count = ap (λ (x : Extremes). x.count) rest in
    let long = extremes-length new p (omega (arith, c.requires.within, length-set numbers (p.start + c.args.place) c.args.number)) in
    record {
      low = subst (λ (n : ℕ). IsExtreme Low (take n (drop p.start new)) (low_extreme c.keep.new.self)) end
          (c.keep.ensures.low (part_of numbers p) c.args.place c.requires.is.low there made);
      high = subst (λ (n : ℕ). IsExtreme High (take n (drop p.start new)) (high_extreme c.keep.new.self)) end
          (c.keep.ensures.high (part_of numbers p) c.args.place c.requires.is.high there made);
      none = λ none. absurd (omega (arith, none, long, c.requires.place));
      count = count ∙ sym long;
    }
