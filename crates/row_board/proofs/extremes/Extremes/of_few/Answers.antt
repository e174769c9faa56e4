use Rattle.std.proofs.Common.{ℕ, ap, sym, ◌∙◌, arith, subst, refl, min, max}
use Rattle.row_board.specs.Extreme.{IsExtreme}
use Rattle.row_board.specs.Few.{few_count}
use Rattle.row_board.specs.declared.extreme.Side.TheVariants.{Low, High}
use Rattle.row_board.specs.declared.few.Few.{Few}
use Rattle.row_board.proofs.FewLaws.{few-greatest, few-least}
use Rattle.row_board.proofs.extremes.Extremes.of_few.Goals as goal

pub returns-clause-is : goal.returns-clause-is
returns-clause-is c =
    let ns = c.args.numbers.now in
    let few = c.of-few.ensures in
    let least = c.least-least.result in
    let greatest = c.greatest-greatest.result in
    let low = few-least ns least c.requires.some c.requires.few (c.least-least.ensures ∙ ap (λ (f : Few). min (min (min f.first f.second) f.third) f.fourth) few) in
    let high = few-greatest ns greatest c.requires.some c.requires.few (c.greatest-greatest.ensures ∙ ap (λ (f : Few). max (max (max f.first f.second) f.third) f.fourth) few) in
    record {
      low = subst (λ (n : ℕ). IsExtreme Low ns (record { at = least; count = n })) (sym (c.count.ensures ∙ ap (λ (f : Few). few_count f least) few)) low;
      high = subst (λ (n : ℕ). IsExtreme High ns (record { at = greatest; count = n })) (sym (c.count-2.ensures ∙ ap (λ (f : Few). few_count f greatest) few)) high;
      none = λ none. absurd (omega (arith, none, c.requires.some));
      count = refl;
    }
