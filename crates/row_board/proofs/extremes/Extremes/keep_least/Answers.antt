use Rattle.std.proofs.Common.{◌≡◌, ◌<◌, List, ℕ, false, sym, subst, arith}
use Rattle.std.proofs.lemmas.Bool.Decides.{nat_tests}
use Rattle.std.specs.Prelude.{nat_eq, nat_lt}
use Rattle.row_board.specs.Extreme.{IsExtreme}
use Rattle.row_board.specs.Extremes.{low_extreme}
use Rattle.row_board.specs.declared.extreme.Side.TheVariants.{Low}
use Rattle.row_board.proofs.ExtremeLaws.{extreme-kept}
use Rattle.row_board.proofs.extremes.Extremes.keep_least.Goals as goal

pub returns-then-self-now-clause-is : goal.returns-then-self-now-clause-is
returns-then-self-now-clause-is c = λ old k is at made.
    let e = low_extreme c.args.self.now in
    let behind : c.args.self.now.least < c.args.was = c.if-self-was.true in
    let ahead : c.args.self.now.least < c.args.now = c.if-self-now.true in
    let off : nat_eq c.args.was c.args.self.now.least ≡ false = grind (arith, nat_tests) in
    let other : nat_eq c.args.now c.args.self.now.least ≡ false = grind (arith, nat_tests) in
    let inside : nat_lt c.args.now c.args.self.now.least ≡ false = grind (arith, nat_tests) in
    subst (λ (l : List ℕ). IsExtreme Low l e) (sym made) (extreme-kept Low old e k c.args.was c.args.now is at off other inside)
