use Rattle.std.proofs.Common.{◌≡◌, ◌<◌, List, ℕ, false, sym, subst, arith}
use Rattle.std.proofs.lemmas.Bool.Decides.{nat_tests}
use Rattle.std.specs.Prelude.{nat_eq, nat_lt}
use Rattle.row_board.specs.Extreme.{IsExtreme}
use Rattle.row_board.specs.Extremes.{high_extreme}
use Rattle.row_board.specs.declared.extreme.Side.TheVariants.{High}
use Rattle.row_board.proofs.ExtremeLaws.{extreme-kept}
use Rattle.row_board.proofs.extremes.Extremes.keep_greatest.Goals as goal

pub returns-then-now-self-clause-is : goal.returns-then-now-self-clause-is
returns-then-now-self-clause-is c = λ old k is at made.
    let e = high_extreme c.args.self.now in
    let behind : c.args.was < c.args.self.now.greatest = c.if-was-self.true in
    let ahead : c.args.now < c.args.self.now.greatest = c.if-now-self.true in
    let off : nat_eq c.args.was c.args.self.now.greatest ≡ false = grind (arith, nat_tests) in
    let other : nat_eq c.args.now c.args.self.now.greatest ≡ false = grind (arith, nat_tests) in
    let inside : nat_lt c.args.self.now.greatest c.args.now ≡ false = grind (arith, nat_tests) in
    subst (λ (l : List ℕ). IsExtreme High l e) (sym made) (extreme-kept High old e k c.args.was c.args.now is at off other inside)
