use Rattle.std.proofs.Common.{◌≡◌, ◌+◌, ◌-◌, ◌/◌, ◌%◌, ◌++◌, ◌∷◌, [], List, ℕ, suc, append_assoc, arith}
use Rattle.std.proofs.lemmas.Result.{on_ok_weaker}
use Rattle.layout_report.specs.MadeText.{last_digits}
use Rattle.layout_report.proofs.made.+put_last_digits.Goals as goal

-- one digit more, behind those before it
one-more : (start before after : List ℕ) (less k n : ℕ) → k ≡ suc less → before ≡ start ++ last_digits less (n / 10) → after ≡ before ++ (48 + n % 10) ∷ []
    → after ≡ start ++ last_digits k n
unfolding last_digits
one-more start before after less k n is so_far put = rw (put, so_far, is) (append_assoc start (last_digits less (n / 10)) _)

pub returns : goal.returns
returns t c =
    on_ok_weaker c.put.result (one-more _ _ _ (c.args.digits - 1) c.args.digits c.args.n (omega (arith, c.if-digits-eq0.false)) c.in_ok-put_last_digits.ensures) c.put.ensures
