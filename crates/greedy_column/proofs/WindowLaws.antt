use Rattle.std.proofs.Common.{◌≡◌, ◌<◌, ◌≤◌, ◌+◌, ◌-◌, ◌^◌, ◌&&◌, ◌||◌, eqb, leb, ltb, max, min, ℕ, Bool, true, false, refl, sym, ap, ◌∙◌, arith, eq-eqb}
use Rattle.std.proofs.lemmas.Bool.{and_from, le-leb}
use Rattle.std.proofs.lemmas.Bool.Decides.{nat_tests}

-- a test more changes nothing where it holds, or where nothing is left
and-true : (b : Bool) → b ≡ (b && true)
and-true true = refl
and-true false = refl

and-false : (b : Bool) → false ≡ (b && false)
and-false true = refl
and-false false = refl

and-swap : (a b c : Bool) → ((a && c) && b) ≡ ((a && b) && c)
and-swap true true c = sym (and-true c)
and-swap true false c = sym (and-false c)
and-swap false b c = refl

and-later : (a b c : Bool) → ((a && b) && c) ≡ (a && (b && c))
and-later true b c = refl
and-later false b c = refl

-- a vertical of the track's own net parts nothing
pub own_net : (b : Bool) (n m : ℕ) (clear : Bool) → n ≡ m → b ≡ (b && (eqb n m || clear))
own_net b n m clear same = and-true b ∙ ap (λ t. b && (t || clear)) (sym (eq-eqb n m same))

-- a line, of these, lies within a window; and the way to it from a line is clear of what lies from a bottom to a top
abbrev inside : ℕ → ℕ → ℕ → Bool
inside low high other = leb low other && leb other high

abbrev pub clear : ℕ → ℕ → ℕ → ℕ → Bool
clear line other bottom top = ltb top (min line other) || ltb (max line other) bottom

module _ (low high line bottom top other : ℕ) (own : Bool) (apart : own ≡ false) where
  clear_is : clear line other bottom top ≡ (own || clear line other bottom top)
  clear_is = ap (λ t. t || clear line other bottom top) (sym apart)

  clear_nowhere : top < line → line < bottom → true ≡ clear line other bottom top
  clear_nowhere ends begins = grind (arith, nat_tests)

  clear_above : top < line → bottom ≤ line → ltb top other ≡ clear line other bottom top
  clear_above ends begins = grind (arith, nat_tests)

  clear_below : line ≤ top → line < bottom → ltb other bottom ≡ clear line other bottom top
  clear_below ends begins = grind (arith, nat_tests)

  clear_never : line ≤ top → bottom ≤ line → false ≡ clear line other bottom top
  clear_never ends begins = grind (arith, nat_tests)

  raised : leb (max low (top + 1)) other ≡ (leb low other && ltb top other)
  raised = grind (arith, nat_tests)

  lowered : 0 < bottom → leb other (min high (bottom - 1)) ≡ (leb other high && ltb other bottom)
  lowered some = grind (arith, nat_tests)

  -- a window past a vertical of another net that does not lie from a lower line to a higher one, that ends below the line, that
  -- begins above it, and that covers it
  pub past_nothing : top < line → line < bottom → inside low high other ≡ (inside low high other && (own || clear line other bottom top))
  past_nothing ends begins = and-true (inside low high other) ∙ ap (λ t. inside low high other && t) (clear_nowhere ends begins ∙ clear_is)

  pub past_lower : (least : ℕ) → least ≡ max low (top + 1) → top < line → bottom ≤ line
      → inside least high other ≡ (inside low high other && (own || clear line other bottom top))
  past_lower least is ends begins =
      ap (λ n. inside n high other) is ∙ ap (λ t. t && leb other high) raised ∙ and-swap (leb low other) (leb other high) (ltb top other)
      ∙ ap (λ t. inside low high other && t) (clear_above ends begins ∙ clear_is)

  pub past_upper : (most : ℕ) → most ≡ min high (bottom - 1) → line ≤ top → line < bottom
      → inside low most other ≡ (inside low high other && (own || clear line other bottom top))
  past_upper most is ends begins =
      ap (λ n. inside low n other) is ∙ ap (λ t. leb low other && t) (lowered (omega (arith, begins))) ∙ sym (and-later (leb low other) (leb other high) (ltb other bottom))
      ∙ ap (λ t. inside low high other && t) (clear_below ends begins ∙ clear_is)

  none_inside : false ≡ inside 1 0 other
  none_inside = grind (arith, nat_tests)

  pub past_cover : line ≤ top → bottom ≤ line → inside 1 0 other ≡ (inside low high other && (own || clear line other bottom top))
  past_cover ends begins =
      sym none_inside ∙ and-false (inside low high other) ∙ ap (λ t. inside low high other && t) (clear_never ends begins ∙ clear_is)

-- each line is within the whole window, and a loop over verticals goes on and ends
pub whole : (other : ℕ) (later : Bool) → other < 2 ^ 32 → (inside 0 4294967295 other && later) ≡ later
whole other later fits = ap (λ t. t && later) (and_from (leb 0 other) (leb other 4294967295) (le-leb 0 other (omega arith)) (le-leb other 4294967295 (omega (arith, fits))))

pub past_more : (narrowed window passes later all : Bool) → narrowed ≡ (window && passes) → (window && (passes && later)) ≡ all → (narrowed && later) ≡ all
past_more narrowed window passes later all is so_far = ap (λ t. t && later) is ∙ and-later window passes later ∙ so_far

pub past_all : (window all : Bool) → (window && true) ≡ all → window ≡ all
past_all window all is = and-true window ∙ is
