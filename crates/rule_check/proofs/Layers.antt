use Rattle.std.proofs.Common.{◌≡◌, ◌+◌, ◌*◌, ◌≤◌, ◌≤ℤ◌, ℕ, pos, List, Bool, true, false, if◌then◌else◌, ◌&&◌, ◌||◌, not, eqb, Option, Some, None, refl, ap, subst, sym, ◌∙◌, arith}
use Rattle.std.specs.Prelude.{All}
use Rattle.std.specs.List.{zip}
use Rattle.std.specs.Option.{option_map}
use Rattle.std.specs.Str.{bytes_eq}
use Rattle.std.proofs.lemmas.Bool.{and_right}
use Rattle.std.proofs.lemmas.Int.{ints}
use Rattle.std.proofs.Math.Nat.{mul-le-mul}
use Rattle.geom_core.specs.Reach.{IsShapeInReach}
use Rattle.geom_core.specs.declared.layout.Shape.{Shape}
use Rattle.close_rects.specs.ClosePairs.{is_close}
use Rattle.close_rects.specs.Crowds.{KeepsInReach, crowds_of}
use Rattle.close_rects.specs.declared.member.Member.{Member}
use Rattle.close_rects.proofs.PlaneLaws.{in_plane-wide, is_close-planes}
use Rattle.tech_rules.specs.Lengths.{length_in}
use Rattle.tech_rules.specs.Rules.{AreDifferent, RuleValues, ValidRules}
use Rattle.rule_check.specs.Crowded.{are_too_close}
use Rattle.rule_check.specs.Failing.{failing_pairs}
use Rattle.rule_check.specs.Members.{layer_of, member_on, members_from, plane_of, space_of, wire_member}
use Rattle.rule_check.specs.declared.wires.Layer.{Layer}
use Rattle.rule_check.specs.declared.wires.Layer.TheVariants.{Horizontal, Vertical, Cut}
use Rattle.rule_check.proofs.Crowding.{crowds-failing, do_crowd, members-reach}
use Rattle.std_laws.proofs.Members.{all-get}
use Rattle.std_laws.proofs.Zips.{at-zip}
use Rattle.std_laws.proofs.Tests.{or-false, not-and}
use Rattle.std_laws.proofs.Bytes.{bytes-other}

-- a length of at most a thousand units
length-short : (r : RuleValues) (units : ℕ) → ValidRules r → units ≤ 1000 → length_in r units ≤ℤ pos 2000000
length-short r units valid few =
    let centi : r.grid.centi ≤ 1000 = valid.ranges.grid.centi.1 in
    let product : units * r.grid.centi ≤ 1000 * 1000 = mul-le-mul few centi in
    grind (arith, ints)

space-some : (r : RuleValues) (layer : Layer) → pos 0 ≤ℤ space_of r layer
space-some r Horizontal = grind (arith, ints)
space-some r Vertical = grind (arith, ints)
space-some r Cut = grind (arith, ints)

pub space-short : (r : RuleValues) (layer : Layer) → ValidRules r → space_of r layer ≤ℤ pos 2000000
space-short r Horizontal valid = length-short r r.horizontal.space valid valid.ranges.horizontal.space.1
space-short r Vertical valid = length-short r r.vertical.space valid valid.ranges.vertical.space.1
space-short r Cut valid = length-short r r.cut.space valid valid.ranges.cut.space.1

plane-few : (layer : Layer) → plane_of layer ≤ 2
plane-few Horizontal = omega arith
plane-few Vertical = omega arith
plane-few Cut = omega arith

-- whether this is the layer
abbrev has : Option Layer → Layer → Bool
has None layer = false
has (Some found) layer = eqb (plane_of found) (plane_of layer)

-- the tests for three layers, where this one was found
abbrev Finds : Option Layer → Bool → Bool → Bool → Type 0
Finds found h v c = (h ≡ has found Horizontal) × (v ≡ has found Vertical) × (c ≡ has found Cut)

-- tests of which one at most holds
exclusive : (h v c : Bool) → (h ≡ true → v ≡ false) → (h ≡ true → c ≡ false) → (v ≡ true → c ≡ false)
    → Finds (if h then Some Horizontal else (if v then Some Vertical else (if c then Some Cut else None))) h v c
exclusive true v c hv hc vc = (refl, hv refl, hc refl)
exclusive false true c hv hc vc = (refl, refl, vc refl)
exclusive false false true hv hc vc = (refl, refl, refl)
exclusive false false false hv hc vc = (refl, refl, refl)

-- a name is that of the layer that is found by it
layers-apart : (r : RuleValues) (name : List ℕ) → AreDifferent r
    → Finds (layer_of r name) (bytes_eq name r.horizontal.layer) (bytes_eq name r.vertical.layer) (bytes_eq name r.cut.layer)
layers-apart r name different =
    exclusive (bytes_eq name r.horizontal.layer) (bytes_eq name r.vertical.layer) (bytes_eq name r.cut.layer)
    (bytes-other name r.horizontal.layer r.vertical.layer different.horizontal_vertical)
    (bytes-other name r.horizontal.layer r.cut.layer different.horizontal_cut)
    (bytes-other name r.vertical.layer r.cut.layer different.vertical_cut)

-- two shapes of classes on layers, one of which both have
abbrev crowd_test : Bool → Option Layer → Option Layer → (Layer → Bool) → Bool
crowd_test same first second close =
    not same
    && (((has first Horizontal && has second Horizontal) && close Horizontal) || ((has first Vertical && has second Vertical) && close Vertical)
    || ((has first Cut && has second Cut) && close Cut))

tested : (same h v c h2 v2 c2 : Bool) (first second : Option Layer) (close : Layer → Bool) → Finds first h v c → Finds second h2 v2 c2
    → (not same && (((h && h2) && close Horizontal) || ((v && v2) && close Vertical) || ((c && c2) && close Cut)))
    ≡ crowd_test same first second close
tested same h v c h2 v2 c2 first second close one other = rw (one.0, one.1, one.2, other.0, other.1, other.2) refl

-- of the three layers only the one that the first is on counts
one-layer : (p : Layer) (q : Option Layer) (close : Layer → Bool)
    → (((has (Some p) Horizontal && has q Horizontal) && close Horizontal) || ((has (Some p) Vertical && has q Vertical) && close Vertical)
    || ((has (Some p) Cut && has q Cut) && close Cut))
    ≡ (has q p && close p)
one-layer Horizontal q close = or-false _ ∙ or-false (has q Horizontal && close Horizontal)
one-layer Vertical q close = or-false (has q Vertical && close Vertical)
one-layer Cut q close = refl

-- two shapes are too close exactly where their members crowd
pub too-close-members : (r : RuleValues) (n m : ℕ) (a b : ℕ × Shape) → ValidRules r → IsShapeInReach a.1 → IsShapeInReach b.1
    → are_too_close r a b ≡ do_crowd (wire_member r n a) (wire_member r m b)
too-close-members r n m a b valid first second =
    tested (eqb a.0 b.0) _ _ _ _ _ _ (layer_of r a.1.layer) (layer_of r b.1.layer) close
    (layers-apart r a.1.layer valid.layers) (layers-apart r b.1.layer valid.layers)
    ∙ cases (layer_of r a.1.layer) (layer_of r b.1.layer)
  where
    close : Layer → Bool
    close layer = is_close (space_of r layer) a.1.rect b.1.rect

    cases : (p q : Option Layer)
        → crowd_test (eqb a.0 b.0) p q close
        ≡ do_crowd (option_map (λ layer. member_on r layer n a) p) (option_map (λ layer. member_on r layer m b) q)
    cases None q = and_right _ _ refl
    cases (Some p) None = and_right _ _ (one-layer p None close)
    cases (Some p) (Some q) =
        ap (λ t. not (eqb a.0 b.0) && t) (one-layer p (Some q) close)
        ∙ not-and (eqb a.0 b.0) (has (Some q) p && close p)
        ∙ ap (λ t. if eqb a.0 b.0 then false else t)
        (sym (is_close-planes (plane_of p) (plane_of q) (space_of r p) a.1.rect b.1.rect (space-short r p valid) first second))

-- such members keep their distance within reach
pub wire-reach : (r : RuleValues) (n : ℕ) (a : ℕ × Shape) (member : Member) → ValidRules r → IsShapeInReach a.1
    → wire_member r n a ≡ Some member → KeepsInReach member
wire-reach r n a member valid reach is = cases (layer_of r a.1.layer) is
  where
    keeps : (layer : Layer) → KeepsInReach (member_on r layer n a)
    keeps layer =
        let short : space_of r layer ≤ℤ pos 2000000 = space-short r layer valid in
        record { wide = in_plane-wide (plane_of layer) a.1.rect (plane-few layer) reach; low = space-some r layer; high = omega (arith, ints) }

    cases : (o : Option Layer) → option_map (λ layer. member_on r layer n a) o ≡ Some member → KeepsInReach member
    cases None none = let never : ⊥ = cc in absurd never
    cases (Some layer) some = let same : member_on r layer n a ≡ member = cc in subst KeepsInReach same (keeps layer)

pub wire-own : (r : RuleValues) (n : ℕ) (a : ℕ × Shape) (member : Member) → wire_member r n a ≡ Some member → member.number ≡ n
wire-own r n a member is = cases (layer_of r a.1.layer) is
  where
    cases : (o : Option Layer) → option_map (λ layer. member_on r layer n a) o ≡ Some member → member.number ≡ n
    cases None none = let never : ⊥ = cc in absurd never
    cases (Some layer) some = let same : member_on r layer n a ≡ member = cc in sym (ap (λ (m : Member). m.number) same)

-- the pairs of shapes that are too close are those of members that crowd
pub close-failing : (r : RuleValues) (classes : List ℕ) (shapes : List Shape) → ValidRules r → All IsShapeInReach shapes
    → crowds_of (members_from (wire_member r) 0 (zip classes shapes)) ≡ failing_pairs (are_too_close r) (zip classes shapes)
close-failing r classes shapes valid reach =
    crowds-failing (wire_member r) (are_too_close r) 0 (zip classes shapes) (wire-own r)
    (λ i j x y less x_is y_is. too-close-members r (0 + i) (0 + j) x y valid
    (all-get IsShapeInReach shapes i x.1 reach (at-zip classes shapes i x x_is).1)
    (all-get IsShapeInReach shapes j y.1 reach (at-zip classes shapes j y y_is).1))

pub close-reach : (r : RuleValues) (classes : List ℕ) (shapes : List Shape) → ValidRules r → All IsShapeInReach shapes
    → All KeepsInReach (members_from (wire_member r) 0 (zip classes shapes))
close-reach r classes shapes valid reach =
    members-reach (wire_member r) 0 (zip classes shapes)
    (λ k x a x_is is. wire-reach r (0 + k) x a valid (all-get IsShapeInReach shapes k x.1 reach (at-zip classes shapes k x x_is).1) is)
