use Rattle.std.proofs.Common.{sym, subst, ℕ, List, Contains}
use Rattle.std.proofs.lemmas.Option.{get_or_from_slice_get, slice_get_within}
use Rattle.geom_core.specs.declared.layout.Layout.{Layout}
use Rattle.geom_core.specs.declared.layout.Shape.{Shape}
use Rattle.tech_rules.specs.Lengths.{IsWire}
use Rattle.tech_rules.specs.Rules.{RuleValues}
use Rattle.design_model.specs.Joined.{Conducts, on_one, cut_to_wire, wire_to_cut, Touch}
use Rattle.design_model.specs.Netlist.{Netlist}
use Rattle.wire_geom.specs.declared.drawn.Drawn.{Drawn}
use Rattle.layout_laws.proofs.Chains.{AreTied, AreChained, itself, by_touch, by_tie, AreTogether, same, tied}

-- to touch is symmetric
pub Conducts-sym : {r : RuleValues} {a b : List ℕ} → Conducts r a b → Conducts r b a
Conducts-sym {r} (on_one wire e) = on_one (subst (λ (k : List ℕ). IsWire r k) e wire) (sym e)
Conducts-sym (cut_to_wire cut wire) = wire_to_cut wire cut
Conducts-sym (wire_to_cut wire cut) = cut_to_wire cut wire

pub Touch-sym : {r : RuleValues} {s t : Shape} → Touch r s t → Touch r t s
Touch-sym touch = record {
  layers = Conducts-sym touch.layers;
  meet = record { left = touch.meet.right; right = touch.meet.left; low = touch.meet.high; high = touch.meet.low };
}

-- to be tied is symmetric
pub AreTied-sym : {d : Netlist} {l : Layout} {ds : List Drawn} {a b : Drawn} → AreTied d l ds a b → AreTied d l ds b a
AreTied-sym tie = record {
  cell = tie.cell;
  instance = tie.instance;
  terminal = tie.terminal;
  from = tie.to;
  to = tie.from;
  first = tie.second;
  second = tie.first;
  at_from = tie.at_to;
  at_to = tie.at_from;
}

-- what is tied is among the rectangles
pub AreTied-contains : {d : Netlist} {l : Layout} {ds : List Drawn} {a b : Drawn} → AreTied d l ds a b → Contains ds b
AreTied-contains {ds} {b} tie = (tie.to, slice_get_within ds tie.to b tie.at_to, get_or_from_slice_get ds tie.to b b tie.at_to)

-- one chain, and then another
pub AreChained-trans : {r : RuleValues} {d : Netlist} {l : Layout} {ds : List Drawn} {b c a : Drawn} → AreChained r d l ds b a → AreChained r d l ds c b
    → AreChained r d l ds c a
AreChained-trans itself rest = rest
AreChained-trans (by_touch next there touch chain) rest = by_touch next there touch (AreChained-trans chain rest)
AreChained-trans (by_tie next tie chain) rest = by_tie next tie (AreChained-trans chain rest)

-- chains of two rectangles
pub touch-chained : {r : RuleValues} {d : Netlist} {l : Layout} {ds : List Drawn} {a b : Drawn} → Contains ds b → Touch r a.shape b.shape → AreChained r d l ds b a
touch-chained {b} there touch = by_touch b there touch itself

pub tie-chained : {r : RuleValues} {d : Netlist} {l : Layout} {ds : List Drawn} {a b : Drawn} → AreTied d l ds a b → AreChained r d l ds b a
tie-chained {b} tie = by_tie b tie itself

-- a chain read backwards
pub AreChained-sym : {r : RuleValues} {d : Netlist} {l : Layout} {ds : List Drawn} {b a : Drawn} → Contains ds a → AreChained r d l ds b a → AreChained r d l ds a b
AreChained-sym here itself = itself
AreChained-sym here (by_touch next there touch chain) = AreChained-trans (AreChained-sym there chain) (touch-chained here (Touch-sym touch))
AreChained-sym here (by_tie next tie chain) = AreChained-trans (AreChained-sym (AreTied-contains tie) chain) (tie-chained (AreTied-sym tie))

-- what draws one terminal is chained
pub AreTogether-chained : {r : RuleValues} {d : Netlist} {l : Layout} {ds : List Drawn} {a b : Drawn} → AreTogether d l ds a b → AreChained r d l ds b a
AreTogether-chained same = itself
AreTogether-chained (tied tie) = tie-chained tie
