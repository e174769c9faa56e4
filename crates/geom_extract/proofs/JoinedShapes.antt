use Rattle.std.proofs.Common.{◌↔◌, ℕ, List}
use Rattle.geom_core.specs.declared.layout.Layout.{Layout}
use Rattle.tech_rules.specs.Rules.{RuleValues}
use Rattle.design_model.specs.Joined.{Joined, Neighbours}
use Rattle.design_model.specs.Joined.Joined.{here as same_shape, step as further}
use Rattle.design_model.specs.Joined.Neighbours.{touching as neighbours_touch, of_one_terminal}
use Rattle.design_model.specs.Netlist.{Netlist}
use Rattle.geom_extract.proofs.Ties.{AreTies, DrawOne}
use Rattle.geom_extract.specs.Touching.{Beside, Connected}
use Rattle.geom_extract.specs.Touching.Beside.{touching, tied, tied_back}
use Rattle.geom_extract.specs.Touching.Connected.{here, step}
use Rattle.geom_extract.proofs.Chains.{connected-more}
use Rattle.geom_extract.proofs.Links.{beside-sym}

module _ (r : RuleValues) (d : Netlist) (l : Layout) (ties : List (ℕ × ℕ)) (are : AreTies r d l ties) where
  beside-neighbours : (i j : ℕ) → Beside r l.shapes ties i j → Neighbours r d l i j
  beside-neighbours i j (touching s t is there touch) = neighbours_touch s t is there touch
  beside-neighbours i j (tied among) =
      let one : DrawOne d l i j = are.each i j among in of_one_terminal one.cell one.instance one.terminal one.first one.second
  beside-neighbours i j (tied_back among) =
      let one : DrawOne d l j i = are.each j i among in of_one_terminal one.cell one.instance one.terminal one.second one.first

  connected-joined : (i j : ℕ) → Connected r l.shapes ties i j → Joined r d l i j
  connected-joined i j here = same_shape
  connected-joined i j (step {x = x} k chain beside) =
      further x (beside-neighbours k x (beside-sym r l.shapes ties x k beside)) (connected-joined i x chain)

  neighbours-connected : (i j : ℕ) → Neighbours r d l i j → Connected r l.shapes ties j i
  neighbours-connected i j (neighbours_touch s t is there touch) =
      step i here (beside-sym r l.shapes ties i j (touching s t is there touch))
  neighbours-connected i j (of_one_terminal cell instance terminal first second) =
      are.all j i (record { cell = cell; instance = instance; terminal = terminal; first = second; second = first })

  joined-connected : (j i : ℕ) → Joined r d l j i → Connected r l.shapes ties j i
  joined-connected j i same_shape = here
  joined-connected j i (further k next joined) = connected-more r l.shapes ties j k i (joined-connected j k joined) (neighbours-connected i k next)

  -- with the ties of a layout, the shapes that chains connect are those that are joined
  pub connected-is-joined : (i j : ℕ) → Connected r l.shapes ties i j ↔ Joined r d l i j
  connected-is-joined i j = (connected-joined i j, joined-connected i j)
