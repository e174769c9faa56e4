use Rattle.std.proofs.Common.{◌≡◌, drop, fold, map}
use Rattle.geom_core.specs.declared.layout.Shape.{Shape}
use Rattle.list_facts.specs.Names.{mention}
use Rattle.list_facts.specs.Texts.{texts}
use Rattle.layout_picture.specs.Styles.{layers_of}
use Rattle.layout_picture.proofs.picture.layers_of.Given as goal

abbrev pub invariant-loop-shape : goal.invariant-loop-shape
invariant-loop-shape l = record {
  same : texts l.names.keys ≡ l.layers.items;
  mentioned : fold mention l.layers.items (map (λ (s : Shape). s.layer) (drop l.shape-index l.shapes)) ≡ layers_of l.shapes;
}
