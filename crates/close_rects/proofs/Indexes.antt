use Rattle.std.proofs.Common.{◌≡◌, ◌+◌, ◌*◌, ◌<◌, ◌≤◌, ◌^◌, ◌↔◌, Bool, IsTrue, ℕ, List, length, Some, true, false, arith, inl, inr, ap, sym, refl, get_or, set, [], ◌∷◌, ◌++◌, ◌∙◌}
use Rattle.std.proofs.lemmas.List.{length-set}
use Rattle.std.specs.List.{slice_get}
use Rattle.std.proofs.lemmas.Option.{slice_get_read, slice_get_within}
use Rattle.std.proofs.lemmas.Bool.{cases_lt}
use Rattle.geom_core.specs.Extent.{Extent}
use Rattle.geom_core.specs.Rectangles.{Encloses, Meet}
use Rattle.close_rects.specs.declared.items.Item.{Item}
use Rattle.close_rects.specs.declared.blocks.Node.{Node}
use Rattle.close_rects.specs.Blocks.{Covers, IsNode, IsIndexed, NoneMet}
use Rattle.close_rects.proofs.Windows.{Meet-enclosing, Encloses-trans}
use Rattle.std_laws.proofs.Places.{slice_get-set, slice_get-push}

-- bounds round two neighbouring stretches
pub Covers-over : (items : List Item) (low middle high : ℕ) (a b whole : Extent) → Covers items low middle a → Covers items middle high b
    → Encloses whole a → Encloses whole b → Covers items low high whole
Covers-over items low middle high a b whole first second round_a round_b k item on below is left =
    elim (cases_lt k middle) [
      | inl early ↦ Encloses-trans whole a item.rect round_a (first k item on early is left)
      | inr late ↦ Encloses-trans whole b item.rect round_b (second k item late below is left)
    ]

-- what meets no bounds meets nothing within
pub NoneMet-covered : (items : List Item) (low high start stop : ℕ) (window bounds : Extent) → start ≤ low → high ≤ stop
    → Covers items start stop bounds → ¬ Meet window bounds → NoneMet items window low high
NoneMet-covered items low high start stop window bounds from to covers apart k item on below is met =
    apart (Meet-enclosing window bounds item.rect (covers k item (omega arith) (omega arith) is met.left) met.meets)

-- what the node that is read tells
pub IsNode-at : (items : List Item) (nodes : List Node) (b : ℕ) (node : Node) → IsIndexed items nodes → b < length nodes
    → node ≡ get_or nodes b node → IsNode items (length nodes) b node
IsNode-at items nodes b node indexed within is = indexed.each b node (slice_get_read nodes (length nodes) b node refl within is)

-- bounds that reach one item further
pub Covers-more : (items : List Item) (low at : ℕ) (item : Item) (a whole : Extent) → slice_get items at ≡ Some item
    → Covers items low at a → Encloses whole a → (item.taken ≡ false → Encloses whole item.rect) → Covers items low (at + 1) whole
Covers-more items low at item a whole here covers round added k other on below is left =
    elim (cases_lt k at) [
      | inl early ↦ Encloses-trans whole a other.rect round (covers k other on early is left)
      | inr late ↦
          let same : k ≡ at = omega arith in
          let one : Some other ≡ Some item = cc in
          let it : other ≡ item = cc in
          rw it (added (rw it at left))
    ]

-- a node that tells the truth may be written
pub IsIndexed-set : (items : List Item) (nodes : List Node) (b : ℕ) (node : Node) → IsIndexed items nodes → IsNode items (length nodes) b node
    → IsIndexed items (set nodes b node)
IsIndexed-set items nodes b node indexed told = record {
  each = λ k other is. rw length-set (elim (slice_get-set nodes b k node other is) [
    | inl same ↦ rw (same.0, same.1) told
    | inr kept ↦ indexed.each k other kept
  ]);
  enough = rw length-set indexed.enough;
  short = rw length-set indexed.short;
  few = indexed.few;
}

-- a test that fails refutes what it decides
pub not_met : (window bounds : Extent) (test : Bool) → (IsTrue test ↔ Meet window bounds) → test ≡ false → ¬ Meet window bounds
not_met window bounds test decides failed meets = let held : test ≡ true = decides.1 meets in cc

-- a node that tells of its block alone
pub record IsSingle (items : List Item) (b : ℕ) (node : Node) : Type 0 where
  pub next : node.next ≡ b + 1
  pub own : Covers items (8 * b) (8 * b + 8) node.own
  pub all : Covers items (8 * b) (8 * b + 8) node.all

abbrev pub EachSingle : List Item → List Node → Type 0
EachSingle items nodes = (b : ℕ) (node : Node) → slice_get nodes b ≡ Some node → IsSingle items b node

pub EachSingle-push : (items : List Item) (nodes pushed : List Node) (node : Node) → pushed ≡ nodes ++ node ∷ [] → EachSingle items nodes
    → IsSingle items (length nodes) node → EachSingle items pushed
EachSingle-push items nodes pushed node is each single b other at =
    elim (slice_get-push nodes b node other (rw is at at)) [
      | inl same ↦ rw (same.0, same.1) single
      | inr kept ↦ each b other kept
    ]

pub IsIndexed-single : (items : List Item) (nodes : List Node) → EachSingle items nodes → length items ≤ 8 * length nodes
    → length nodes ≤ length items → length items < 2 ^ 32 → IsIndexed items nodes
IsIndexed-single items nodes each enough short few = record {
  each = λ b node is.
      let single : IsSingle items b node = each b node is in
      let next : node.next ≡ b + 1 = single.next in
      let within : b < length nodes = slice_get_within nodes b node is in
      record {
        on = omega arith;
        within = omega arith;
        own = single.own;
        all = λ k item on below. single.all k item on (omega arith);
      };
  enough = enough;
  short = short;
  few = few;
}

-- bounds stay bounds where a rectangle is taken
pub Covers-taken : (items : List Item) (at low high : ℕ) (item : Item) (bounds : Extent) → item.taken ≡ true → Covers items low high bounds
    → Covers (set items at item) low high bounds
Covers-taken items at low high item bounds gone covers k other on below is left =
    elim (slice_get-set items at k item other is) [
      | inl same ↦
          let it : other ≡ item = same.1 in
          let false_is : false ≡ true = sym left ∙ ap (λ (i : Item). i.taken) it ∙ gone in
          cc
      | inr kept ↦ covers k other on below kept left
    ]

pub IsIndexed-taken : (items : List Item) (nodes : List Node) (at : ℕ) (item : Item) → item.taken ≡ true → IsIndexed items nodes
    → IsIndexed (set items at item) nodes
IsIndexed-taken items nodes at item gone indexed = record {
  each = λ b node is. let told : IsNode items (length nodes) b node = indexed.each b node is in record {
    on = told.on;
    within = told.within;
    own = Covers-taken items at _ _ item _ gone told.own;
    all = Covers-taken items at _ _ item _ gone told.all;
  };
  enough = rw length-set indexed.enough;
  short = rw length-set indexed.short;
  few = rw length-set indexed.few;
}
