use Rattle.std.proofs.lemmas.List.{length-map}
use Rattle.close_rects.proofs.members.Members.items.Goals as goal

pub numbered-requires : goal.numbered-requires
numbered-requires c = rw (c.as_slice.ensures.value, c.in_ok-rects.ensures, length-map) c.self.invariant.0

pub returns : goal.returns
returns c = rw (← c.self.view_is) (record {
  moved = rw (c.in_ok-items.ensures.numbered, c.as_slice.ensures.value, c.in_ok-rects.ensures) at c.ordered.ensures;
  inside = rw (c.as_slice.ensures.value, c.in_ok-rects.ensures) at c.in_ok-items.ensures.inside;
  reach = c.self.invariant.1;
})
