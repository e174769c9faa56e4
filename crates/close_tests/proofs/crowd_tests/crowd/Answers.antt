use Rattle.std.proofs.Common.{rules}
use Rattle.std.proofs.lemmas.List.Elements.{All-push}
use Rattle.close_rects.specs.Crowds.{KeepsInReach}
use Rattle.close_tests.proofs.crowd_tests.crowd.Goals as goal

pub loop-k-preserved : goal.loop-k-preserved
loop-k-preserved c = record {
  len = search rules;
  reach = rw c.in_ok-push.ensures.items (All-push KeepsInReach c.loop-k.members.items c.numbered.result c.loop-k.invariant.reach c.numbered.ensures);
}
