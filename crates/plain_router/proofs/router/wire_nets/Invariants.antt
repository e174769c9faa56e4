use Rattle.std.proofs.Common.{◌≡◌, ◌++◌}
use Rattle.plain_router.specs.Plain.{for_nets, net_segments, net_vias}
use Rattle.plain_router.proofs.router.wire_nets.Given as goal

abbrev pub invariant-loop-place : goal.invariant-loop-place
invariant-loop-place l = record {
  segments : l.segments.items ≡ l.fn.segments.items ++ for_nets (net_segments l.channel l.nets) l.nets l.place;
  vias : l.vias.items ≡ l.fn.vias.items ++ for_nets (net_vias l.channel l.nets) l.nets l.place;
}
