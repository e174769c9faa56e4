use Rattle.std.proofs.Common.{◌≤◌, ◌-◌, length, take, true}
use Rattle.shelf_io.specs.Wrote.{PutToEnd}
use Rattle.shelf_io.proofs.printing.put_whole.Given as goal

-- the first `done` bytes were put, and nothing has failed
abbrev pub invariant-loop-done : goal.invariant-loop-done
invariant-loop-done g l = record {
  within : l.done ≤ length l.bytes;
  place : g.K.Sink.same_place l.fn.out l.out;
  put : PutToEnd (take l.done l.bytes) (g.K.Sink.written l.fn.out) (g.K.Sink.written l.out) (g.K.Sink.faults l.fn.out) (g.K.Sink.faults l.out)
      (g.K.Sink.else_same l.fn.out l.out true);
}

abbrev pub decreases-loop-done : goal.decreases-loop-done
decreases-loop-done g l = length l.bytes - l.done
