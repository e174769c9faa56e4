use Rattle.std.proofs.Common.{rules, ◌≡◌, ◌-◌, ℕ, List, length, take, drop, arith, length-drop, ap, true, false}
use Rattle.std.proofs.lemmas.List.{take_all}
use Rattle.std.proofs.Math.Seq.{take-add}
use Rattle.shelf_io.proofs.WroteLaws.{ended-front, ended-none, ended-then, puts-failed}
use Rattle.shelf_io.proofs.printing.put_whole.Goals as goal

pub loop-done-init : goal.loop-done-init
loop-done-init g c = record { within = search rules; place = g.met.K.Sink.place_here c.args.out.now; put = ended-none _ _ (g.met.K.Sink.same_here c.args.out.now) }

-- what the call appends to what has been put is the next front of the bytes
pub loop-done-preserved : goal.loop-done-preserved
loop-done-preserved g c =
    let bytes : List ℕ = c.args.bytes.now in
    let left : List ℕ = drop c.loop-done.done bytes in
    let width : ℕ = length bytes - c.loop-done.done in
    let n : ℕ = c.in_ok-done.field-0 in
    let size : length left ≡ width = length-drop c.loop-done.done bytes in
    let whole : take width left ≡ left = take_all width left (omega (arith, size)) in
    let piece : take n (take width left) ≡ take n left = ap (take n) whole in
    let e = c.in_ok-done.ensures in
    record {
      within = omega (arith, e.fits, size, ap length whole);
      place = g.met.K.Sink.place_then _ _ _ c.loop-done.invariant.place e.place;
      put = rw take-add (ended-then (g.met.K.Sink.same_then _ _ _ true) c.loop-done.invariant.put
          (record { whole = rw piece at e.appended; quiet = e.quiet; same = e.same }));
    }

pub returns-in_err-done : goal.returns-in_err-done
returns-in_err-done g c =
    let bytes : List ℕ = c.args.bytes.now in
    let e = c.in_err-done.ensures in
    puts-failed c.from_residual.result c.from_residual.ensures.0 (g.met.K.Sink.place_then _ _ _ c.loop-done.invariant.place e.place)
    (record {
      front = ended-front bytes c.loop-done.done c.loop-done.invariant.put e.failed;
      cause = rw (← c.loop-done.invariant.put.quiet) e.cause;
      later = rw (← c.loop-done.invariant.put.quiet) e.later;
      same = g.met.K.Sink.same_then _ _ _ false c.loop-done.invariant.put.same e.same;
    })

pub returns : goal.returns
returns g c =
    let bytes : List ℕ = c.args.bytes.now in
    record { place = c.loop-done.invariant.place; ended = rw (take_all c.loop-done.done bytes (search rules)) at c.loop-done.invariant.put; failed = tt }
