use Rattle.finding_markers.proofs.markers.write_markers.Goals as goal
use Rattle.std.proofs.Common.{refl}
use Rattle.std.proofs.lemmas.Result.{on_err_weaker, on_ok_weaker}
use Rattle.shelf_io.specs.OtherFiles.{others-then}
use Rattle.shelf_io.proofs.WritesLaws.{puts-same}
use Rattle.marker_text.proofs.BegunLaws.{begun-front, begun-whole}

pub returns : goal.returns
returns g c =
    let begun = c.in_ok-begin.ensures in
    let put = c.put_file.ensures in
    record {
      text = on_ok_weaker c.put_file.result (λ all. begun-whole _ _ _ begun.emptied all.whole) put.ended;
      front = on_err_weaker c.put_file.result (λ part. begun-front _ _ _ _ begun.emptied part.front) put.failed;
      others = others-then _ refl (record { others = begun.others; same_reads = begun.reads; same_writes = λ _. begun.quiet }) (puts-same c.put_file.result put);
      cause = on_err_weaker c.put_file.result (λ part. rw begun.quiet at part.cause) put.failed;
    }
