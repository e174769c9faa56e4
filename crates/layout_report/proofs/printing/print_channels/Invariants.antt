use Rattle.std.proofs.Common.{◌≡◌, ◌+◌, ◌++◌, ℕ, List, Option, length, true}
use Rattle.shelf_io.specs.Wrote.{PutToEnd}
use Rattle.layout_report.specs.SummaryText.{channels_text}
use Rattle.layout_report.specs.declared.summary.ChannelLine.{ChannelLine}
use Rattle.layout_report.proofs.printing.print_channels.Given as goal

-- the lines so far were put, and those of the channels that are left are the rest of all
pub record HasPut (all rest : List ChannelLine) (number : ℕ) (told told_now : Option (List ℕ)) (faults faults_now : ℕ) (else_same : Type 0) : Type 0 where
  pub done : List ℕ
  pub split : done ++ channels_text number rest ≡ channels_text 0 all
  pub put : PutToEnd done told told_now faults faults_now else_same

abbrev pub invariant-loop-channel : goal.invariant-loop-channel
invariant-loop-channel g l = record {
  place : g.K.Sink.same_place l.fn.out l.out;
  has_put : HasPut l.fn.channels l.rest l.number (g.K.Sink.written l.fn.out) (g.K.Sink.written l.out) (g.K.Sink.faults l.fn.out) (g.K.Sink.faults l.out)
      (g.K.Sink.else_same l.fn.out l.out true);
  count : l.number + length l.rest ≡ length l.fn.channels;
}

abbrev pub decreases-loop-channel : goal.decreases-loop-channel
decreases-loop-channel g l = length l.rest
