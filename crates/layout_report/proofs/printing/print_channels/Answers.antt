use Rattle.layout_report.proofs.printing.print_channels.Goals as goal
use Rattle.std.proofs.Common.{rules, ◌≡◌, ◌+◌, ◌++◌, ◌∷◌, ◌∙◌, ℕ, List, [], Option, ap, append_assoc, append-nil, arith, length, refl, subst, sym, true, false}
use Rattle.std.proofs.lemmas.List.{nil_from_length}
use Rattle.shelf_io.specs.Wrote.{PutToEnd, Failed}
use Rattle.shelf_io.proofs.WroteLaws.{ended-none, ended-then, failed-first, failed-then, puts-failed}
use Rattle.layout_report.specs.SummaryText.{channel_text, channels_text}
use Rattle.layout_report.specs.declared.summary.ChannelLine.{ChannelLine}
use Rattle.layout_report.proofs.printing.print_channels.Invariants.{HasPut}

-- where the next channel's line was put, one more is put
one-more : {all rest : List ChannelLine} (after : List ChannelLine) (c : ChannelLine) {number : ℕ} {o m n : Option (List ℕ)} {f g h : ℕ} {P Q R : Type 0} → (P → Q → R)
    → rest ≡ c ∷ after → HasPut all rest number o m f g P → PutToEnd (channel_text number c) m n g h Q → HasPut all after (number + 1) o n f h R
one-more {all = all} after c {number = number} join is put next =
    let whole : put.done ++ (channel_text number c ++ channels_text (number + 1) after) ≡ channels_text 0 all = rw is at put.split in
    record {
      done = put.done ++ channel_text number c;
      split = append_assoc put.done (channel_text number c) (channels_text (number + 1) after) ∙ whole;
      put = ended-then join put.put next;
    }

-- and where it was put in part, a front of all is put
in-part : {all rest : List ChannelLine} (after : List ChannelLine) (c : ChannelLine) {number : ℕ} {o m n : Option (List ℕ)} {f g h : ℕ} {P Q R : Type 0} → (P → Q → R)
    → rest ≡ c ∷ after → HasPut all rest number o m f g P → Failed (channel_text number c) m n g h Q → Failed (channels_text 0 all) o n f h R
in-part {all = all} after c {number = number} {o = o} {n = n} {f = f} {h = h} {R = R} join is put next =
    let whole : put.done ++ (channel_text number c ++ channels_text (number + 1) after) ≡ channels_text 0 all = rw is at put.split in
    subst (λ (text : List ℕ). Failed text o n f h R) whole (failed-then join put.put (failed-first (channels_text (number + 1) after) next))

-- where none is left all are put
all-put : {all : List ChannelLine} (rest : List ChannelLine) {number : ℕ} {o n : Option (List ℕ)} {f h : ℕ} {P : Type 0}
    → rest ≡ [] → HasPut all rest number o n f h P → PutToEnd (channels_text 0 all) o n f h P
all-put {all = all} rest {number = number} {o = o} {n = n} {f = f} {h = h} {P = P} is put =
    let whole : put.done ++ [] ≡ channels_text 0 all = rw is at put.split in
    subst (λ (text : List ℕ). PutToEnd text o n f h P) (sym (append-nil put.done) ∙ whole) put.put

pub loop-channel-init : goal.loop-channel-init
loop-channel-init g c = record {
  place = g.met.K.Sink.place_here c.args.out.now;
  has_put = record { done = []; split = rw c.items-rest.ensures refl; put = ended-none _ _ (g.met.K.Sink.same_here c.args.out.now) };
  count = omega (arith, ap length c.items-rest.ensures);
}

pub returns-in_err-print_channel : goal.returns-in_err-print_channel
returns-in_err-print_channel g c =
    puts-failed c.from_residual.result c.from_residual.ensures.0 (g.met.K.Sink.place_then _ _ _ c.loop-channel.invariant.place c.in_err-print_channel.ensures.place)
    (in-part c.in-Some.after.now c.in-Some.channel.now (g.met.K.Sink.same_then _ _ _ false) c.in-Some.ensures.cases.0 c.loop-channel.invariant.has_put
    c.in_err-print_channel.ensures.failed)

pub loop-channel-preserved : goal.loop-channel-preserved
loop-channel-preserved g c = record {
  place = g.met.K.Sink.place_then _ _ _ c.loop-channel.invariant.place c.in_ok-print_channel.ensures.place;
  has_put = one-more c.in-Some.after.now c.in-Some.channel.now (g.met.K.Sink.same_then _ _ _ true) c.in-Some.ensures.cases.0 c.loop-channel.invariant.has_put
      c.in_ok-print_channel.ensures.ended;
  count = search (rules, arith);
}

pub returns : goal.returns
returns g c =
    let none : c.loop-channel.rest.now ≡ [] = nil_from_length c.loop-channel.rest.now c.in_default.ensures.cases in
    record { place = c.loop-channel.invariant.place; ended = all-put c.loop-channel.rest.now none c.loop-channel.invariant.has_put; failed = tt }
