use Rattle.std.proofs.Common.{◌≢◌, ◌∙◌, inl, inr, ap, arith, rules}
use Rattle.command_ends.specs.Status.{ending_status}
use Rattle.commands.specs.Changes.{HasLaidOut}
use Rattle.commands.specs.Done.{end_seen}
use Rattle.commands.proofs.CarriedLaws.{changes-of, kept-there, said-of}
use Rattle.commands.proofs.NotedLaws.{quiet-run, told-run}
use Rattle.commands.proofs.Endings.{command-still, fails-there, file-still, if-said, rose-still, sink-fails, whole-front}
use Rattle.commands.proofs.Tellings.{IsTold, nine-begun, tells-begun, tells-calm, tells-fault, tells-judged, tells-laid, tells-listed, tells-marked, tells-number, tells-rose, tells-said, tells-unjudged}
use Rattle.commands.proofs.top.run.Goals as goal

pub returns : goal.returns
returns g c =
    let e = end_seen c.carry_out-ending.result in
    let k = c.carry_out-ending.ensures.carried in
    let t = c.report-status.ensures in
    let n = c.report-status.result in
    let told : IsTold n (ending_status e) = tells-number n _ _ _ _ e t in
    let not_laid : n ≢ 0 → n ≢ 9 → HasLaidOut e → ⊥ =
    λ not_zero not_nine laid. elim (tells-laid n _ _ _ _ e t laid) [ inl zero ↦ not_zero zero | inr nine ↦ not_nine nine ] in
    record {
      listed = tells-listed n _ _ _ _ e t;
      usage = λ two. k.usage (omega (arith, told, two));
      no_command = λ none. elim (k.no_command none) [ inl two ↦ inl (omega (arith, told, two)) | inr ten ↦ inr (omega (arith, told, ten)) ];
      ends = record { ending = e; is = if-said _ _ (λ said says. (k.said said says).ends); tells = t };
      kept = λ command said file comes writes few.
          kept-there _ _ _ command said _ e n (k.laid) comes.asked told few (c.carry_out-ending.ensures.kept command said comes.asked comes.says);
      none = λ not_zero not_nine. k.changes.none (not_laid not_zero not_nine);
      unkept = λ command is none. k.unkept command is none;
      laid = λ names is. tells-unjudged n _ _ _ _ e t (k.laid names is);
      written = λ command said file comes writes few. (said-of k comes).written file writes (omega (arith, told, few));
      marked = λ names file is some few. tells-marked n _ _ _ _ e _ t (omega (arith, few)) (k.marked names file is some);
      headline = λ names stated bytes held is states source zero. k.headline names stated bytes held is states source (omega (arith, told, zero));
      edges = λ names stated bytes held is ports states source zero. k.edges names stated bytes held is ports states source (omega (arith, told, zero));
      good = λ names stated bytes text is states design cif. (tells-judged n _ _ _ _ e _ t (k.judges names stated bytes text is states design cif)).0;
      faulty = λ names stated bytes text is states design cif. (tells-judged n _ _ _ _ e _ t (k.judges names stated bytes text is states design cif)).1;
      drawn = λ names text held is layout zero. k.drawn names text held is layout (omega (arith, told, zero));
      imported = λ names netlist cells held is first second zero. k.imported names netlist cells held is first second (omega (arith, told, zero));
      front = λ command said file comes writes nine. elim told [
        | inl stop ↦ (said-of k comes).front file writes (omega (arith, stop, nine))
        | inr done ↦ whole-front said _ _ _ ((said-of k comes).written file writes done.0)
      ];
      whole = λ command said file comes writes nine still. elim told [
        | inl stop ↦ absurd (rose-still _ _ ((changes-of k comes.asked).cause (omega (arith, stop, nine)) file writes) still)
        | inr done ↦ (said-of k comes).written file writes done.0
      ];
      read_cause = λ command is eight. k.cause command is (omega (arith, told, eight));
      write_cause = λ command is nine. elim told [
        | inl stop ↦ fails-there _ _ _ _ _ ((changes-of k is).begun (nine-begun e _ (omega (arith, stop, nine)))) ((changes-of k is).cause (omega (arith, stop, nine)))
        | inr done ↦ sink-fails _ _ _ _ _ (tells-rose n _ _ _ _ e t nine done.0)
      ];
      fault = λ command file is writes. tells-fault n _ _ _ _ e _ _ t (λ other. ap (λ count. count file) (k.changes.same_writes other));
      reads = λ other. k.changes.same_reads (λ eight. other (omega (arith, told, eight)));
      writes = λ other. k.changes.same_writes (λ nine. other (omega (arith, told, nine)));
      untouched = λ not_zero not_one not_nine.
          k.changes.untouched (λ begun. elim (tells-begun n _ _ _ _ e _ t begun) [ inl few ↦ absurd (not_one (omega (arith, few, not_zero))) | inr nine ↦ absurd (not_nine nine) ]);
      others = λ command other is. (changes-of k is).others other;
      files = λ command is none. (changes-of k is).untouched (λ begun. (changes-of k is).begun begun none);
      unwritten = λ command is none. k.changes.same_writes (λ nine. (changes-of k is).begun (nine-begun e _ nine) none);
      complete = λ command said comes quiet.
          tells-said n _ _ _ _ e _ said t (said-of k comes).ends quiet.sink (λ eight. command-still command _ _ _ quiet.reads (k.cause command comes.asked eight))
          (λ nine. file-still _ _ _ quiet.writes ((changes-of k comes.asked).begun (nine-begun e _ nine)) ((changes-of k comes.asked).cause nine));
      notes = told-run g.N.Sink.written g.N.Sink.faults _ _ _ _ _ _ _ _ _ _ _ _ c.forewarn-forewarned.ensures.noted c.new-watch.ensures.now c.new-watch.ensures.going
          c.carry_out-ending.ensures.goes c.is_going-going.ensures c.tell.ensures.silent c.tell.ensures.noted (search rules);
      quiet = λ command is quiet.
          quiet-run g.N.Sink.written g.N.Sink.faults _ _ _ _ _ _ _ _ _ _ (c.forewarn-forewarned.ensures.quiet command is quiet) c.new-watch.ensures.now
          c.carry_out-ending.ensures.goes (c.new-watch.ensures.wished ∙ c.wishes_progress-wished.ensures command is quiet) (c.tell.ensures.quiet command is quiet) (search rules);
      calm = λ few. tells-calm n _ _ _ _ e t (omega (arith, few));
    }
