use Rattle.cif_writer.proofs.layout.write_layout_watched.Goals as goal
use Rattle.std.proofs.Common.{◌≡◌, ℕ, List, ap, is_some, map, option_map, refl, subst}
use Rattle.std.proofs.lemmas.Result.{on_err_weaker, on_ok_weaker}
use Rattle.std.specs.List.{All}
use Rattle.channel_model.specs.Elements.{elements}
use Rattle.channel_model.specs.Wired.{IsOnGrid}
use Rattle.channel_model.specs.declared.wiring.Wiring.{Wiring}
use Rattle.channel_stack.specs.Stack.{LaidOut, stack_of}
use Rattle.design_model.specs.Netlist.{IsNetlist}
use Rattle.shelf_io.specs.OtherFiles.{others-then}
use Rattle.shelf_io.proofs.WritesLaws.{puts-same}
use Rattle.cif_writer.specs.Labels.{first_pins}
use Rattle.cif_writer.proofs.LabelLaws.{label-parts}
use Rattle.std_laws.proofs.Options.{some_mapped}
use Rattle.cif_writer.proofs.BegunLaws.{begun-front, begun-whole}
use Rattle.cif_writer.proofs.SymbolDrawings.{whole-text}
use Rattle.cif_writer.proofs.SymbolReach.{symbols-reach}
use Rattle.cif_writer.proofs.Writable.{places-reach, risers-reach, stack-reach}
use Rattle.cif_writer.proofs.WrittenStack.{stack-reads}
use Rattle.std_laws.proofs.Every.{every-from-get}

pub put_design-requires : goal.put_design-requires
unfolding stack_of
put_design-requires g c =
    let routed = c.args.routed.now in
    let netlist : IsNetlist c.args.routed.now.design.now = subst IsNetlist c.design.view_is c.design.invariant.netlist in
    record {
      parts = label-parts routed.rules.now routed.design.now routed.fed.now c.requires.valid netlist c.requires.fed routed.symbols.now.drawings c.requires.symbols
          (option_map (λ firsts. firsts.now) routed.labels)
          (some_mapped (λ firsts. firsts.now ≡ first_pins routed.design.now) (λ (all : List ℕ). all ≡ first_pins routed.design.now) (λ firsts. firsts.now) routed.labels (λ firsts are. are) c.requires.labels);
      reach = record {
        on_grid = every-from-get (λ (w : Wiring). All (IsOnGrid w.columns w.tracks) (elements w)) (map g.W.HasWiring.wiring_of routed.wirings.now) c.requires.wired.on_grid;
        wires = rw (ap (λ (l : LaidOut). l.channel_base) c.requires.laid)
            (stack-reach routed.rules.now routed.design.now routed.fed.now (map g.W.HasWiring.wiring_of routed.wirings.now) c.requires.valid c.requires.fed c.requires.wired);
        risers = rw (ap (λ (l : LaidOut). l.risers) c.requires.laid)
            (risers-reach routed.rules.now routed.design.now routed.fed.now (map g.W.HasWiring.wiring_of routed.wirings.now) c.requires.valid c.requires.fed c.requires.wired);
        places = rw (ap (λ (l : LaidOut). l.cells) c.requires.laid)
            (places-reach routed.rules.now routed.design.now routed.fed.now (map g.W.HasWiring.wiring_of routed.wirings.now) c.requires.valid netlist c.requires.fed c.requires.wired);
        shapes = rw c.requires.symbols (symbols-reach routed.rules.now routed.design.now routed.fed.now c.requires.valid netlist c.requires.fed);
      };
    }

pub returns : goal.returns
returns g c =
    let rules = c.args.routed.now.rules.now in
    let design = c.args.routed.now.design.now in
    let fed = c.args.routed.now.fed.now in
    let wirings = (map g.W.HasWiring.wiring_of c.args.routed.now.wirings.now) in
    let netlist : IsNetlist c.args.routed.now.design.now = subst IsNetlist c.design.view_is c.design.invariant.netlist in
    let whole = whole-text (is_some c.args.routed.now.labels) rules design fed wirings c.args.routed.now.symbols.now.drawings c.args.routed.now.symbols.now.feed_heights c.args.routed.now.laid.now c.requires.symbols c.requires.feeds c.requires.laid in
    let begun = c.in_ok-begin.ensures in
    let put = rw whole at c.put_design.ensures.put in
    record {
      text = on_ok_weaker c.put_design.result (λ all. begun-whole _ _ _ begun.emptied all.whole) put.ended;
      reads_as = stack-reads (is_some c.args.routed.now.labels) rules c.requires.valid design netlist c.requires.high fed c.requires.fed wirings c.requires.wired;
      front = on_err_weaker c.put_design.result (λ part. begun-front _ _ _ _ begun.emptied part.front) put.failed;
      others = others-then _ refl (record { others = begun.others; same_reads = begun.reads; same_writes = λ _. begun.quiet }) (puts-same c.put_design.result put);
      cause = on_err_weaker c.put_design.result (λ part. rw begun.quiet at part.cause) put.failed;
      goes = c.put_design.ensures.goes;
    }

pub returns-in_err-begin-clause-reads_as : goal.returns-in_err-begin-clause-reads_as
returns-in_err-begin-clause-reads_as g c =
    let netlist : IsNetlist c.args.routed.now.design.now = subst IsNetlist c.design.view_is c.design.invariant.netlist in
    stack-reads (is_some c.args.routed.now.labels) c.args.routed.now.rules.now c.requires.valid c.args.routed.now.design.now netlist c.requires.high c.args.routed.now.fed.now c.requires.fed (map g.W.HasWiring.wiring_of c.args.routed.now.wirings.now) c.requires.wired

pub returns-in_err-begin-clause-goes : goal.returns-in_err-begin-clause-goes
returns-in_err-begin-clause-goes g c = g.met.V.Watch.goes_here c.args.watch.now
