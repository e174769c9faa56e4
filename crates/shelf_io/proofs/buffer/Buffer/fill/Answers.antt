use Rattle.shelf_io.proofs.buffer.Buffer.fill.Goals as goal
use Rattle.std.proofs.Common.{◌≡◌, ◌++◌, ◌∙◌, ap, sym, length, take, arith, length-take, ℕ, List}
use Rattle.std.proofs.lemmas.List.{length-append}
use Rattle.shelf_io.proofs.WroteLaws.{puts-piece, wrote-kept}

-- what is laid behind the buffered bytes
pub returns-then-end-lt-PIECE : goal.returns-then-end-lt-PIECE
returns-then-end-lt-PIECE g c =
    let laid : take c.lay-end.result c.lay-end.new.piece ≡ c.args.self.now ++ c.args.bytes.now =
    c.lay-end.ensures.text ∙ ap (λ (l : List ℕ). l ++ c.args.bytes.now) c.self.view_is in
    record { place = g.met.K.Sink.place_here c.args.out.now; wrote = rw laid (wrote-kept c.args.bytes.now c.args.self.now _ _ (g.met.K.Sink.same_here c.args.out.now)); failed = tt }

pub returns : goal.returns
returns g c =
    let laid : take c.lay-end.result c.lay-end.new.piece ≡ c.args.self.now ++ c.args.bytes.now =
    c.lay-end.ensures.text ∙ ap (λ (l : List ℕ). l ++ c.args.bytes.now) c.self.view_is in
    let inside : length c.args.self.now ≡ c.self.inside.len =
    ap length (sym c.self.view_is) ∙ length-take c.self.inside.len c.self.inside.bytes ∙ omega (arith, c.self.told) in
    puts-piece c.put_whole.result c.args.bytes.now c.args.self.now (omega (arith, inside, length-append c.args.self.now c.args.bytes.now)) (rw laid at c.put_whole.ensures)
